-- `expander::tokens::is_newline` meets its contract. Assumes nothing.
use Rattle.rules.proofs.Base.{ℕ, ◌∙◌, sym, ap, eqb}
use Rattle.rules.specs.Marks.{mark_text}
use Rattle.expander.proofs.Comments.{newline_byte, newline_other_length}
use Rattle.expander.proofs.tokens.is_newline.Goals as goal

pub returns-then-mark_length-ne1 : goal.returns-then-mark_length-ne1
returns-then-mark_length-ne1 c = newline_other_length (mark_text c.args.m) (λ h. c.if-mark_length-ne1.true (c.mark_length.ensures.whole ∙ h))

pub returns : goal.returns
returns c =
    ap (λ (x : ℕ). eqb x 10) c.first_byte.ensures.byte
    ∙ newline_byte (mark_text c.args.m) (sym c.mark_length.ensures.whole ∙ c.if-mark_length-ne1.false)

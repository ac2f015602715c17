-- `expander::tokens::stands` meets its contract. Assumes nothing.
use Rattle.rules.proofs.Base.{◌∙◌, sym, ap, arith, ltb, drop, rules}
use Rattle.rules.specs.Marks.{mark_text}
use Rattle.expander.specs.Source.{bytes_of}
use Rattle.expander.proofs.MarkPlaces.{mark_length, mark_byte, no_mark, at_begins, not_at, at_one}
use Rattle.expander.proofs.tokens.stands.Goals as goal

pub returns-then-m-eq0 : goal.returns-then-m-eq0
returns-then-m-eq0 c =
    let a = c.args in
    sym (no_mark (mark_text a.m) (drop a.i (bytes_of a.ahead)) (omega (arith, (mark_length a.m (search rules) c.requires.0).whole)))

pub returns-then-m-x : goal.returns-then-m-x
returns-then-m-x c =
    let a = c.args in
    sym (not_at (mark_text a.m) (bytes_of a.ahead) a.i (omega (arith, (mark_length a.m (search rules) c.requires.0).whole)) (λ q. c.if-m-x.true (mark_byte a.m 0 (omega arith) ∙ q ∙ sym c.requires.2)))

pub returns-then-m-eq1 : goal.returns-then-m-eq1
returns-then-m-eq1 c =
    let a = c.args in
    ap (ltb a.i) c.len.ensures.whole
    ∙ sym (at_one (mark_text a.m) (bytes_of a.ahead) a.i (omega (arith, c.if-m-eq1.true, (mark_length a.m (search rules) c.requires.0).whole)) (sym (mark_byte a.m 0 (omega (arith, c.if-m-eq1.true))) ∙ c.if-m-x.false ∙ c.requires.2))

pub returns : goal.returns
returns c =
    let a = c.args in
    c.mark_at.ensures ∙ sym (at_begins (mark_text a.m) (drop a.i (bytes_of a.ahead)) (omega (arith, (mark_length a.m (search rules) c.requires.0).whole)))

-- `expander::change_marks::changequote` meets its contract, by the number of arguments. Assumes nothing.
use Rattle.rules.proofs.Base.{◌∙◌, sym, refl}
use Rattle.expander.specs.Arguments.{args_of}
use Rattle.expander.proofs.SteppedLaws.{refines_by}
use Rattle.expander.proofs.ChangeMarksLaws.{changequote_none, changequote_some}
use Rattle.expander.proofs.change_marks.changequote.Goals as goal

pub returns-then-count-eq0 : goal.returns-then-count-eq0
returns-then-count-eq0 c =
    let e = c.with_default_quotes.ensures in
    λ a s b r. changequote_none r (args_of c.args.x) (sym c.count.ensures ∙ c.if-count-eq0.true) e.0 c.on.ensures e.1 e.2

pub returns : goal.returns
returns c =
    λ a s b r.
    refines_by (changequote_some (args_of c.args.x) s c.argument-begin.ensures c.end_mark-end.ensures (λ e. c.if-count-eq0.false (c.count.ensures ∙ e)))
    refl (c.change_quotes.ensures a s b r)

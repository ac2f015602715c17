-- `expander::machine::Machine::with_default_quotes` meets its contract: those of the default marks. Assumes nothing.
use Rattle.rules.proofs.Base.{◌∙◌, ap}
use Rattle.rules.specs.Marks.{MarkTexts, mark_texts, with_quotes}
use Rattle.expander.proofs.machine.Machine.with_default_quotes.Goals as goal

pub returns : goal.returns
unfolding mark_texts
returns c =
    let e = c.with_quotes.ensures in
    let d = c.default_marks-fresh.ensures in
    (e.0, e.1 ∙ ap (λ (z : MarkTexts). with_quotes z.begin_quote z.end_quote (mark_texts c.args.self.marks)) d.0, λ g. e.2 g d.1.begin_quote d.1.end_quote)

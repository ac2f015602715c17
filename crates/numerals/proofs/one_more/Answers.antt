-- `numerals::one_more` meets its contract. Assumes nothing.
use Rattle.rules.proofs.Base.{◌∙◌, sym}
use Rattle.numerals.proofs.Reading.{one_off}
use Rattle.numerals.proofs.one_more.Goals as goal

pub returns-then-radix-d : goal.returns-then-radix-d
returns-then-radix-d c =
    let a = c.args in
    one_off 4294967295 a.radix a.v a.b (sym c.digit_worth.ensures ∙ c.in_ok-d.was) c.if-radix-d.true

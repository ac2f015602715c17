-- `numerals::fill` meets its contract. Assumes nothing.
use Rattle.rules.proofs.Base.{rules}
use Rattle.rules.specs.Numerals.{digits_in}
use Rattle.numerals.proofs.Writing.{zeros_digits}
use Rattle.numerals.proofs.fill.Goals as goal

pub returns : goal.returns
returns c =
    let a = c.args in
    let d = c.write_digits-start in
    zeros_digits a.out.now d.new.out c.fill.new.self (digits_in a.radix a.v) d.result (search rules) d.ensures.place d.ensures.text (c.fill.ensures.after (λ y k. search rules))

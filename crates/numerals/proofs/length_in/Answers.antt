-- `numerals::length_in` meets its contract. Assumes nothing.
use Rattle.rules.proofs.Base.{◌+◌, max, ◌∙◌, sym, ap}
use Rattle.std.proofs.lemmas.Int.{to_z-of_z}
use Rattle.std.specs.Int.{w32}
use Rattle.numerals.proofs.Writing.{plain_length_lem, minus_length}
use Rattle.numerals.proofs.length_in.Goals as goal

pub returns-then-x-lt0 : goal.returns-then-x-lt0
returns-then-x-lt0 c =
    let a = c.args in
    let r = to_z-of_z w32 a.x c.ranges.x in
    ap (λ n. n + 1) (c.max-n.ensures ∙ ap (λ n. max n a.least) c.digit_count.ensures.is)
    ∙ sym (minus_length a.x a.radix c.unsigned_abs.result (rw r at c.unsigned_abs.ensures.value) a.least (rw r at c.if-x-lt0.true))

pub returns-else-x-lt0 : goal.returns-else-x-lt0
returns-else-x-lt0 c =
    let a = c.args in
    let r = to_z-of_z w32 a.x c.ranges.x in
    c.max-n.ensures
    ∙ ap (λ n. max n a.least) c.digit_count.ensures.is
    ∙ sym (plain_length_lem a.x a.radix c.unsigned_abs.result (rw r at c.unsigned_abs.ensures.value) a.least (rw r at c.if-x-lt0.false))

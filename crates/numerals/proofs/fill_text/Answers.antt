-- `numerals::fill_text` meets its contract. Assumes nothing.
use Rattle.rules.proofs.Base.{arith, rules}
use Rattle.std.proofs.lemmas.Int.{to_z-of_z}
use Rattle.std.specs.Int.{w32}
use Rattle.numerals.proofs.Writing.{plain_length_lem, fills_plain, minus_length, fills_minus}
use Rattle.numerals.proofs.fill_text.Goals as goal

pub fill_minus-requires : goal.fill_minus-requires
fill_minus-requires c =
    let a = c.args in
    let r = to_z-of_z w32 a.x c.ranges.x in
    let m = c.unsigned_abs-m in
    (search rules, search rules, omega (arith, minus_length a.x a.radix m.result (rw r at m.ensures.value) 0 (rw r at c.if-x-lt0.true)))

pub fill-requires : goal.fill-requires
fill-requires c =
    let a = c.args in
    let r = to_z-of_z w32 a.x c.ranges.x in
    let m = c.unsigned_abs-m in
    (search rules, search rules, omega (arith, plain_length_lem a.x a.radix m.result (rw r at m.ensures.value) 0 (rw r at c.if-x-lt0.false)))

pub returns-then-x-lt0 : goal.returns-then-x-lt0
returns-then-x-lt0 c =
    let a = c.args in
    let r = to_z-of_z w32 a.x c.ranges.x in
    let m = c.unsigned_abs-m in
    λ least. fills_minus a.x a.radix m.result (rw r at m.ensures.value) least (rw r at c.if-x-lt0.true) a.out.now c.fill_minus.new.out c.fill_minus.ensures

pub returns-else-x-lt0 : goal.returns-else-x-lt0
returns-else-x-lt0 c =
    let a = c.args in
    let r = to_z-of_z w32 a.x c.ranges.x in
    let m = c.unsigned_abs-m in
    λ least. fills_plain a.x a.radix m.result (rw r at m.ensures.value) least (rw r at c.if-x-lt0.false) a.out.now c.fill.new.out c.fill.ensures

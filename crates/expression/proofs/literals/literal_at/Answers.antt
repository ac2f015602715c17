-- `literals::literal_at` meets its contract. Assumes nothing.
use Rattle.std.proofs.lemmas.Int.{to_z-of_z}
use Rattle.std.proofs.lemmas.Grind.{common_steps}
use Rattle.std.specs.Int.{w32}
use Rattle.std.proofs.Common.{rules}
use Rattle.std.specs.Prelude.{FitsSigned}
use Rattle.rules.specs.Expression.{literal_at, literal_read}
use Rattle.expression.proofs.Signed.{signed_value_is}
use Rattle.rules.proofs.Base.{◌∙◌, arith}
use Rattle.expression.proofs.Digits.{token_within}
use Rattle.expression.proofs.literals.literal_at.Goals as goal

pub overflow_add-end : goal.overflow_add-end
overflow_add-end c =
    let a = c.args in
    omega (arith, token_within a.s.now a.at c.name_length.result c.name_length.ensures c.requires)

pub slice_bounds-literal-end : goal.slice_bounds-literal-end
slice_bounds-literal-end c =
    let a = c.args in
    omega (arith, token_within a.s.now a.at c.name_length.result c.name_length.ensures c.requires)

pub returns-clause-is : goal.returns-clause-is
unfolding literal_at literal_read
returns-clause-is c =
    let f : FitsSigned w32 c.cast_signed.result = search rules in
    let e = to_z-of_z w32 c.cast_signed.result f ∙ c.cast_signed.ensures ∙ signed_value_is c.in_ok-n.n in
    rw e (grind (arith, common_steps))

-- `expander::number_results::index` meets its contract. Assumes nothing.
use Rattle.rules.proofs.Base.{◌∙◌, ◌≡◌, ap, sym, arith, Some, None, Option, ℕ, ℤ}
use Rattle.std.specs.Prelude.{Ok}
use Rattle.rules.specs.Numerals.{decimal}
use Rattle.rules.specs.Results.{place_or}
use Rattle.matching.specs.Places.{placed}
use Rattle.expander.specs.Results.{answered}
use Rattle.expander.proofs.ArgumentLaws.{held_in}
use Rattle.expander.proofs.SubstitutionLaws.{counted_plain}
use Rattle.expander.proofs.NumberResultLaws.{place_small, index_is, index_known}
use Rattle.expander.proofs.number_results.index.Goals as goal
use Rattle.expander.proofs.number_results.index.Goals.{In-Ok-Some}

found : (c : In-Ok-Some) → placed c.argument-needle.result.now c.argument-text.result.now ≡ Ok (Some c.in-Ok-Some.n)
found c = sym c.first_place.ensures ∙ c.in-Ok-Some.is ∙ ap (λ (o : Option ℕ). Ok o) c.in-Ok-Some.field-0-is

pub overflow_cast-n : goal.overflow_cast-n
overflow_cast-n c = omega (arith, place_small (held_in c.args.x) c.argument-text.ensures c.argument-needle.ensures c.in-Ok-Some.n (found (goal.at.overflow_cast-n c).In-Ok-Some))

pub returns-in-Ok-Some : goal.returns-in-Ok-Some
unfolding answered place_or
returns-in-Ok-Some c =
    let h = held_in c.args.x in
    let f = found (goal.at.returns-in-Ok-Some c).In-Ok-Some in
    let l = place_small h c.argument-text.ensures c.argument-needle.ensures c.in-Ok-Some.n f in
    c.decimal.ensures ∙ ap (λ (z : ℤ). Ok (decimal z)) (counted_plain c.in-Ok-Some.n (omega (arith, l)))
    ∙ sym (ap answered (index_is h c.argument-text.ensures c.argument-needle.ensures (Some c.in-Ok-Some.n) f))

pub returns-in-Ok-None : goal.returns-in-Ok-None
unfolding answered place_or
returns-in-Ok-None c =
    let f = sym c.first_place.ensures ∙ c.in-Ok-None.is ∙ ap (λ (o : Option ℕ). Ok o) c.in-Ok-None.field-0-is in
    c.decimal-in-Ok-None.ensures ∙ sym (ap answered (index_is (held_in c.args.x) c.argument-text.ensures c.argument-needle.ensures None f))

pub returns-in-Err : goal.returns-in-Err
returns-in-Err c =
    absurd (index_known (held_in c.args.x) c.argument-text.ensures c.argument-needle.ensures _ (sym c.first_place.ensures ∙ c.in-Err.is))

-- `expander::substitution::fill_parameter` meets its contract: each kind of parameter by the function that writes its text. Assumes nothing.
use Rattle.rules.proofs.Base.{◌≤◌, ◌+◌, ℕ, ap, ◌≡◌, subst, List, arith, pos, length}
use Rattle.rules.specs.Bytes.{Bytes}
use Rattle.rules.specs.Marks.{mark_texts}
use Rattle.rules.specs.Numerals.{decimal}
use Rattle.rules.specs.Arguments.{commas}
use Rattle.expander.specs.Arguments.{args_of}
use Rattle.expander.specs.Substitution.{parameter_text, OneDigit}
use Rattle.expander.specs.declared.substitution.Parameter.{Parameter}
use Rattle.expander.proofs.ArgumentLaws.{held_in, few_arguments}
use Rattle.expander.proofs.SubstitutionLaws.{same_lays, lays_as, byte_lays}
use Rattle.expander.proofs.substitution.fill_parameter.Goals as goal
use Rattle.expander.proofs.substitution.fill_parameter.Goals.{Start}

-- the text of a parameter that is known fits behind the place
fits_as : (c : Start) {q : Parameter} → c.args.parameter ≡ q
    → c.args.at + length (parameter_text c.args.name.now (args_of c.args.x) (mark_texts c.args.marks) q) ≤ length c.args.dst.now
fits_as c e =
    let a = c.args in
    subst (λ (z : Parameter). a.at + length (parameter_text a.name.now (args_of a.x) (mark_texts a.marks) z) ≤ length a.dst.now) e c.requires.parameter_in_bounds

pub fill_text-requires : goal.fill_text-requires
unfolding parameter_text
fill_text-requires c = fits_as (goal.at.fill_text-requires c).Start c.in-Name.is

pub argument-requires : goal.argument-requires
unfolding OneDigit
argument-requires c =
    let d = subst OneDigit c.in-Argument.is c.requires.short_quotes.1 in
    (d.0, omega (arith, d.1))

pub fill_text-requires-in-Argument : goal.fill_text-requires-in-Argument
unfolding parameter_text
fill_text-requires-in-Argument c =
    omega (arith, fits_as (goal.at.fill_text-requires-in-Argument c).Start c.in-Argument.is, ap length c.argument.ensures)

pub fill_decimal-requires : goal.fill_decimal-requires
unfolding parameter_text
fill_decimal-requires c =
    let n = c.count.ensures in (
      omega (arith, n, few_arguments (held_in c.args.x)),
      omega (arith, fits_as (goal.at.fill_decimal-requires c).Start c.in-Count.is, ap (λ (z : ℕ). length (decimal (pos z))) n),
    )

pub fill_all-requires : goal.fill_all-requires
unfolding parameter_text
fill_all-requires c = record {
  short_quotes = c.bare_marks.ensures.0;
  args_in_bounds =
      omega (
        arith,
        fits_as (goal.at.fill_all-requires c).Start c.in-All.is,
        ap (λ (ws : List Bytes). length (commas ws)) (c.bare_marks.ensures.1 (args_of c.args.x)),
      );
}

pub fill_all-requires-in-Quoted : goal.fill_all-requires-in-Quoted
unfolding parameter_text
fill_all-requires-in-Quoted c = record { short_quotes = c.requires.short_quotes.0; args_in_bounds = fits_as (goal.at.fill_all-requires-in-Quoted c).Start c.in-Quoted.is }

pub returns-in-Name : goal.returns-in-Name
unfolding parameter_text
returns-in-Name c = same_lays _ _ _ c.in-Name.is c.fill_text.ensures

pub returns-in-Argument : goal.returns-in-Argument
unfolding parameter_text
returns-in-Argument c = same_lays _ _ _ c.in-Argument.is (lays_as c.argument.ensures c.fill_text-in-Argument.ensures)

pub returns-in-Count : goal.returns-in-Count
unfolding parameter_text
returns-in-Count c = same_lays _ _ _ c.in-Count.is (lays_as (ap (λ (z : ℕ). decimal (pos z)) c.count.ensures) c.fill_decimal.ensures)

pub returns-in-All : goal.returns-in-All
unfolding parameter_text
returns-in-All c = same_lays _ _ _ c.in-All.is (lays_as (ap (λ (ws : List Bytes). commas ws) (c.bare_marks.ensures.1 (args_of c.args.x))) c.fill_all.ensures)

pub returns-in-Quoted : goal.returns-in-Quoted
unfolding parameter_text
returns-in-Quoted c = same_lays _ _ _ c.in-Quoted.is c.fill_all-in-Quoted.ensures

pub returns-in-Literal : goal.returns-in-Literal
unfolding parameter_text
returns-in-Literal c = same_lays _ _ _ c.in-Literal.is (byte_lays c.args.dst.now c.args.at c.in-Literal.b (omega (arith, fits_as (goal.at.returns-in-Literal c).Start c.in-Literal.is)))

pub bounds-dst-at : goal.bounds-dst-at
unfolding parameter_text
bounds-dst-at c = omega (arith, fits_as (goal.at.bounds-dst-at c).Start c.in-Literal.is)

-- `expander::substitution::parameter_named` meets its contract: a law for each byte behind `$`. Assumes nothing.
use Rattle.rules.proofs.Base.{◌∙◌, sym, ◌≡◌, true}
use Rattle.rules.specs.Bytes.{is_digit}
use Rattle.rules.proofs.Classes.{digit_bounds}
use Rattle.expander.proofs.SubstitutionLaws.{leads_name, leads_count, leads_all, leads_quoted, leads_argument, leads_dollar}
use Rattle.expander.proofs.substitution.parameter_named.Goals as goal
use Rattle.expander.proofs.substitution.parameter_named.Goals.{Then-is_digit}

digit : (c : Then-is_digit) → is_digit c.args.y ≡ true
digit c = sym c.is_digit.ensures ∙ c.if-is_digit.true

pub returns-then-is_digit : goal.returns-then-is_digit
returns-then-is_digit c = λ ys. leads_argument _ ys (digit (goal.at.returns-then-is_digit c).Then-is_digit) c.in_default.in_default-own.rest.0.0.0.1

pub returns-in-48 : goal.returns-in-48
returns-in-48 c = λ ys. leads_name _ ys c.in-48.is

pub returns-in-35 : goal.returns-in-35
returns-in-35 c = λ ys. leads_count _ ys c.in-35.is

pub returns-in-42 : goal.returns-in-42
returns-in-42 c = λ ys. leads_all _ ys c.in-42.is

pub returns-in-64 : goal.returns-in-64
returns-in-64 c = λ ys. leads_quoted _ ys c.in-64.is

pub returns-else-is_digit : goal.returns-else-is_digit
returns-else-is_digit c =
    let r = c.in_default.in_default-own.rest in
    λ ys. leads_dollar _ ys (sym c.is_digit.ensures ∙ c.if-is_digit.false) r.0.0.1 r.0.1 r.1

pub overflow_sub-n : goal.overflow_sub-n
overflow_sub-n c = (digit_bounds _ (digit (goal.at.overflow_sub-n c).Then-is_digit)).0

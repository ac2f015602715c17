-- `expander::substitution::parameter_length` meets its contract: each kind of parameter by the length of its text. Assumes nothing.
use Rattle.rules.proofs.Base.{ℕ, ◌∙◌, refl, ap, subst, List, arith, pos, length}
use Rattle.rules.specs.Bytes.{Bytes}
use Rattle.rules.specs.Numerals.{decimal}
use Rattle.rules.specs.Arguments.{commas}
use Rattle.expander.specs.Arguments.{args_of}
use Rattle.expander.specs.Substitution.{parameter_text, OneDigit}
use Rattle.expander.proofs.ArgumentLaws.{held_in, few_arguments, argument_short}
use Rattle.expander.proofs.SubstitutionLaws.{counted_plain, decimal_few, same_long}
use Rattle.expander.proofs.substitution.parameter_length.Goals as goal

pub argument-requires : goal.argument-requires
unfolding OneDigit
argument-requires c = let d = subst OneDigit c.in-Argument.is c.requires.1 in (d.0, omega (arith, d.1))

pub returns-in-Name : goal.returns-in-Name
unfolding parameter_text
returns-in-Name c = (same_long _ _ _ c.in-Name.is refl, omega arith)

pub returns-in-Argument : goal.returns-in-Argument
unfolding parameter_text OneDigit
returns-in-Argument c =
    let e = ap length c.argument.ensures in
    let d = subst OneDigit c.in-Argument.is c.requires.1 in
    (same_long _ _ _ c.in-Argument.is e, omega (arith, e, argument_short (held_in c.args.x) c.in-Argument.n d.0))

pub returns-in-Count : goal.returns-in-Count
unfolding parameter_text
returns-in-Count c =
    let few = few_arguments (held_in c.args.x) in
    let l = rw (counted_plain c.count.result (omega (arith, c.count.ensures, few))) at c.decimal_length.ensures in (
      same_long _ _ _ c.in-Count.is (l ∙ ap (λ (n : ℕ). length (decimal (pos n))) c.count.ensures),
      omega (arith, l, c.count.ensures, few, decimal_few c.count.result),
    )

pub returns-in-All : goal.returns-in-All
unfolding parameter_text
returns-in-All c = (
  same_long _ _ _ c.in-All.is (c.list_length.ensures.0 44 ∙ ap (λ (ws : List Bytes). length (commas ws)) (c.bare_marks.ensures.1 (args_of c.args.x))),
  c.list_length.ensures.1,
)

pub returns-in-Quoted : goal.returns-in-Quoted
unfolding parameter_text
returns-in-Quoted c = (same_long _ _ _ c.in-Quoted.is (c.list_length-in-Quoted.ensures.0 44), c.list_length-in-Quoted.ensures.1)

pub returns-in-Literal : goal.returns-in-Literal
unfolding parameter_text
returns-in-Literal c = (same_long _ _ _ c.in-Literal.is refl, omega arith)

pub overflow_cast-count : goal.overflow_cast-count
overflow_cast-count c = omega (arith, c.count.ensures, few_arguments (held_in c.args.x))

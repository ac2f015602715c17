-- `expander::number_results::len` meets its contract. Assumes nothing.
use Rattle.rules.proofs.Base.{◌∙◌, ap, arith, length, pos, ℤ}
use Rattle.std.specs.Prelude.{Ok}
use Rattle.rules.specs.Numerals.{decimal}
use Rattle.rules.specs.Results.{len_result}
use Rattle.expander.specs.Results.{answered}
use Rattle.expander.proofs.ArgumentLaws.{held_in, argument_short}
use Rattle.expander.proofs.SubstitutionLaws.{counted_plain}
use Rattle.expander.proofs.number_results.len.Goals as goal

pub overflow_cast-argument : goal.overflow_cast-argument
overflow_cast-argument c = omega (arith, ap length c.argument.ensures, argument_short (held_in c.args.x) 1 (omega arith))

pub returns : goal.returns
unfolding len_result answered
returns c =
    let e = ap length c.argument.ensures in
    let k = counted_plain (length c.argument.result.now) (omega (arith, e, argument_short (held_in c.args.x) 1 (omega arith))) in
    c.decimal.ensures ∙ ap (λ (z : ℤ). Ok (decimal z)) (k ∙ ap pos e)

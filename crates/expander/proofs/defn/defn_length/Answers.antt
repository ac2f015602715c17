-- `expander::defn::defn_length` meets its contract: the loop keeps that the whole is longer than the rest by what is counted. Assumes nothing.
use Rattle.rules.proofs.Base.{arith}
use Rattle.std.proofs.lemmas.Result.{err_from_is_err_and}
use Rattle.expander.proofs.ArgumentLaws.{held_in, few_arguments}
use Rattle.expander.proofs.DefnLaws.{measured_begins, measured_on, measured_none, measured_ends}
use Rattle.expander.proofs.defn.defn_length.Goals as goal

pub loop-k-init : goal.loop-k-init
loop-k-init c = (omega arith, λ u h. measured_begins _ u _)

pub argument-requires : goal.argument-requires
argument-requires c = (omega arith, omega (arith, c.count-k-end.ensures, few_arguments (held_in c.args.x)))

pub returns-in_err-total : goal.returns-in_err-total
returns-in_err-total c =
    let p = err_from_is_err_and c.from_residual.result c.from_residual.ensures.1 in
    λ u h.
    rw (p.1, p.2) (measured_none (c.loop-k.invariant.1 u h) c.argument.ensures (omega (arith, c.count-k-end.ensures)) (c.named_length.ensures.value u h) c.in_err-total.was)

pub overflow_add-total : goal.overflow_add-total
overflow_add-total c = omega (arith, c.in_ok-total.ensures.bounded, c.count-k-end.ensures, few_arguments (held_in c.args.x))

pub loop-k-preserved : goal.loop-k-preserved
loop-k-preserved c = (
  omega (arith, c.in_ok-total.ensures.bounded),
  λ u h. measured_on (c.loop-k.invariant.1 u h) c.argument.ensures (omega (arith, c.count-k-end.ensures)) (c.named_length.ensures.value u h) c.in_ok-total.was,
)

pub returns : goal.returns
returns c = λ u h. measured_ends (c.loop-k.invariant.1 u h) (omega (arith, c.count-k-end.ensures))

-- `lines::build` meets its contract: the loop keeps that the first k words and totals stand and what is lent behind them is as it was. Assumes
-- nothing.
use Rattle.rules.proofs.Base.{◌∙◌, arith, length}
use Rattle.lines.proofs.Judged.{admitted, passed}
use Rattle.lines.proofs.Built.{build_refused, build_start, total_le, build_on, build_done}
use Rattle.lines.proofs.build.Goals as goal

pub returns-in_err-admit : goal.returns-in_err-admit
returns-in_err-admit c =
    let e = passed c.from_residual.result c.in_err-admit.field-0.0 c.from_residual.ensures.1 in
    build_refused c.in_err-admit.field-0.0 e (e ∙ c.in_err-admit.ensures)

pub loop-k-init : goal.loop-k-init
loop-k-init c = build_start (admitted (length c.args.text.now) c.args.words.now c.args.totals.now c.in_ok-admit.ensures)

pub overflow_add-total : goal.overflow_add-total
overflow_add-total c = omega (arith, total_le c.loop-k.invariant (omega arith) c.word_of-word.ensures)

pub loop-k-preserved : goal.loop-k-preserved
loop-k-preserved c = build_on c.loop-k.invariant (omega arith) c.word_of-word.ensures

pub returns : goal.returns
returns c = build_done c.loop-k.invariant (omega arith)

-- `lines::bits::select` meets its contract: the loop keeps which bit is sought. Assumes nothing.
use Rattle.rules.proofs.Base.{◌≡◌, ◌-◌, ◌+◌, ◌∙◌, sym, arith}
use Rattle.lines.proofs.WordLaws.{too_few, ones_whole, clear_on, clear_done}
use Rattle.lines.proofs.bits.select.Goals as goal

pub returns-then-from-before : goal.returns-then-from-before
returns-then-from-before c =
    let a = c.args in
    sym (too_few 64 a.before a.word (omega (arith, c.if-from-before.true, c.from.ensures, ones_whole a.word c.ranges.word.fits)))

pub loop-turn-preserved : goal.loop-turn-preserved
loop-turn-preserved c =
    let less : c.args.before - c.loop-turn.turn - 1 ≡ c.args.before - (c.loop-turn.turn + 1) = omega arith in
    rw (← less) (clear_on c.loop-turn.invariant (omega (arith, c.loop-turn-test.true)))

pub returns : goal.returns
returns c = c.then_some.ensures ∙ clear_done c.loop-turn.invariant (omega (arith, c.loop-turn-test.false))

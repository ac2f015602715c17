-- `expander::sinks::Sinks::move_new` meets its contract: a stream that is marked is left alone; another is marked and moved. Assumes nothing.
use Rattle.expander.proofs.DivertingLaws.{seen_moves, seen_more}
use Rattle.expander.proofs.sinks.Sinks.move_new.Goals as goal

pub returns-then-seen-at-ne0 : goal.returns-then-seen-at-ne0
returns-then-seen-at-ne0 c =
    λ u m s. seen_moves m s c.args.i c.requires.1 c.if-seen-at-ne0.true

pub returns : goal.returns
returns c =
    λ u m s. (c.move_one.ensures u m, seen_more s c.args.i c.requires.1 m.waiting.nine)

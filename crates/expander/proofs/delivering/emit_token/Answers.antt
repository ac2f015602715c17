-- `expander::delivering::emit_token` meets its contract: the bytes do not fit, or they are placed and the token is taken. Assumes nothing.
use Rattle.rules.proofs.Base.{◌∙◌, refl, sym, ap, drop, take}
use Rattle.rules.specs.Source.{ahead}
use Rattle.expander.specs.declared.machine.Progress.TheVariants as progress
use Rattle.expander.specs.Machine.{stepped, sinks_set}
use Rattle.expander.proofs.DeliveringLaws.{reach_advances, reach_lent, reach_whole, reach_taken, token_full, token_emitted}
use Rattle.expander.proofs.SteppedLaws.{refines_by}
use Rattle.expander.proofs.delivering.emit_token.Goals as goal

pub returns-in-Some : goal.returns-in-Some
returns-in-Some c =
    λ a s b r.
    refines_by refl c.refused.ensures
    (token_full r (take c.args.n (drop c.args.start (ahead s.source))) c.args.n c.args.width _ (reach_taken r c.requires.reach) (sym c.in-Some.is ∙ c.full.ensures))

pub advanced-to-requires : goal.advanced-to-requires
advanced-to-requires c = reach_advances c.requires.valid.represents c.requires.reach

pub emit_ahead-k-requires-clause-n_in_bounds : goal.emit_ahead-k-requires-clause-n_in_bounds
emit_ahead-k-requires-clause-n_in_bounds c = reach_lent c.requires.valid.represents c.requires.reach c.ahead.ensures

pub shape_of-streams : goal.shape_of-streams
shape_of-streams c = c.emit_ahead-k.auto.streams

pub returns : goal.returns
returns c =
    let k = c.emit_ahead-k in
    let l = k.auto in
    let p = c.advanced-to in
    λ a s b r.
    refines_by refl (c.on.ensures ∙ ap (stepped progress.On) (c.with_sinks.ensures ∙ ap (sinks_set k.result) c.with_source.ensures))
    (token_emitted r l.streams l.owners l.output c.args.start c.args.n c.args.width c.ahead.ensures (k.ensures s.streams r.sinks)
    (p.ensures c.args.text.now s.source r.source (reach_whole r c.requires.reach)))

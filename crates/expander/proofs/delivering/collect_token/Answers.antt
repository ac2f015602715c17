-- `expander::delivering::collect_token` meets its contract: the bytes do not fit, or the innermost call has them and the token is taken. Assumes nothing.
use Rattle.rules.proofs.Base.{◌∙◌, refl, ap, arith, drop, take}
use Rattle.rules.specs.Source.{ahead}
use Rattle.expander.specs.declared.machine.Progress.TheVariants as progress
use Rattle.expander.specs.Machine.{stepped, calls_set}
use Rattle.expander.proofs.DeliveringLaws.{reach_advances, reach_lent, reach_whole, reach_taken, call_room, collect_full, token_collected}
use Rattle.expander.proofs.SteppedLaws.{refines_by}
use Rattle.expander.proofs.MachineLaws.{top_call}
use Rattle.expander.proofs.delivering.collect_token.Goals as goal

pub returns-then-calls-m : goal.returns-then-calls-m
returns-then-calls-m c =
    λ a s b x xs r q.
    refines_by refl c.refused.ensures
    (collect_full r (take c.args.n (drop c.args.start (ahead s.source))) c.args.n x.depth c.args.width x xs q (reach_taken r c.requires.reach.0) c.if-calls-m.true)

pub collect_ahead-k-requires : goal.collect_ahead-k-requires
collect_ahead-k-requires c =
    let m = c.requires.valid.represents in
    (call_room m c.args.n (omega (arith, c.if-calls-m.false, m.calls.strings.used_in)), reach_lent m c.requires.reach.0 c.ahead.ensures, c.requires.reach.1)

pub advanced-to-requires : goal.advanced-to-requires
advanced-to-requires c = reach_advances c.requires.valid.represents c.requires.reach.0

pub shape_of-calls : goal.shape_of-calls
shape_of-calls c = c.collect_ahead-k.auto.bytes

pub returns : goal.returns
returns c =
    let k = c.collect_ahead-k in
    let l = k.auto in
    let p = c.advanced-to in
    λ a s b x xs r q.
    refines_by refl (c.on.ensures ∙ ap (stepped progress.On) (c.with_calls.ensures ∙ ap (calls_set k.result) c.with_source.ensures))
    (token_collected r l.bytes l.ends l.stack c.args.start c.args.n c.args.width x xs c.ahead.ensures (k.ensures x xs (top_call r q))
    (p.ensures c.args.text.now s.source r.source (reach_whole r c.requires.reach.0)))

pub overflow_sub-calls : goal.overflow_sub-calls
overflow_sub-calls c = c.requires.valid.represents.calls.strings.used_in

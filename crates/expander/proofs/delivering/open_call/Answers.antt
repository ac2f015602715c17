-- `expander::delivering::open_call` meets its contract: too many calls or arguments, no room for the name, or the call is open. Assumes nothing.
use Rattle.rules.proofs.Base.{suc, ◌∙◌, refl, sym, ap, arith, take}
use Rattle.rules.specs.Bytes.{Bytes}
use Rattle.rules.specs.Source.{ahead}
use Rattle.hashing.specs.Hashing.{bucket_of}
use Rattle.expander.specs.declared.machine.Progress.TheVariants as progress
use Rattle.expander.specs.Machine.{stepped, calls_set}
use Rattle.expander.proofs.CallsLaws.{some_strings}
use Rattle.expander.proofs.DeliveringLaws.{reach_advances, reach_lent, reach_name, reach_whole, reach_taken, call_room, open_deep, open_many, open_full, call_opened}
use Rattle.expander.proofs.SteppedLaws.{refines_by}
use Rattle.expander.proofs.delivering.open_call.Goals as goal

pub returns-then-opens-ge-MOST_CALLS : goal.returns-then-opens-ge-MOST_CALLS
returns-then-opens-ge-MOST_CALLS c =
    λ a s b r. refines_by refl c.refused.ensures (open_deep r (take c.args.n (ahead s.source)) (suc c.args.n) c.if-opens-ge-MOST_CALLS.true)

pub returns-then-m-opens-ge-MOST_ARGUMENTS : goal.returns-then-m-opens-ge-MOST_ARGUMENTS
returns-then-m-opens-ge-MOST_ARGUMENTS c =
    λ a s b r. refines_by refl c.refused-then-m-opens-ge-MOST_ARGUMENTS.ensures (open_many r (take c.args.n (ahead s.source)) (suc c.args.n) c.if-m-opens-ge-MOST_ARGUMENTS.true)

pub overflow_sub-calls : goal.overflow_sub-calls
overflow_sub-calls c = c.requires.valid.represents.calls.strings.used_in

pub returns-then-calls-m : goal.returns-then-calls-m
returns-then-calls-m c =
    λ a s b r.
    refines_by refl c.refused-then-calls-m.ensures
    (open_full r (take c.args.n (ahead s.source)) c.args.n (suc c.args.n) c.if-opens-ge-MOST_CALLS.false c.if-m-opens-ge-MOST_ARGUMENTS.false (reach_taken r c.requires.reach) c.if-calls-m.true)

pub open_ahead-k-requires : goal.open_ahead-k-requires
open_ahead-k-requires c =
    let m = c.requires.valid.represents in
    let u = c.args in record { call_room = (call_room m u.n (omega (arith, c.if-calls-m.false, m.calls.strings.used_in)), omega (arith, reach_lent m c.requires.reach c.ahead.ensures)); opens_lt_most_calls = (c.if-opens-ge-MOST_CALLS.false, omega (arith, c.if-m-opens-ge-MOST_ARGUMENTS.false, some_strings m.calls)); bucket_value = c.requires.bucket_value ∙ ap (λ (l : Bytes). bucket_of (take u.n l)) (sym c.ahead.ensures) }

pub overflow_add-n : goal.overflow_add-n
overflow_add-n c =
    omega (arith, (reach_advances c.requires.valid.represents (reach_name c.requires.reach)).3)

pub advanced-to-requires : goal.advanced-to-requires
advanced-to-requires c = reach_advances c.requires.valid.represents (reach_name c.requires.reach)

pub shape_of-calls : goal.shape_of-calls
shape_of-calls c = c.open_ahead-k.auto.bytes

pub returns : goal.returns
returns c =
    let k = c.open_ahead-k in
    let l = k.auto in
    let p = c.advanced-to in
    λ a s b r.
    refines_by refl (c.on.ensures ∙ ap (stepped progress.On) (c.with_calls.ensures ∙ ap (calls_set k.result) c.with_source.ensures))
    (call_opened r l.bytes l.ends l.stack c.args.n c.if-opens-ge-MOST_CALLS.false c.if-m-opens-ge-MOST_ARGUMENTS.false c.ahead.ensures (k.ensures s.calls r.calls)
    (p.ensures c.args.text.now s.source r.source (reach_whole r (reach_name c.requires.reach))))

pub overflow_sub-m : goal.overflow_sub-m
overflow_sub-m c = some_strings c.requires.valid.represents.calls

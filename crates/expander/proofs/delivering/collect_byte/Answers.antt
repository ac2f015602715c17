-- `expander::delivering::collect_byte` meets its contract: the byte does not fit, or the innermost call has it. Assumes nothing.
use Rattle.rules.proofs.Base.{◌∙◌, refl, ap, [], ◌∷◌, arith}
use Rattle.rules.specs.Step.{collecting}
use Rattle.expander.specs.declared.machine.Progress.TheVariants as progress
use Rattle.expander.specs.Machine.{stepped}
use Rattle.expander.proofs.DeliveringLaws.{call_room, collect_one_full, calls_changed}
use Rattle.expander.proofs.SteppedLaws.{refines_by}
use Rattle.expander.proofs.MachineLaws.{top_call}
use Rattle.expander.proofs.delivering.collect_byte.Goals as goal

pub returns-then-calls-m : goal.returns-then-calls-m
returns-then-calls-m c =
    λ a s b x xs r q h. refines_by refl c.refused.ensures (collect_one_full r c.args.x c.args.depth x xs q c.if-calls-m.true)

pub collect_byte-k-requires : goal.collect_byte-k-requires
collect_byte-k-requires c =
    (call_room c.requires.valid.represents 1 (omega (arith, c.if-calls-m.false)), c.requires.opens_nonzero)

pub returns : goal.returns
returns c =
    let k = c.collect_byte-k in
    let l = k.auto in
    λ a s b x xs r q h.
    refines_by refl (c.on.ensures ∙ ap (stepped progress.On) c.with_calls.ensures)
    (calls_changed r l.bytes l.ends l.stack (collecting (c.args.x ∷ []) c.args.depth x ∷ xs) (k.ensures x xs (top_call r q) h))

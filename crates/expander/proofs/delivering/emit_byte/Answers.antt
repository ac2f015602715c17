-- `expander::delivering::emit_byte` meets its contract: the byte does not fit, or it is placed. Assumes nothing.
use Rattle.rules.proofs.Base.{◌∙◌, refl, sym, ap}
use Rattle.expander.specs.declared.machine.Progress.TheVariants as progress
use Rattle.expander.specs.Machine.{stepped}
use Rattle.expander.proofs.DeliveringLaws.{byte_full, byte_emitted}
use Rattle.expander.proofs.SteppedLaws.{refines_by}
use Rattle.expander.proofs.delivering.emit_byte.Goals as goal

pub returns-in-Some : goal.returns-in-Some
returns-in-Some c =
    λ a s b r. refines_by refl c.refused.ensures (byte_full r c.args.x _ (sym c.in-Some.is ∙ c.full.ensures))

pub returns : goal.returns
returns c =
    let k = c.emit_byte-k in
    λ a s b r.
    refines_by refl (c.on.ensures ∙ ap (stepped progress.On) c.with_sinks.ensures)
    (byte_emitted r k.auto.streams k.auto.owners k.auto.output c.args.x (k.ensures s.streams r.sinks))

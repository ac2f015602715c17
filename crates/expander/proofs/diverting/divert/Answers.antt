-- `expander::diverting::divert` meets its contract: no number, or another current stream. Assumes nothing.
use Rattle.std.proofs.Common.{w32, SFits}
use Rattle.std.proofs.lemmas.Int.{to_z-of_z}
use Rattle.rules.proofs.Base.{◌∙◌, refl, sym, ap, rules}
use Rattle.expander.specs.declared.machine.Progress.TheVariants as progress
use Rattle.expander.specs.declared.sinks.Sinks.{Sinks}
use Rattle.expander.specs.Arguments.{args_of}
use Rattle.expander.specs.Machine.{stepped, sinks_set}
use Rattle.expander.proofs.DivertingLaws.{divert_unread, divert_read}
use Rattle.expander.proofs.SteppedLaws.{refines_by}
use Rattle.expander.proofs.diverting.divert.Goals as goal

pub returns-in-None : goal.returns-in-None
returns-in-None c = λ a s b r. refines_by refl c.refused.ensures (divert_unread r (args_of c.args.x) (sym c.number_or.ensures ∙ c.in-None.is))

pub returns-in-Some : goal.returns-in-Some
returns-in-Some c =
    let f : SFits w32 c.in-Some.current = search rules in
    λ a s b r.
    refines_by refl
    (c.on.ensures ∙ ap (stepped progress.On) (c.with_sinks.ensures ∙ ap (λ (k : Sinks). sinks_set k c.args.m) (rw (to_z-of_z w32 c.in-Some.current f) at c.diverted.ensures)))
    (divert_read r (args_of c.args.x) _ (sym c.number_or.ensures ∙ c.in-Some.is))

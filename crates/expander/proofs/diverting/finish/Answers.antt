-- `expander::diverting::finish` meets its contract: what waits does not fit, or it stands behind the output. Assumes nothing.
use Rattle.rules.proofs.Base.{◌∙◌, refl, ap}
use Rattle.rules.specs.declared.Answer.TheVariants as answer
use Rattle.expander.specs.declared.machine.Progress.TheVariants as progress
use Rattle.expander.specs.declared.sinks.Sinks.{Sinks}
use Rattle.expander.specs.Machine.{stepped, sinks_set}
use Rattle.expander.proofs.DivertingLaws.{finish_full, finish_ends}
use Rattle.expander.proofs.SteppedLaws.{refines_by}
use Rattle.expander.proofs.diverting.finish.Goals as goal

pub returns-then-output-at : goal.returns-then-output-at
returns-then-output-at c = λ a s b r. refines_by refl c.refused.ensures (finish_full r c.if-output-at.true)

pub returns : goal.returns
returns c =
    let f = c.finish in
    λ a s b r.
    refines_by refl (c.ended.ensures ∙ ap (stepped (progress.Ended answer.Done)) (c.with_sinks.ensures ∙ ap (λ (k : Sinks). sinks_set k c.args.m) c.emptied.ensures))
    (finish_ends r f.new.dst (f.ensures s.streams.waiting r.sinks.waiting) c.if-output-at.false)

-- `expander::special_steps::at_end` meets its contract. Assumes nothing.
use Rattle.rules.proofs.Base.{◌∙◌, refl, sym, ap, arith, length-take-le}
use Rattle.expander.specs.declared.machine.Progress.TheVariants as progress
use Rattle.expander.specs.declared.source.Position.{Position}
use Rattle.expander.specs.Machine.{pending_at, wrap_at, source_set, wrap_set, stepped}
use Rattle.expander.proofs.SteppedLaws.{refines_as, refines_with}
use Rattle.expander.proofs.StepLaws.{lends, end_refused, end_finished, end_full, end_pending}
use Rattle.expander.proofs.special_steps.at_end.Goals as goal

pub returns-then-m-ne0 : goal.returns-then-m-ne0
returns-then-m-ne0 c = λ a s b r. refines_with c.refused.ensures (end_refused r c.if-m-ne0.true)

pub finish-requires : goal.finish-requires
finish-requires c =
    lends c.requires.valid refl

pub returns-then-n-eq0 : goal.returns-then-n-eq0
returns-then-n-eq0 c =
    λ a s b r. refines_as (end_finished r c.if-m-ne0.false c.if-n-eq0.true) (c.finish.ensures a s (pending_at _ (wrap_at _ b)) r)

pub returns-then-pending-n : goal.returns-then-pending-n
returns-then-pending-n c =
    λ a s b r. refines_with c.refused-then-pending-n.ensures (end_full r c.if-m-ne0.false c.if-n-eq0.false c.if-pending-n.true)

pub slice_bounds-push-end : goal.slice_bounds-push-end
slice_bounds-push-end c =
    sym (length-take-le _ _ c.requires.valid.represents.wrap.inside)

pub push-from-requires : goal.push-from-requires
push-from-requires c =
    let h = length-take-le c.args.m.wrap c.args.wrap.now c.requires.valid.represents.wrap.inside in
    (omega (arith, h, c.requires.from_value, c.if-pending-n.false), omega (arith, c.requires.from_value))

pub returns : goal.returns
returns c =
    let k = c.push-from in
    λ a s b r. refines_with (c.on.ensures ∙ ap (stepped progress.On) (c.with_wrap.ensures ∙ ap (wrap_set 0) (c.with_source.ensures ∙ ap (λ (x : Position). source_set x c.args.m) c.pushed.ensures)))
    (end_pending r c.if-m-ne0.false c.if-n-eq0.false _ k.result (omega (arith, k.auto)) (omega (arith, k.auto, k.ensures.0, r.source.from_in)) k.ensures.1)

-- `expander::defn::fill_defn` meets its contract: the loop keeps that what is written stands in front of the rest's result. Assumes nothing.
use Rattle.rules.proofs.Base.{refl, arith}
use Rattle.expander.proofs.ArgumentLaws.{held_in, few_arguments}
use Rattle.expander.proofs.DefnLaws.{joining_begins, joining_room, joining_on, joining_ends}
use Rattle.expander.proofs.defn.fill_defn.Goals as goal

pub loop-k-init : goal.loop-k-init
loop-k-init c = (refl, λ u h. joining_begins (c.requires.args_value u h))

pub argument-requires : goal.argument-requires
argument-requires c = (omega arith, omega (arith, c.count-k-end.ensures, few_arguments (held_in c.args.x)))

pub fill_named-at-requires : goal.fill_named-at-requires
fill_named-at-requires c = record {
  short_quotes = c.requires.short_quotes;
  w_in_bounds = λ u w h e. joining_room (c.loop-k.invariant.1 u h) c.argument.ensures (omega (arith, c.count-k-end.ensures)) e;
}

pub loop-k-preserved : goal.loop-k-preserved
loop-k-preserved c =
    let l = c.loop-k in
    let f = c.fill_named-at in (
      omega (arith, f.auto, l.invariant.0),
      λ u h. joining_on (l.invariant.1 u h) c.argument.ensures (omega (arith, c.count-k-end.ensures)) (λ w e. f.ensures u w h e) (omega (arith, f.auto)),
    )

pub returns : goal.returns
returns c = λ u h. joining_ends (c.loop-k.invariant.1 u h) (omega (arith, c.count-k-end.ensures))

-- `expander::defining::in_turn` meets its contract: the loop keeps what is left to do, for all tables that the buffers may hold. Assumes nothing.
use Rattle.rules.proofs.Base.{refl, arith}
use Rattle.rules.specs.Table.{in_turn}
use Rattle.expander.specs.Arguments.{args_of}
use Rattle.expander.proofs.ArgumentLaws.{held_in, few_arguments}
use Rattle.expander.proofs.Rows.{valid}
use Rattle.expander.proofs.DefiningLaws.{changed, turns_on, turns_end}
use Rattle.expander.proofs.defining.in_turn.Goals as goal

pub argument-name-requires : goal.argument-name-requires
argument-name-requires g c = (omega arith, omega (arith, c.count-k-end.ensures, few_arguments (held_in c.args.x)))

pub change-t-requires : goal.change-t-requires
change-t-requires g c =
    let r = c.requires in
    r.may_change _ _ _ _ (valid (c.loop-k.invariant r.changes.0 r.changes.1 r.valid.state.table r.valid.represents.table).holds.holds)

pub loop-k-preserved : goal.loop-k-preserved
loop-k-preserved g c =
    let w = c.argument-name in
    λ f may u k. turns_on (c.loop-k.invariant f may u k) w.result.now (omega (arith, c.count-k-end.ensures)) w.ensures
    (may _ _ _ _ _ _ _ c.change-t.ensures)

pub returns : goal.returns
returns g c =
    let i = c.loop-k in
    λ f may a s b r.
    changed r (in_turn f (args_of c.args.x) s.table) refl (turns_end (i.invariant f may s.table r.table) (omega (arith, c.count-k-end.ensures)))
    i.auto.definitions i.auto.table_ends c.with_table.ensures c.on.ensures

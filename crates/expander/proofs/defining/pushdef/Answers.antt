-- `expander::defining::pushdef` meets its contract. Assumes nothing.
use Rattle.rules.proofs.Base.{arith, ap, not}
use Rattle.rules.specs.Table.{text, pushed}
use Rattle.expander.specs.Arguments.{args_of}
use Rattle.expander.proofs.Rows.{valid}
use Rattle.expander.proofs.DefiningLaws.{name_long, cost_pushed, pushdef_is, naming_none, naming_is, refines_name, overfilled, changed}
use Rattle.expander.specs.Table.{meaning_text, new_meaning, Numbered}
use Rattle.expander.proofs.defining.pushdef.Goals as goal

pub returns-then-not-is_name : goal.returns-then-not-is_name
returns-then-not-is_name c =
    let args = args_of c.args.x in
    λ a s b r.
    refines_name (naming_none c.is_name.ensures (ap not c.if-not-is_name.true) pushed args s (pushdef_is args s) c.argument-name.ensures) c.refused.ensures

pub returns-then-definitions-p : goal.returns-then-definitions-p
returns-then-definitions-p c =
    let w = c.argument-name in
    let x = c.argument-body in
    let args = args_of c.args.x in
    λ a s b r.
    let z = cost_pushed s.table r.table.holds w.result.now x.result.now in
    overfilled r (pushed w.result.now (text x.result.now) s.table)
    (naming_is c.is_name.ensures (ap not c.if-not-is_name.false) pushed args s (pushdef_is args s) w.ensures x.ensures)
    (omega (arith, z, c.if-definitions-p.true, r.table.holds.packs.used_in)) c.refused-then-definitions-p.ensures

pub push-t-requires : goal.push-t-requires
unfolding new_meaning meaning_text Numbered
push-t-requires c =
    let h = c.requires.valid.represents.table.holds in
    let l = name_long c.argument-name.result.now c.is_name.ensures (ap not c.if-not-is_name.false) in record { valid_definitions = valid h; name_nonzero = l; new_in_bounds = omega (arith, c.if-definitions-p.false, h.packs.used_in) }

pub returns : goal.returns
unfolding new_meaning meaning_text Numbered
returns c =
    let w = c.argument-name in
    let x = c.argument-body in
    let d = c.push-t in
    let args = args_of c.args.x in
    λ a s b r.
    changed r (pushed w.result.now (text x.result.now) s.table)
    (naming_is c.is_name.ensures (ap not c.if-not-is_name.false) pushed args s (pushdef_is args s) w.ensures x.ensures)
    (d.ensures s.table tt r.table) d.auto.bytes d.auto.ends c.with_table.ensures c.on.ensures

-- `expander::table::newest_plain` meets its contract: the loop keeps that the newest definition is among those left to look at. Assumes nothing.
use Rattle.rules.proofs.Base.{arith}
use Rattle.expander.specs.Table.{rows}
use Rattle.expander.proofs.Packing.{formed}
use Rattle.expander.proofs.Rows.{search_begins, search_found, search_on, search_ended}
use Rattle.expander.proofs.table.newest_plain.Goals as goal

pub loop-at-init : goal.loop-at-init
loop-at-init c = λ ds h. search_begins h c.args.name.now

pub is_string-requires : goal.is_string-requires
is_string-requires c = record { count = c.args.packed.count; used = c.args.packed.used; formed = formed c.requires.holds.packs; within = omega arith }

pub returns-then-is_string : goal.returns-then-is_string
returns-then-is_string c =
    let l = c.loop-at in
    let a = c.args in
    λ ds h. search_found h a.name.now l.at (l.invariant ds h) (omega arith) (omega arith) (c.is_string.ensures a.packed.count a.packed.used (rows ds) h.packs (omega arith)) c.if-is_string.true

pub loop-at-preserved : goal.loop-at-preserved
loop-at-preserved c =
    let l = c.loop-at in
    let a = c.args in
    λ ds h. search_on h a.name.now l.at (l.invariant ds h) (omega arith) (omega arith) (c.is_string.ensures a.packed.count a.packed.used (rows ds) h.packs (omega arith)) c.if-is_string.false

pub returns : goal.returns
returns c = λ ds h. search_ended h c.args.name.now c.loop-at.at (c.loop-at.invariant ds h) (omega arith)

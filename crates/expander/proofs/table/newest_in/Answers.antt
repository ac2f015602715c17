-- `expander::table::newest_in` meets its contract: the loop keeps that the newest definition is among those of the bucket that are left. Assumes nothing.
use Rattle.rules.proofs.Base.{◌<◌, ◌∙◌, sym, List, arith}
use Rattle.rules.specs.Table.{Definition}
use Rattle.hashing.proofs.Laws.{bucket_below}
use Rattle.expander.specs.Table.{DefinitionsIn}
use Rattle.expander.specs.declared.packed.Packed.{Packed}
use Rattle.expander.proofs.BucketSearch.{SearchAt, search_begins, may_visit, search_found, search_on, search_ended}
use Rattle.expander.proofs.table.newest_in.Goals as goal
use Rattle.expander.proofs.table.newest_in.Goals.{In-Continue}

-- the next one is older
older : (c : In-Continue) (p : Packed) (ds : List Definition) → DefinitionsIn c.args.bytes.now c.args.ends.now p ds
    → SearchAt c.args.name.now ds c.in-Continue.next × (c.in-Continue.next < c.loop-left.left)
older c p ds h =
    search_on c.args.name.now ds (c.loop-left.invariant p ds h) c.loop-left-test.true (sym (c.visit.ensures p ds h) ∙ c.in-Continue.is)

pub loop-left-init : goal.loop-left-init
loop-left-init c =
    λ p ds h. search_begins c.args.name.now ds h.chained c.requires.bucket_value c.head_at-left.ensures

pub visit-requires : goal.visit-requires
visit-requires c = record { some_definitions = c.requires.some_definitions; in_bucket = λ p ds h. may_visit c.args.name.now ds (c.loop-left.invariant p ds h) c.loop-left-test.true }

pub returns-in-Break : goal.returns-in-Break
returns-in-Break c =
    let l = c.loop-left in
    λ p ds h. search_found c.args.name.now ds (l.invariant p ds h) c.loop-left-test.true (sym (c.visit.ensures p ds h) ∙ c.in-Break.is)

pub loop-left-smaller : goal.loop-left-smaller
loop-left-smaller c = let d = c.requires.some_definitions in (older (goal.at.loop-left-smaller c).In-Continue d.packed d.valid.definitions d.valid.holds).1

pub loop-left-preserved : goal.loop-left-preserved
loop-left-preserved c = λ p ds h. (older (goal.at.loop-left-preserved c).In-Continue p ds h).0

pub returns : goal.returns
returns c =
    λ p ds h. search_ended c.args.name.now ds (c.loop-left.invariant p ds h) (omega (arith, c.loop-left-test.false))

pub head_at-left-requires : goal.head_at-left-requires
head_at-left-requires c = (c.requires.some_definitions.valid.holds.ends_are, omega (arith, c.requires.bucket_value, bucket_below c.args.name.now))

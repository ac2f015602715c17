-- `expander::table::visit` meets its contract: a name is compared, and a link is read. Assumes nothing.
use Rattle.rules.proofs.Base.{arith}
use Rattle.expander.specs.Buckets.{InBucket}
use Rattle.hashing.specs.Hashing.{bucket_of}
use Rattle.expander.specs.Table.{rows}
use Rattle.expander.proofs.Packing.{formed}
use Rattle.expander.proofs.BucketSearch.{visit_within, visited_named, visited_older}
use Rattle.expander.proofs.table.visit.Goals as goal
use Rattle.expander.proofs.table.visit.Goals.{Start}

-- the definitions that are known to be there
inside : (c : Start) → InBucket (bucket_of c.args.name.now) c.requires.some_definitions.valid.definitions c.args.left
inside c = c.requires.in_bucket c.requires.some_definitions.packed c.requires.some_definitions.valid.definitions c.requires.some_definitions.valid.holds

pub is_string-requires : goal.is_string-requires
is_string-requires c =
    let d = c.requires.some_definitions in
    record { count = d.packed.count; used = d.packed.used; formed = formed d.valid.holds.packs; within = (visit_within d.valid.holds c.args.name.now c.args.left (inside (goal.at.is_string-requires c).Start)).0 }

pub returns-then-is_string : goal.returns-then-is_string
returns-then-is_string c =
    λ p ds h.
    let b = c.requires.in_bucket p ds h in
    visited_named h c.args.name.now c.args.left b (c.is_string.ensures p.count p.used (rows ds) h.packs (visit_within h c.args.name.now c.args.left b).0) c.if-is_string.true

pub returns : goal.returns
returns c =
    λ p ds h.
    let b = c.requires.in_bucket p ds h in
    visited_older h c.args.name.now c.args.left b (c.is_string.ensures p.count p.used (rows ds) h.packs (visit_within h c.args.name.now c.args.left b).0) c.if-is_string.false
    c.link_at.ensures

pub overflow_mul-at : goal.overflow_mul-at
overflow_mul-at c = omega (arith, (visit_within c.requires.some_definitions.valid.holds c.args.name.now c.args.left (inside (goal.at.overflow_mul-at c).Start)).1)

pub link_at-requires : goal.link_at-requires
link_at-requires c = (c.requires.some_definitions.valid.holds.ends_are, omega (arith, (inside (goal.at.link_at-requires c).Start).positive, (visit_within c.requires.some_definitions.valid.holds c.args.name.now c.args.left (inside (goal.at.link_at-requires c).Start)).1))

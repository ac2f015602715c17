-- `expander::buckets::rebuild` meets its contract: the loop keeps that the definitions so far are chained. Assumes nothing.
use Rattle.rules.proofs.Base.{◌<◌, ◌*◌, ◌∙◌, ap, subst, ◌≡◌, List, arith, length, get_or, take_all}
use Rattle.rules.specs.Table.{Definition}
use Rattle.hashing.specs.Hashing.{bucket_of}
use Rattle.hashing.proofs.Laws.{bucket_below}
use Rattle.expander.specs.Limits.{bucket_count}
use Rattle.expander.specs.Buckets.{Chained}
use Rattle.expander.specs.Packed.{Packs}
use Rattle.expander.specs.Table.{rows, blank}
use Rattle.expander.proofs.Packing.{formed, count_is}
use Rattle.expander.proofs.MeaningLaws.{packs_before}
use Rattle.expander.proofs.Rows.{length-rows, name_at_lem}
use Rattle.expander.proofs.Chains.{rebuilt_head, rebuilt_on}
use Rattle.expander.proofs.buckets.rebuild.Goals as goal
use Rattle.expander.proofs.buckets.rebuild.Goals.{After-bucket_of-bucket, After-loop-i, In-loop-i}

-- the strings are there once the heads are 0, whosever definitions they are
after_heads : (c : After-loop-i) (ds : List Definition)
    → Packs c.args.ends.now c.args.packed.count c.args.bytes.now c.args.packed.used (rows ds)
    → Packs c.clear_heads.new.ends c.args.packed.count c.args.bytes.now c.args.packed.used (rows ds)
after_heads c ds h = packs_before c.clear_heads.ensures.1 c.clear_heads.auto.ends c.requires.ends_len.1 h

-- and on each turn
there : (c : In-loop-i) (ds : List Definition) → Packs c.clear_heads.new.ends c.args.packed.count c.args.bytes.now c.args.packed.used (rows ds)
    → Packs c.loop-i.ends c.args.packed.count c.args.bytes.now c.args.packed.used (rows ds)
there c ds h = let l = c.loop-i in packs_before l.invariant.0 c.loop-i.auto.ends c.requires.ends_len.1 h

some : (c : In-loop-i)
    → Packs c.clear_heads.new.ends c.args.packed.count c.args.bytes.now c.args.packed.used (rows c.requires.rows_in.definitions)
some c = packs_before c.clear_heads.ensures.1 c.clear_heads.auto.ends c.requires.ends_len.1 c.requires.rows_in.packs

-- a turn comes to one of them
one : (c : In-loop-i) (ds : List Definition) → Packs c.clear_heads.new.ends c.args.packed.count c.args.bytes.now c.args.packed.used (rows ds)
    → c.loop-i.i < length ds
one c ds h = omega (arith, count_is h, length-rows ds)

within : (c : In-loop-i) → 2 * c.loop-i.i < c.args.packed.count
within c = omega arith

-- the bucket is that of its name
its_bucket : (c : After-bucket_of-bucket) (ds : List Definition)
    → Packs c.clear_heads.new.ends c.args.packed.count c.args.bytes.now c.args.packed.used (rows ds)
    → c.bucket_of-bucket.result ≡ bucket_of (get_or ds c.loop-i.i blank).name
its_bucket c ds h =
    let l = c.loop-i in
    let t = packs_before l.invariant.0 c.loop-i.auto.ends c.requires.ends_len.1 h in
    c.bucket_of-bucket.ensures ∙ ap bucket_of (c.string.ensures (rows ds) t ∙ name_at_lem ds l.i)

pub string-requires : goal.string-requires
string-requires c = record { formed = formed (there (goal.at.string-requires c).In-loop-i c.requires.rows_in.definitions (some (goal.at.string-requires c).In-loop-i)); k_lt_count = within (goal.at.string-requires c).In-loop-i }

pub join-requires : goal.join-requires
join-requires c =
    let ds = c.requires.rows_in.definitions in
    let l = c.loop-i in
    let b : c.bucket_of-bucket.result < bucket_count = omega (arith, c.bucket_of-bucket.ensures, bucket_below c.string.result.now) in
    (c.loop-i.auto.ends ∙ c.clear_heads.auto.ends ∙ c.requires.ends_len.0, b, omega (arith, within (goal.at.join-requires c).In-loop-i, c.requires.ends_len.1), rebuilt_head ds l.i (one (goal.at.join-requires c).In-loop-i ds (some (goal.at.join-requires c).In-loop-i)) (l.invariant.1 ds (some (goal.at.join-requires c).In-loop-i)) c.bucket_of-bucket.result b)

pub loop-i-preserved : goal.loop-i-preserved
loop-i-preserved c =
    let j = c.join in
    let l = c.loop-i in (
      j.ensures.ends_unchanged ∙ l.invariant.0,
      λ ds h. rebuilt_on ds l.i (one (goal.at.loop-i-preserved c).In-loop-i ds h) (l.invariant.1 ds h) c.bucket_of-bucket.result (its_bucket (goal.at.loop-i-preserved c).After-bucket_of-bucket ds h) j.ensures.chained,
    )

pub returns : goal.returns
returns c =
    let l = c.loop-i in record { chained = λ ds h. subst (Chained l.ends) (take_all l.i ds (omega (arith, count_is h, length-rows ds))) (l.invariant.1 ds (after_heads (goal.at.returns c).After-loop-i ds h)); ends_unchanged = l.invariant.0 ∙ c.clear_heads.ensures.1 }

pub clear_heads-requires : goal.clear_heads-requires
clear_heads-requires c = (c.requires.ends_len.0, c.requires.ends_len.2)

-- `expander::events::name_event` meets its contract. Assumes nothing.
use Rattle.rules.proofs.Base.{◌∙◌, sym, ap, ◌≡◌, take}
use denote.Enum.Declared.{tag_of}
use borrow.Enum.Refused.{opened}
use Rattle.expander.specs.contracts.table.Meaning.{the_type}
use Rattle.expander.specs.declared.table.Meaning.TheVariants as looked
use Rattle.expander.specs.Events.{PlainWithin, SpecialWithin, EventWithin}
use Rattle.hashing.specs.Hashing.{bucket_of}
use Rattle.expander.specs.Machine.{bytes_ahead}
use Rattle.expander.proofs.Scanning.{bucket_of_hash}
use Rattle.expander.proofs.EventLaws.{within_as, is_as, undefined_is, open_is, unopened_is, bare_is}
use Rattle.expander.proofs.StepLaws.{reach_open, not_second}
use Rattle.expander.proofs.events.name_event.Goals as goal
use Rattle.expander.proofs.events.name_event.Goals.{After-bucket_at-bucket, In_default}

-- the bucket of the name
bucket_is :
    (c : After-bucket_at-bucket) → let a = c.args in c.bucket_at-bucket.result ≡ bucket_of (take a.n (bytes_ahead a.text.now a.pending.now a.m.source))
bucket_is c = bucket_of_hash _ c.requires.hash_value c.bucket_at-bucket.ensures

-- the name means something
defined : (c : In_default) → c.meaning_ahead-meaning.result ≡ looked.Undefined → ⊥
defined c e = not_second (opened c.in_default.in_default-own.keys2) (ap (tag_of the_type) e)

pub meaning_ahead-meaning-requires : goal.meaning_ahead-meaning-requires
meaning_ahead-meaning-requires c = record { valid = c.requires.valid; reach = c.requires.reach; bucket_value = bucket_is (goal.at.meaning_ahead-meaning-requires c).After-bucket_at-bucket; scratch_len = c.requires.scratch_len }

pub returns-in-Undefined : goal.returns-in-Undefined
unfolding EventWithin PlainWithin
returns-in-Undefined c = record { within = within_as c.whole.ensures _ _ _ c.requires.reach; is = λ a s b r e. is_as c.whole.ensures s (undefined_is s _ e (c.meaning_ahead-meaning.ensures a s b r) c.in-Undefined.is) }

pub returns-then-opens : goal.returns-then-opens
unfolding EventWithin PlainWithin
returns-then-opens c =
    let x = c.requires.valid.represents.source in record { within = (reach_open x c.requires.reach (c.opens.ensures _ x) c.if-opens.true, bucket_is (goal.at.returns-then-opens c).After-bucket_at-bucket); is = λ a s b r e. open_is s _ e (c.meaning_ahead-meaning.ensures a s b r) (defined (goal.at.returns-then-opens c).In_default) (c.opens.ensures _ r.source) _ c.if-opens.true }

pub returns-then-plain_unopened : goal.returns-then-plain_unopened
unfolding EventWithin PlainWithin
returns-then-plain_unopened c = record {
  within = within_as c.whole-then-plain_unopened.ensures _ _ _ c.requires.reach;
  is = λ a s b r e.
      is_as c.whole-then-plain_unopened.ensures s
      (unopened_is s _ e (c.meaning_ahead-meaning.ensures a s b r) (defined (goal.at.returns-then-plain_unopened c).In_default) (c.opens.ensures _ r.source) c.if-opens.false
      (sym c.plain_unopened.ensures ∙ c.if-plain_unopened.true));
}

pub returns : goal.returns
unfolding EventWithin SpecialWithin
returns c = record {
  within = c.requires.reach;
  is = λ a s b r e.
      bare_is s _ e (c.meaning_ahead-meaning.ensures a s b r) (defined (goal.at.returns c).In_default) (c.opens.ensures _ r.source) c.if-opens.false
      (sym c.plain_unopened.ensures ∙ c.if-plain_unopened.false);
}

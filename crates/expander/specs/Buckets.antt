-- The definitions of each bucket as a chain, behind the bytes of the meanings: the links of two definitions in a word, the least first; then a word for
-- each bucket, with the head of its chain and above it the number of the predefined name that has the bucket.
use Rattle.std.specs.Prelude.{◌≡◌, ℕ, zero, suc, ◌+◌, ◌-◌, ◌/◌, ◌%◌, ◌<◌, ◌≤◌, true, false, List, [], length, take, drop, ◌==◌, ◌≢◌, slice_index, slice_index_or, unwrap_or}
use Rattle.expander.specs.Fields.{field_at}
use Rattle.rules.specs.Table.{text, Definition}
use Rattle.hashing.specs.Hashing.{bucket_of}
use Rattle.builtins.specs.Numbers.{candidate_in}
use Rattle.expander.specs.Limits.{bucket_count, links_start, heads_start}

-- what stands past the last definition
unfoldable pub blank : Definition
blank = record { name = []; meaning = text [] }

-- the link of definition i
unfoldable pub link_at : List ℕ → ℕ → ℕ
link_at = field_at 16 links_start

-- the head of a bucket's chain, and above it the number of the predefined name that has the bucket, 0 where none has it
unfoldable pub head_at : List ℕ → ℕ → ℕ
head_at ends b = slice_index ends (heads_start + b) % 131072

unfoldable pub candidate_at : List ℕ → ℕ → ℕ
candidate_at ends b = slice_index ends (heads_start + b) / 131072

-- the newest of the first n definitions that are in bucket b, as its place and one; 0 where none is
unfoldable pub newest_in : ℕ → List Definition → ℕ → ℕ
newest_in b ds zero = 0
newest_in b ds (suc n) = elim (bucket_of (slice_index_or ds n blank).name == b) [ true ↦ suc n | false ↦ newest_in b ds n ]

-- the numbers of the predefined names stand with their buckets
abbrev pub Candidates : List ℕ → Type 0
Candidates ends = (b : ℕ) → b < bucket_count → candidate_at ends b ≡ unwrap_or (candidate_in b) 0

-- 02, request 9 "199 buckets": the head of each bucket is its newest definition, and the link of each definition the next older one of its bucket
pub record Chained (ends : List ℕ) (ds : List Definition) : Type 0 where
  pub heads : (b : ℕ) → b < bucket_count → head_at ends b ≡ newest_in b ds (length ds)
  pub links : (i : ℕ) → i < length ds → link_at ends i ≡ newest_in (bucket_of (slice_index_or ds i blank).name) ds i
  pub candidates : Candidates ends

-- the link of definition i is another one; all else is as it was
pub record Linked (before : List ℕ) (i link : ℕ) (after : List ℕ) : Type 0 where
  pub same : link_at after i ≡ link
  pub others : (j : ℕ) → (j ≢ i) → link_at after j ≡ link_at before j
  pub ends : take links_start after ≡ take links_start before
  pub heads : drop heads_start after ≡ drop heads_start before

-- the head of a bucket is another one; all else is as it was
pub record Headed (before : List ℕ) (b head : ℕ) (after : List ℕ) : Type 0 where
  pub same : head_at after b ≡ head
  pub others : (c : ℕ) → (c ≢ b) → head_at after c ≡ head_at before c
  pub candidates : (c : ℕ) → candidate_at after c ≡ candidate_at before c
  pub ends : take heads_start after ≡ take heads_start before

-- a search through bucket b may come to the definition of place and one `left`: it is one of the bucket
pub record InBucket (b : ℕ) (ds : List Definition) (left : ℕ) : Type 0 where
  pub positive : 0 < left
  pub within : left ≤ length ds
  pub bucket_is : bucket_of (slice_index_or ds (left - 1) blank).name ≡ b

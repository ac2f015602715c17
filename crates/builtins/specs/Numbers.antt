-- The number of a predefined name, and the one predefined name of a bucket.
use Rattle.std.specs.Prelude.{ℕ, suc, Bool, true, false, List, [], ◌∷◌, eqb, Option, None, Some}
use Rattle.rules.specs.Bytes.{Bytes}
use Rattle.rules.specs.Table.{predefined_names, predefined_number}
use Rattle.hashing.specs.Hashing.{bucket_of}

-- how many there are, as many as the book names
abbrev pub macro_count : ℕ
macro_count = 27

-- of names that are numbered from k, the number of the first that has a bucket
unfoldable pub first_in : ℕ → ℕ → List Bytes → Option ℕ
first_in bucket k [] = None
first_in bucket k (n ∷ ns) = elim (eqb bucket (bucket_of n)) [ true ↦ Some k | false ↦ first_in bucket (suc k) ns ]

-- the number of the predefined name that has a bucket, of which there is one at most (law `alone` of Naming)
unfoldable pub candidate_in : ℕ → Option ℕ
candidate_in bucket = first_in bucket 1 predefined_names

-- the name has the number k
unfoldable pub has_number : Bytes → ℕ → Bool
has_number w k = elim (predefined_number w) [ None ↦ false | Some j ↦ eqb j k ]

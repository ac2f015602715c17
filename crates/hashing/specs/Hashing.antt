-- 02, request 9 "199 buckets": a hash of all bytes of a name, and the bucket that it falls into. Which name has which bucket is free; what holds of
-- any choice is in the expander's relation between memory and table.
use Rattle.std.specs.Prelude.{ℕ, ◌+◌, ◌*◌, ◌/◌, ◌%◌, ◌^◌, ◌≡◌, [], ◌∷◌, take, drop}
use Rattle.rules.specs.Bytes.{Bytes, name_length}
use Rattle.hashing.specs.declared.Scanned.{Scanned}

abbrev pub bucket_count : ℕ
bucket_count = 199

-- the hash goes on with a byte: the sum times a number near 2 ^ 32 over the golden ratio, of which 32 bits are kept; so names that differ in their last bytes alone
-- lie far apart, and by this number no two predefined names share a bucket
unfoldable pub hash_on : ℕ → ℕ → ℕ
hash_on hash x = (hash + x) * 2654435773 % 2 ^ 32

-- and with all bytes of a text
unfoldable pub hashed : ℕ → Bytes → ℕ
hashed hash [] = hash
hashed hash (x ∷ xs) = hashed (hash_on hash x) xs

-- the bucket of a hash: the 32 bits as a part of 2 ^ 32, in 199 equal parts
unfoldable pub bucket_at : ℕ → ℕ
bucket_at hash = hash * bucket_count / 2 ^ 32

unfoldable pub bucket_of : Bytes → ℕ
bucket_of w = bucket_at (hashed 0 w)

-- a name that goes on at the place `from` ends at r.end, and the hash has gone on with its bytes from there
pub record ScannedFrom (s : Bytes) (from hash : ℕ) (r : Scanned) : Type 0 where
  pub end_is : r.end ≡ from + name_length (drop from s)
  pub hash_is : r.hash ≡ hashed hash (take (name_length (drop from s)) (drop from s))

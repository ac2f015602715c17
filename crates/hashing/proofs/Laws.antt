-- Laws of hashes and buckets: a hash has 32 bits, a bucket is one of 199. Assumes nothing.
use Rattle.rules.proofs.Base.{◌≤◌, ◌+◌, ℕ, ◌<◌, ◌*◌, ◌^◌, ◌∙◌, refl, sym, ◌≡◌, true, false, [], ◌++◌, ◌∷◌, mod-lt, add-one, arith, length, drop, take, get_or, drop-cons, drop_of_length-le}
use native.Mathlib.Nat.{div-lt_iff_lt-mul}
use Rattle.std.specs.List.{fold}
use Rattle.rules.specs.Bytes.{Bytes, continues_name, name_length}
use Rattle.hashing.specs.declared.Scanned.{Scanned}
use Rattle.hashing.specs.Hashing.{bucket_count, hash_on, hashed, bucket_at, bucket_of, ScannedFrom}

pub hash_on_below : (h x : ℕ) → hash_on h x < 2 ^ 32
unfolding hash_on
hash_on_below h x = mod-lt ((h + x) * 2654435773) {m = 2 ^ 32} (omega arith)

pub hashed_below : (h : ℕ) (w : Bytes) → h < 2 ^ 32 → hashed h w < 2 ^ 32
unfolding hashed
hashed_below h [] b = b
hashed_below h (x ∷ xs) b = hashed_below (hash_on h x) xs (hash_on_below h x)

pub bucket_at_below : (h : ℕ) → h < 2 ^ 32 → bucket_at h < bucket_count
unfolding bucket_at
bucket_at_below h b = (div-lt_iff_lt-mul {k = 2 ^ 32} {x = h * 199} {y = 199} (omega arith)).1 (omega arith)

pub bucket_below : (w : Bytes) → bucket_of w < bucket_count
unfolding bucket_of
bucket_below w = bucket_at_below (hashed 0 w) (hashed_below 0 w (omega arith))

-- a text that goes on with another
pub hashed-append : (h : ℕ) (v w : Bytes) → hashed h (v ++ w) ≡ hashed (hashed h v) w
unfolding hashed
hashed-append h [] w = refl
hashed-append h (x ∷ xs) w = hashed-append (hash_on h x) xs w

-- one byte after the other
pub folded : (h : ℕ) (w : Bytes) → fold hash_on h w ≡ hashed h w
unfolding hashed
folded h [] = refl
folded h (x ∷ xs) = folded (hash_on h x) xs

-- ---- what a loop walks, from the place i on

-- the name that goes on at a place, whether the byte there goes on with it or not
module _ (s : Bytes) (i : ℕ) where
  pub name_end : length s ≤ i → i + name_length (drop i s) ≡ i
  unfolding name_length
  name_end h = rw (drop_of_length-le s h) (omega arith)

  module _ (h : i < length s) where
    name_on : continues_name (get_or s i 0) ≡ true → i + name_length (drop i s) ≡ i + 1 + name_length (drop (i + 1) s)
    unfolding name_length
    name_on e = rw (drop-cons s i 0 h) (rw (e, name_length, add-one i) (omega arith))

    pub name_off : continues_name (get_or s i 0) ≡ false → i + name_length (drop i s) ≡ i
    unfolding name_length
    name_off e = rw (drop-cons s i 0 h) (rw (e, name_length) (omega arith))

-- the bytes at the front that go on with a name
abbrev front : Bytes → Bytes
front s = take (name_length s) s

hashed_front : (h x : ℕ) (xs : Bytes) → continues_name x ≡ true → hashed h (front (x ∷ xs)) ≡ hashed (hash_on h x) (front xs)
unfolding hashed name_length
hashed_front h x xs e = rw (e, name_length)

module _ (s : Bytes) (i h : ℕ) where
  module _ {r : Scanned} where
    -- the name does not go on
    pub scan_ends : i + name_length (drop i s) ≡ i → r.end ≡ i → r.hash ≡ h → ScannedFrom s i h r
    unfolding hashed
    scan_ends n e f = record { end_is = e ∙ sym n; hash_is = rw none f }
      where
        none : name_length (drop i s) ≡ 0
        none = omega (arith, n)

    pub scan_on : i < length s → continues_name (get_or s i 0) ≡ true → ScannedFrom s (i + 1) (hash_on h (get_or s i 0)) r → ScannedFrom s i h r
    scan_on e c n = record { end_is = n.end_is ∙ sym (name_on s i e c); hash_is = n.hash_is ∙ sym more }
      where
        more : hashed h (front (drop i s)) ≡ hashed (hash_on h (get_or s i 0)) (front (drop (i + 1) s))
        more = rw (drop-cons s i 0 e, add-one i) (hashed_front h _ _ c)

-- Newlines of a text, counted and as bits: what the index of lines rests on. Assumes nothing.
use Prim.Native.Nat.{ℕ, zero, suc, ◌+◌, ◌-◌, ◌/◌, ◌%◌, ◌≤◌, ◌<◌}
use native.Mathlib.Omega.{arith}
use native.Mathlib.Nat.{add_assoc, zero-add, sub-zero}
use mathlib.Core.Path.{◌≡◌, refl, sym, ap, ap₂, ◌∙◌}
use mathlib.Core.Bool.{Bool, true, false, cond}
use mathlib.Core.List.{[], ◌∷◌, ◌++◌}
use Rattle.std.specs.Prelude.{Option, None, Some}
use lib.Count.{ones_in}
use lib.Dec.{eqb}
use lib.ListN.{length, take, drop}
use lib.Seq.{take-add}
use Rattle.rules.specs.Bytes.{Bytes}
use Rattle.rules.specs.Places.{plus_one}
use Rattle.rules.specs.Lines.{newline_bit, newlines, newline_bits, select, behind_newline}

-- ---- the bits of a text

pub bit_le : (x : ℕ) → newline_bit x ≤ 1
unfolding newline_bit
bit_le x = go (eqb x 10)
  where
    go : (t : Bool) → cond t 1 0 ≤ 1
    go true = omega arith
    go false = omega arith

-- the least bit is the first byte's, and the others are those of the bytes behind it
pub bits_odd : (x : ℕ) (xs : Bytes) → newline_bits (x ∷ xs) % 2 ≡ newline_bit x
unfolding newline_bits
bits_odd x xs = let h = bit_le x in omega arith

pub bits_half : (x : ℕ) (xs : Bytes) → newline_bits (x ∷ xs) / 2 ≡ newline_bits xs
unfolding newline_bits
bits_half x xs = let h = bit_le x in omega arith

no_ones : (d : ℕ) → ones_in d 0 ≡ 0
unfolding ones_in
no_ones zero = refl
no_ones (suc d) = let h = no_ones d in omega arith

-- the set bits below a place are the newlines before it
pub ones_newlines : (d : ℕ) (xs : Bytes) → ones_in d (newline_bits xs) ≡ newlines (take d xs)
unfolding ones_in newlines newline_bits
ones_newlines zero xs = refl
ones_newlines (suc d) [] = no_ones (suc d)
ones_newlines (suc d) (x ∷ xs) =
    ap₂ (λ (a b : ℕ). a + ones_in d b) (bits_odd x xs) (bits_half x xs) ∙ ap (λ (n : ℕ). newline_bit x + n) (ones_newlines d xs)

-- ---- newlines of joined texts

newlines-append : (xs ys : Bytes) → newlines (xs ++ ys) ≡ newlines xs + newlines ys
unfolding newlines
newlines-append [] ys = sym (zero-add (newlines ys))
newlines-append (x ∷ xs) ys = ap (λ (n : ℕ). newline_bit x + n) (newlines-append xs ys) ∙ sym (add_assoc (newline_bit x) (newlines xs) (newlines ys))

pub newlines-add : (a b : ℕ) (xs : Bytes) → newlines (take (a + b) xs) ≡ newlines (take a xs) + newlines (take b (drop a xs))
newlines-add a b xs = ap newlines (take-add a b xs) ∙ newlines-append (take a xs) (take b (drop a xs))

-- no text has more newlines than bytes
pub newlines_le : (xs : Bytes) → newlines xs ≤ length xs
unfolding newlines
newlines_le [] = omega arith
newlines_le (x ∷ xs) = let h = bit_le x in let k = newlines_le xs in omega arith

-- ---- the place behind a newline

unfoldable pub farther : ℕ → Option ℕ → Option ℕ
farther a None = None
farther a (Some p) = Some (a + p)

farther_zero : (o : Option ℕ) → farther 0 o ≡ o
unfolding farther
farther_zero None = refl
farther_zero (Some p) = ap Some (zero-add p)

farther_later : (a : ℕ) (o : Option ℕ) → plus_one (farther a o) ≡ farther (suc a) o
unfolding farther plus_one
farther_later a None = refl
farther_later a (Some p) = ap Some (omega arith)

-- a word without set bits
pub no_bit : (d m : ℕ) → select d m 0 ≡ None
unfolding select plus_one
no_bit zero m = refl
no_bit (suc d) m = ap plus_one (no_bit d m)

-- `behind_newline` by the first byte's bit and the bytes behind it
abbrev on_bit : ℕ → ℕ → Bytes → Option ℕ
on_bit b m xs = elim b [ zero ↦ plus_one (behind_newline m xs) | suc c ↦ elim m [ zero ↦ Some 1 | suc k ↦ plus_one (behind_newline k xs) ] ]

-- the bit in a word says where the newline stands; the place behind it is one more
pub bit-behind : (d m : ℕ) (xs : Bytes) → plus_one (select d m (newline_bits xs)) ≡ behind_newline m (take d xs)
unfolding select plus_one behind_newline newline_bits
bit-behind zero m xs = refl
bit-behind (suc d) m [] = ap plus_one (no_bit (suc d) m)
bit-behind (suc d) m (x ∷ xs) =
    ap₂ (λ (a b : ℕ). plus_one (elim a [ zero ↦ plus_one (select d m b) | suc c ↦ elim m [ zero ↦ Some 0 | suc k ↦ plus_one (select d k b) ] ])) (bits_odd x xs) (bits_half x xs)
    ∙ first (newline_bit x) m (λ k. bit-behind d k xs)
  where
    first : (b m : ℕ) → ((k : ℕ) → plus_one (select d k (newline_bits xs)) ≡ behind_newline k (take d xs))
        → plus_one (elim b [ zero ↦ plus_one (select d m (newline_bits xs)) | suc c ↦ elim m [ zero ↦ Some 0 | suc k ↦ plus_one (select d k (newline_bits xs)) ] ])
        ≡ on_bit b m (take d xs)
    first zero m h = ap plus_one (h m)
    first (suc c) zero h = refl
    first (suc c) (suc k) h = ap plus_one (h k)

-- a newline in the first of two joined texts
pub behind_first : (m : ℕ) (xs ys : Bytes) → m < newlines xs → behind_newline m (xs ++ ys) ≡ behind_newline m xs
unfolding behind_newline newlines
behind_first m [] ys h = absurd (omega arith)
behind_first m (x ∷ xs) ys h = first (newline_bit x) (bit_le x) m h (λ k q. behind_first k xs ys q)
  where
    first : (b : ℕ) → b ≤ 1 → (m : ℕ) → m < b + newlines xs → ((k : ℕ) → k < newlines xs → behind_newline k (xs ++ ys) ≡ behind_newline k xs)
        → on_bit b m (xs ++ ys) ≡ on_bit b m xs
    first zero l m h r = ap plus_one (r m (omega arith))
    first (suc c) l zero h r = refl
    first (suc c) l (suc k) h r = ap plus_one (r k (omega arith))

-- or behind them
pub behind_second : (m : ℕ) (xs ys : Bytes) → newlines xs ≤ m → behind_newline m (xs ++ ys) ≡ farther (length xs) (behind_newline (m - newlines xs) ys)
unfolding behind_newline newlines
behind_second m [] ys h = ap (λ (n : ℕ). behind_newline n ys) (sym (sub-zero m)) ∙ sym (farther_zero (behind_newline (m - 0) ys))
behind_second m (x ∷ xs) ys h = first (newline_bit x) (bit_le x) m h (λ k q. behind_second k xs ys q)
  where
    first : (b : ℕ) → b ≤ 1 → (m : ℕ) → b + newlines xs ≤ m
        → ((k : ℕ) → newlines xs ≤ k → behind_newline k (xs ++ ys) ≡ farther (length xs) (behind_newline (k - newlines xs) ys))
        → on_bit b m (xs ++ ys) ≡ farther (suc (length xs)) (behind_newline (m - (b + newlines xs)) ys)
    first zero l m h r =
        ap plus_one (r m (omega arith)) ∙ farther_later (length xs) (behind_newline (m - newlines xs) ys)
        ∙ ap (λ (n : ℕ). farther (suc (length xs)) (behind_newline n ys)) (omega arith)
    first (suc c) l zero h r = absurd (omega arith)
    first (suc c) l (suc k) h r =
        ap plus_one (r k (omega arith)) ∙ farther_later (length xs) (behind_newline (k - newlines xs) ys)
        ∙ ap (λ (n : ℕ). farther (suc (length xs)) (behind_newline n ys)) (omega arith)

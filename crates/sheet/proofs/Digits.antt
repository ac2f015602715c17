-- Laws of digits that are read one behind the other. Assumes nothing.
use Rattle.rules.proofs.Base.{◌≤◌, ◌+◌, ℕ, ◌-◌, ◌<◌, suc, ◌*◌, ◌^◌, ◌∙◌, refl, ap, ◌≡◌, true, Bool, false, Some, None, Option, none-some, same_Some, [], ◌∷◌, ◌++◌, le_trans, mul-le-mul_left, add-one, arith, ltb, pow-suc, length, take, get_or, take-suc, le-ltb, lt-ltb, lit<, lt_of_lt_of_le, le_of_suc-le-suc}
use native.Mathlib.Nat.{pow-le-pow_right, mul_assoc}
use Rattle.rules.specs.Bytes.{Bytes, is_digit, is_lower, is_upper}
use Rattle.rules.specs.Numerals.{digit_worth, natural_from}
use Rattle.rules.specs.Sheets.{front_length}
use Rattle.rules.proofs.Classes.{digit_bounds, upper_bounds, lower_bounds}

-- digits behind digits
module _ (radix v n : ℕ) (xs ys : Bytes) (ih : (w : ℕ) → natural_from radix w xs ≡ Some n → natural_from radix w (xs ++ ys) ≡ natural_from radix n ys) where
  by_size : (d : ℕ) (t : Bool) → elim t [ true ↦ natural_from radix (v * radix + d) xs | false ↦ None ] ≡ Some n
      → elim t [ true ↦ natural_from radix (v * radix + d) (xs ++ ys) | false ↦ None ] ≡ natural_from radix n ys
  by_size d true f = ih (v * radix + d) f
  by_size d false f = absurd (none-some n f)

  by_worth : (o : Option ℕ) → elim o [ None ↦ None | Some d ↦ elim (ltb d radix) [ true ↦ natural_from radix (v * radix + d) xs | false ↦ None ] ] ≡ Some n
      → elim o [ None ↦ None | Some d ↦ elim (ltb d radix) [ true ↦ natural_from radix (v * radix + d) (xs ++ ys) | false ↦ None ] ] ≡ natural_from radix n ys
  by_worth None f = absurd (none-some n f)
  by_worth (Some d) f = by_size d (ltb d radix) f

pub from_append : (radix v n : ℕ) (xs ys : Bytes) → natural_from radix v xs ≡ Some n → natural_from radix v (xs ++ ys) ≡ natural_from radix n ys
unfolding natural_from
from_append radix v n [] ys e = ap (λ m. natural_from radix m ys) (same_Some v n e)
from_append radix v n (x ∷ xs) ys e = by_worth radix v n xs ys (λ w. from_append radix w n xs ys) (digit_worth x) e

-- a digit, and what is none in radix 10
module _ (v x : ℕ) (xs : Bytes) where
  digit_on : is_digit x ≡ true → natural_from 10 v (x ∷ xs) ≡ natural_from 10 (v * 10 + (x - 48)) xs
  unfolding natural_from digit_worth
  digit_on e = let h = (digit_bounds x e).1 in rw (natural_from, digit_worth, e, lt-ltb (x - 48) 10 (omega arith))

  digit_off : is_digit x ≡ false → natural_from 10 v (x ∷ xs) ≡ None
  unfolding natural_from digit_worth
  digit_off e = by_lower (is_lower x) refl
    where
      by_upper : is_lower x ≡ false → (t : Bool) → is_upper x ≡ t → natural_from 10 v (x ∷ xs) ≡ None
      by_upper l true u = let h = (upper_bounds x u).0 in rw (natural_from, digit_worth, e, l, u, le-ltb (x - 55) 10 (omega arith))
      by_upper l false u = rw (natural_from, digit_worth, e, l, u)

      by_lower : (t : Bool) → is_lower x ≡ t → natural_from 10 v (x ∷ xs) ≡ None
      by_lower true l = let h = (lower_bounds x l).0 in rw (natural_from, digit_worth, e, l, le-ltb (x - 87) 10 (omega arith))
      by_lower false l = by_upper l (is_upper x) refl

-- the number of the first i digits, with a bound
pub record Read (s : Bytes) (v i n : ℕ) : Type 0 where
  pub number : natural_from 10 v (take i s) ≡ Some n
  pub bounded : n < suc v * 10 ^ i

module _ (s : Bytes) (v : ℕ) where
  pub read_first : Read s v 0 v
  unfolding natural_from
  read_first = record { number = refl; bounded = omega arith }

  module _ (i n : ℕ) (r : Read s v i n) (h : i < length s) (e : is_digit (get_or s i 0) ≡ true) where
    pub read_on : Read s v (i + 1) (n * 10 + (get_or s i 0 - 48))
    unfolding natural_from
    read_on =
        record {
          number = rw (add-one i, take-suc s i 0 h, from_append 10 v n (take i s) (get_or s i 0 ∷ []) r.number, digit_on n (get_or s i 0) [] e);
          bounded = let b = r.bounded in let d = (digit_bounds (get_or s i 0) e).1 in rw (add-one i, pow-suc 10 i, ← mul_assoc (suc v) (10 ^ i) 10) (omega arith);
        }

    -- within 64 bits
    pub read_small : suc v * 10 ^ length s ≤ 10000000000000000 → n * 10 + (get_or s i 0 - 48) < 10000000000000000
    read_small w = lt_of_lt_of_le read_on.bounded (le_trans (mul-le-mul_left (suc v) (pow-le-pow_right (lit< tt) h')) w)
      where
        h' : i + 1 ≤ length s
        h' = omega arith

-- what has a byte that is no digit is no number
pub no_natural : (v : ℕ) (s : Bytes) → front_length is_digit s < length s → natural_from 10 v s ≡ None
unfolding front_length
no_natural v [] h = absurd (omega arith)
no_natural v (x ∷ xs) h = go (is_digit x) refl h (λ w. no_natural w xs)
  where
    go : (t : Bool) → is_digit x ≡ t → elim t [ true ↦ suc (front_length is_digit xs) | false ↦ 0 ] < suc (length xs) → ((w : ℕ) → front_length is_digit xs < length xs → natural_from 10 w xs ≡ None)
        → natural_from 10 v (x ∷ xs) ≡ None
    go true e k ih = digit_on v x xs e ∙ ih (v * 10 + (x - 48)) (le_of_suc-le-suc k)
    go false e k ih = digit_off v x xs e

pub ten_small : (i : ℕ) → i ≤ 15 → 10 ^ i ≤ 1000000000000000
ten_small i h = pow-le-pow_right {n = 10} (lit< tt) h

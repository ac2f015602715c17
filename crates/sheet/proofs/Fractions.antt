-- Laws of decimals. Assumes nothing.
use Rattle.rules.proofs.Base.{◌≤◌, ◌+◌, ℕ, ◌-◌, ◌<◌, suc, ◌*◌, ◌^◌, ◌∙◌, refl, sym, ap, ◌≡◌, true, false, Bool, Some, None, [], ◌∷◌, ◌++◌, arith, le_trans, mul-le-mul, one-mul, eqb, leb, eq-eqb, ne_eqb, le-leb, lt-leb, lit<, lt_of_lt_of_le, length, take, drop, get_or, length-append, length-take-le, length-drop, drop_of_length-le, drop-cons, le_of_lt, leb-true, leb-false, lit≤, le_refl}
use native.Mathlib.Nat.{pow-le-pow_left, pow-le-pow_right, lt_of_le_of_lt}
use lib.Pow.{pow-add}
use lib.Dec.{T, le→leb}
use lib.Ieee.{binary64, in_float}
use lib.IntN.{pos}
use Rattle.rules.specs.Bytes.{Bytes, is_digit}
use Rattle.rules.specs.Numerals.{natural_from, natural}
use Rattle.rules.specs.Sheets.{front_length, digit_count, quotient, quotient_of, fraction, pointed, unsigned_decimal, negated, decimal_value}
use Rattle.sheet.proofs.Fronts.{front_le}
use Rattle.sheet.proofs.Digits.{from_append, no_natural}

-- ---- digits, a point, digits

no_whole : (a b : Bytes) → length a ≡ 0 → fraction a b ≡ None
unfolding fraction
no_whole [] b h = refl
no_whole (x ∷ xs) b h = absurd (omega arith)

no_part : (a b : Bytes) → length b ≡ 0 → fraction a b ≡ None
unfolding fraction
no_part [] b h = refl
no_part (x ∷ xs) [] h = refl
no_part (x ∷ xs) (y ∷ ys) h = absurd (omega arith)

too_many : (a b : Bytes) → 15 < length (a ++ b) → fraction a b ≡ None
unfolding fraction
too_many [] b h = refl
too_many (x ∷ xs) [] h = refl
too_many (x ∷ xs) (y ∷ ys) h = rw (fraction, lt-leb (length ((x ∷ xs) ++ (y ∷ ys))) 15 h)

all_digits : (a b : Bytes) → (length a ≡ 0 → ⊥) → (length b ≡ 0 → ⊥) → length (a ++ b) ≤ 15 → fraction a b ≡ quotient_of (length b) (natural_from 10 0 (a ++ b))
unfolding fraction natural
all_digits [] b f g h = absurd (f refl)
all_digits (x ∷ xs) [] f g h = absurd (g refl)
all_digits (x ∷ xs) (y ∷ ys) f g h = rw (fraction, le-leb (length ((x ∷ xs) ++ (y ∷ ys))) 15 h, natural)

fewer : {a b : ℕ} → a ≤ b → (a ≡ b → ⊥) → a < b
fewer h u = omega (arith, u)

pub digits_within : (w : Bytes) (n : ℕ) → n ≡ digit_count w → n ≤ length w
unfolding digit_count
digits_within w n d = rw d (front_le is_digit w)

-- digits that are not all of a text
pub short : (w : Bytes) (n : ℕ) → n ≡ digit_count w → (n ≡ length w → ⊥) → n < length w
unfolding digit_count
short w n d u = fewer (rw d (front_le is_digit w)) u

-- ---- a decimal without its minus, of which the first n bytes are digits

module _ (w : Bytes) (n : ℕ) (d : n ≡ digit_count w) where
  pub only_digits : length w ≤ n → unsigned_decimal w ≡ None
  unfolding unsigned_decimal pointed
  only_digits h = rw (unsigned_decimal, ← d, drop_of_length-le w h, pointed)

  module _ (h : n < length w) where
    behind : unsigned_decimal w ≡ elim (eqb (get_or w n 0) 46) [ true ↦ fraction (take n w) (drop (suc n) w) | false ↦ None ]
    unfolding unsigned_decimal pointed
    behind = ap (λ (k : ℕ). pointed (take k w) (drop k w)) (sym d) ∙ ap (pointed (take n w)) (drop-cons w n 0 h)

    pub no_point : (get_or w n 0 ≡ 46 → ⊥) → unsigned_decimal w ≡ None
    no_point f = behind ∙ rw (ne_eqb (get_or w n 0) 46 f)

    sizes : length (take n w ++ drop (suc n) w) + 1 ≡ length w
    sizes = omega (arith, length-append (take n w) (drop (suc n) w), length-take-le n w (le_of_lt h), length-drop (suc n) w)

    either : fraction (take n w) (drop (suc n) w) ≡ None → unsigned_decimal w ≡ None
    either e = go (eqb (get_or w n 0) 46) behind
      where
        go : (t : Bool) → unsigned_decimal w ≡ elim t [ true ↦ fraction (take n w) (drop (suc n) w) | false ↦ None ] → unsigned_decimal w ≡ None
        go true f = f ∙ e
        go false f = f

    no_digit_before : n ≡ 0 → unsigned_decimal w ≡ None
    no_digit_before e = either (no_whole (take n w) (drop (suc n) w) (length-take-le n w (le_of_lt h) ∙ e))

    pub no_digit_behind : length w - n - 1 ≡ 0 → unsigned_decimal w ≡ None
    no_digit_behind e = either (no_part (take n w) (drop (suc n) w) (omega (arith, length-drop (suc n) w)))

    too_long_at : 16 < length w → unsigned_decimal w ≡ None
    too_long_at k = either (too_many (take n w) (drop (suc n) w) (omega (arith, sizes)))

    -- the digits behind the point, behind those before it, whose number is v
    module _ (v : ℕ) (r : natural_from 10 0 (take n w) ≡ Some v) (f : n ≡ 0 → ⊥) (g : length w - n - 1 ≡ 0 → ⊥) (k : length w ≤ 16) (p : get_or w n 0 ≡ 46) where
      joined : unsigned_decimal w ≡ quotient_of (length (drop (suc n) w)) (natural_from 10 v (drop (suc n) w))
      joined =
          behind
          ∙ rw (eq-eqb (get_or w n 0) 46 p)
          (all_digits (take n w) (drop (suc n) w) (λ e. f (sym (length-take-le n w (le_of_lt h)) ∙ e)) (λ e. g (omega (arith, length-drop (suc n) w, e))) (omega (arith, sizes)))
          ∙ ap (quotient_of (length (drop (suc n) w))) (from_append 10 0 v (take n w) (drop (suc n) w) r)

      pub no_digits : (digit_count (drop (suc n) w) ≡ length w - n - 1 → ⊥) → unsigned_decimal w ≡ None
      unfolding quotient_of digit_count
      no_digits u =
          let l : length (drop (suc n) w) ≡ length w - n - 1 = omega (arith, length-drop (suc n) w) in
          joined ∙ rw (no_natural v (drop (suc n) w) (fewer (front_le is_digit (drop (suc n) w)) (λ e. u (e ∙ l))))

      pub decimal_is : (m : ℕ) → natural_from 10 v (drop (suc n) w) ≡ Some m → unsigned_decimal w ≡ Some (quotient m (length w - n - 1))
      unfolding quotient_of
      decimal_is m e =
          let k' : length (drop (suc n) w) ≡ length w - n - 1 = omega (arith, length-drop (suc n) w) in
          joined ∙ rw (e, k')

-- whether there is a byte behind the digits or not
whichever : (w : Bytes) (n : ℕ) → n ≡ digit_count w → (n < length w → unsigned_decimal w ≡ None) → unsigned_decimal w ≡ None
whichever w n d f = go (leb (length w) n) refl
  where
    go : (t : Bool) → leb (length w) n ≡ t → unsigned_decimal w ≡ None
    go true e = only_digits w n d (leb-true (length w) n e)
    go false e = f (leb-false (length w) n e)

pub too_long : (w : Bytes) → 16 < length w → unsigned_decimal w ≡ None
too_long w h = whichever w (digit_count w) refl (λ k. too_long_at w (digit_count w) refl k h)

pub no_first_digit : (w : Bytes) (n : ℕ) → n ≡ digit_count w → n ≡ 0 → unsigned_decimal w ≡ None
no_first_digit w n d e = whichever w n d (λ k. no_digit_before w n d k e)

-- ---- what the numbers are below

module _ (n v : ℕ) (b : v < 1 * 10 ^ n) where
  product : (p : ℕ) → suc v * 10 ^ p ≤ 10 ^ (n + p)
  product p = rw (pow-add 10 n p) (mul-le-mul {n₂ = 10 ^ n} (omega (arith, b, one-mul (10 ^ n))) (le_refl (10 ^ p)))

  pub within-16 : (p : ℕ) → n + p ≤ 16 → suc v * 10 ^ p ≤ 10000000000000000
  within-16 p h = le_trans (product p) (pow-le-pow_right {n = 10} (lit< tt) h)

  pub in_float_lem : (p m : ℕ) → n + p ≤ 15 → m < suc v * 10 ^ p → T (in_float binary64 (pos m))
  unfolding in_float
  in_float_lem p m h k = le→leb _ _ (le_trans (le_of_lt (lt_of_lt_of_le k (product p))) (le_trans (pow-le-pow_right {n = 10} (lit< tt) h) (lit≤ tt)))

-- a power of ten at most, with an exponent of 15 at most
power_small : (base p : ℕ) → base ≤ 10 → p ≤ 15 → base ^ p ≤ 10 ^ 15
power_small base p b h = le_trans (pow-le-pow_left b p) (pow-le-pow_right {n = 10} (lit< tt) h)

pub power_fits : (base p : ℕ) → base ≤ 10 → p ≤ 15 → base ^ p < 2 ^ 64
power_fits base p b h = lt_of_le_of_lt (power_small base p b h) (lit< tt)

pub power_in_float : (base p : ℕ) → base ≤ 10 → p ≤ 15 → T (in_float binary64 (pos (base ^ p)))
unfolding in_float
power_in_float base p b h = le→leb _ _ (le_trans (power_small base p b h) (lit≤ tt))

pub ten_in_float : (p : ℕ) → p ≤ 15 → T (in_float binary64 (pos (10 ^ p)))
ten_in_float p h = power_in_float 10 p (le_refl 10) h

-- ---- the minus

pub no_byte : (s : Bytes) → length s ≡ 0 → decimal_value s ≡ None
unfolding decimal_value
no_byte [] h = refl
no_byte (x ∷ xs) h = absurd (omega arith)

pub without_minus : (s : Bytes) → (length s ≡ 0 → ⊥) → (get_or s 0 0 ≡ 45 → ⊥) → decimal_value s ≡ unsigned_decimal s
unfolding decimal_value
without_minus [] h f = absurd (h refl)
without_minus (x ∷ xs) h f = rw (decimal_value, ne_eqb x 45 f)

pub with_minus : (s : Bytes) → (length s ≡ 0 → ⊥) → get_or s 0 0 ≡ 45 → decimal_value s ≡ negated (unsigned_decimal (drop 1 s))
unfolding decimal_value
with_minus [] h e = absurd (h refl)
with_minus (x ∷ xs) h e = rw (decimal_value, eq-eqb x 45 e)

pub no_byte_there : (s : Bytes) → length s ≡ 0 → unsigned_decimal s ≡ decimal_value s
unfolding unsigned_decimal pointed decimal_value digit_count front_length
no_byte_there [] h = refl
no_byte_there (x ∷ xs) h = absurd (omega arith)

-- 32-bit signed numbers: what the library's words leave of a number is what the book's leave. Assumes nothing.
use Rattle.std.specs.Int.{w32, cast_unsigned, cast_signed, int_wrap, int_wrapping_div, int_wrapping_neg}
use Rattle.std.specs.Int.Bits.{bit_and, bit_or, bit_xor}
use Rattle.std.specs.Int.Signed.{quot_z, mag}
use Rattle.std.specs.Prelude.{FitsSigned}
use Rattle.std.proofs.lemmas.Int.{to_z-of_z, int_wrap-mul_right, wrapping_add_is, wrapping_sub_is, wrapping_mul_is, wrapping_neg_is, wrapping_mul-bits}
use Rattle.std.proofs.lemmas.Nat.{pow_below}
use Rattle.rules.proofs.Base.{◌≤◌, ◌+◌, ℕ, ◌-◌, ◌<◌, suc, zero, ◌*◌, ◌^◌, ◌/◌, ◌%◌, ◌∙◌, refl, ap, ap₂, ◌≡◌, true, Bool, false, cond, div-le_self, arith, ltb, pos, negsuc, ℤ, neg_ℤ, nat_abs, ◌+ℤ◌, ◌-ℤ◌, ◌*ℤ◌}
use Rattle.rules.specs.Words.{signed_value, wrapped, wrapped_number}

-- the number of bits
pub signed_value_is : (n : ℕ) → cast_signed w32 n ≡ signed_value n
unfolding signed_value
signed_value_is n = go (ltb n 2147483648)
  where
    go : (t : Bool) → cond t (pos n) (negsuc (4294967296 - suc n)) ≡ cond t (pos n) (negsuc (4294967295 - n))
    go true = refl
    go false = ap negsuc (omega arith)

-- the bits of a number
wrapped_is : (z : ℤ) → mag z < 4294967296 → cast_unsigned w32 z ≡ wrapped z
unfolding wrapped
wrapped_is (pos n) h = omega arith
wrapped_is (negsuc n) h = omega arith

fits_bits : (z : ℤ) → FitsSigned w32 z → cast_unsigned w32 z ≡ wrapped z
fits_bits z f = wrapped_is z (omega (arith, f.sfits))

bits_below : (z : ℤ) → FitsSigned w32 z → cast_unsigned w32 z < 2 ^ 32
bits_below (pos n) f = omega (arith, f.sfits)
bits_below (negsuc n) f = omega arith

-- what is left of a number
wrapped_number_is : (z : ℤ) → int_wrap w32 z ≡ wrapped_number z
unfolding wrapped_number wrapped int_wrap
wrapped_number_is (pos n) = signed_value_is (n % 2 ^ 32)
wrapped_number_is (negsuc n) = ap (cast_signed w32) (omega arith) ∙ signed_value_is (4294967295 - n % 2 ^ 32)

-- a quotient is at most as far from 0 as what is divided
mag_neg : (n : ℕ) → mag (neg_ℤ (pos n)) ≤ n
mag_neg zero = omega arith
mag_neg (suc n) = omega arith

mag_quotient : (x y : ℤ) → mag (quot_z x y) ≤ nat_abs x
mag_quotient (pos a) (pos b) = div-le_self a b
mag_quotient (pos a) (negsuc b) = omega (arith, mag_neg (a / suc b), div-le_self a (suc b))
mag_quotient (negsuc a) (pos b) = omega (arith, mag_neg (suc a / b), div-le_self (suc a) b)
mag_quotient (negsuc a) (negsuc b) = div-le_self (suc a) (suc b)

mag_abs : (x : ℤ) → nat_abs x ≤ suc (mag x)
mag_abs (pos a) = omega arith
mag_abs (negsuc a) = omega arith

-- a number below 2 ^ 32 that is wrapped, as the number of its bits
bits_number : (n : ℕ) → n < 2 ^ 32 → cast_signed w32 n ≡ int_wrap w32 (pos n)
unfolding int_wrap
bits_number n h = ap (cast_signed w32) (omega arith)

module _ (x : ℤ) (fx : FitsSigned w32 x) where
  pub negative_is : int_wrapping_neg w32 x ≡ wrapped_number (neg_ℤ x)
  negative_is = wrapping_neg_is w32 x fx ∙ wrapped_number_is (neg_ℤ x)

  pub complement_is : cast_signed w32 (4294967295 - cast_unsigned w32 x) ≡ signed_value (4294967295 - wrapped x)
  complement_is = signed_value_is (4294967295 - cast_unsigned w32 x) ∙ ap (λ (n : ℕ). signed_value (4294967295 - n)) (fits_bits x fx)

  pub shifted_is : (k : ℕ) → k < 32 → cast_signed w32 (cast_unsigned w32 x * 2 ^ k % 2 ^ 32) ≡ wrapped_number (x *ℤ pos (2 ^ k))
  shifted_is k h =
      let l = pow_below k 32 h in
      wrapping_mul-bits w32 (cast_unsigned w32 x) (2 ^ k) (bits_below x fx) l
      ∙ ap₂ (λ a b. int_wrap w32 (a *ℤ b)) (to_z-of_z w32 x fx) (bits_number (2 ^ k) l)
      ∙ int_wrap-mul_right w32 x (pos (2 ^ k))
      ∙ wrapped_number_is (x *ℤ pos (2 ^ k))

  module _ (y : ℤ) (fy : FitsSigned w32 y) where
    pub sum_is : cast_signed w32 ((cast_unsigned w32 x + cast_unsigned w32 y) % 2 ^ 32) ≡ wrapped_number (x +ℤ y)
    sum_is = wrapping_add_is w32 x y fx fy ∙ wrapped_number_is (x +ℤ y)

    pub difference_is : cast_signed w32 ((cast_unsigned w32 x + (2 ^ 32 - cast_unsigned w32 y)) % 2 ^ 32) ≡ wrapped_number (x -ℤ y)
    difference_is = wrapping_sub_is w32 x y fx fy ∙ wrapped_number_is (x -ℤ y)

    pub product_is : cast_signed w32 (cast_unsigned w32 x * cast_unsigned w32 y % 2 ^ 32) ≡ wrapped_number (x *ℤ y)
    product_is = wrapping_mul_is w32 x y fx fy ∙ wrapped_number_is (x *ℤ y)

    -- of the number that the library's division returns
    pub quotient_is : {r : ℤ} → FitsSigned w32 r → r ≡ int_wrapping_div w32 (cast_signed w32 (cast_unsigned w32 x)) (cast_signed w32 (cast_unsigned w32 y))
        → cast_signed w32 (cast_unsigned w32 r) ≡ wrapped_number (quot_z x y)
    unfolding wrapped_number
    quotient_is {r} f e =
        to_z-of_z w32 r f
        ∙ e
        ∙ ap₂ (λ a b. int_wrapping_div w32 a b) (to_z-of_z w32 x fx) (to_z-of_z w32 y fy)
        ∙ signed_value_is (cast_unsigned w32 (quot_z x y))
        ∙ ap signed_value (wrapped_is (quot_z x y) (omega (arith, mag_quotient x y, mag_abs x, fx.sfits)))

    bitwise : (f : ℕ → ℕ → ℕ) → cast_signed w32 (f (cast_unsigned w32 x) (cast_unsigned w32 y)) ≡ signed_value (f (wrapped x) (wrapped y))
    bitwise f = signed_value_is (f (cast_unsigned w32 x) (cast_unsigned w32 y)) ∙ ap₂ (λ m n. signed_value (f m n)) (fits_bits x fx) (fits_bits y fy)

    pub bit_and_is : cast_signed w32 (bit_and (cast_unsigned w32 x) (cast_unsigned w32 y)) ≡ signed_value (bit_and (wrapped x) (wrapped y))
    bit_and_is = bitwise bit_and

    pub bit_or_is : cast_signed w32 (bit_or (cast_unsigned w32 x) (cast_unsigned w32 y)) ≡ signed_value (bit_or (wrapped x) (wrapped y))
    bit_or_is = bitwise bit_or

    pub bit_xor_is : cast_signed w32 (bit_xor (cast_unsigned w32 x) (cast_unsigned w32 y)) ≡ signed_value (bit_xor (wrapped x) (wrapped y))
    bit_xor_is = bitwise bit_xor

-- for the tactics: what the operators of `i32` leave
pub ruleset numbers = (negative_is, complement_is, shifted_is, sum_is, difference_is, product_is, quotient_is, bit_and_is, bit_or_is, bit_xor_is)

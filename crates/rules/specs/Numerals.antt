-- Numbers in texts: how they are read and how they are written.
use Rattle.std.specs.Prelude.{ℕ, zero, suc, ◌+◌, ◌-◌, ◌*◌, ◌/◌, ◌%◌, true, false, cond, [], ◌∷◌, ◌++◌, leb, ltb, eqb, ℤ, pos, negsuc, neg_ℤ, length, replicate, Option, None, Some}
use Rattle.rules.specs.Bytes.{Bytes, is_digit, is_lower, is_upper}
use Rattle.rules.specs.Words.{largest}

-- what a digit is worth: 0 to 9, then 10 to 35 for the letters. Another byte is no digit, whatever the radix
unfoldable pub digit_worth : ℕ → Option ℕ
digit_worth x = cond (is_digit x) (Some (x - 48)) (cond (is_lower x) (Some (x - 87)) (cond (is_upper x) (Some (x - 55)) None))

-- the number that digits write behind the digits of v, if each of them is worth less than the radix. So radix 0 has no digit, radix 1 only 0, and a
-- radix above 36 none beyond z
unfoldable pub natural_from : ℕ → ℕ → Bytes → Option ℕ
natural_from radix v [] = Some v
natural_from radix v (x ∷ xs) =
    elim (digit_worth x) [
      | None ↦ None
      | Some d ↦ elim (ltb d radix) [ true ↦ natural_from radix (v * radix + d) xs | false ↦ None ]
    ]

-- one or more digits of a radix
unfoldable pub natural : ℕ → Bytes → Option ℕ
natural radix [] = None
natural radix (x ∷ xs) = natural_from radix 0 (x ∷ xs)

-- a number that is at most a limit
unfoldable pub up_to : ℕ → Option ℕ → Option ℕ
up_to limit None = None
up_to limit (Some n) = elim (leb n limit) [ true ↦ Some n | false ↦ None ]

unfoldable pub as_signed : (ℕ → ℤ) → Option ℕ → Option ℤ
as_signed f None = None
as_signed f (Some n) = Some (f n)

-- 01 "an optional minus and one or more decimal digits, within -2147483648 to 2147483647"
unfoldable pub number : Bytes → Option ℤ
number [] = None
number (x ∷ xs) =
    elim (eqb x 45) [
      | true ↦ as_signed (λ n. neg_ℤ (pos n)) (up_to (largest + 1) (natural 10 xs))
      | false ↦ as_signed pos (up_to largest (natural 10 (x ∷ xs)))
    ]

-- 0 to 9, then a to z: 01 "Digits above 9 are lower case"
unfoldable pub digit_byte : ℕ → ℕ
digit_byte d = cond (ltb d 10) (48 + d) (87 + d)

-- the digits of v in a radix of 2 or more. The first number bounds the divisions: any above v is enough (laws: proofs/Fuel.antt)
unfoldable pub digits_by : ℕ → ℕ → ℕ → Bytes
digits_by zero radix v = []
digits_by (suc k) radix v = elim (ltb v radix) [ true ↦ digit_byte v ∷ [] | false ↦ digits_by k radix (v / radix) ++ (digit_byte (v % radix) ∷ []) ]

unfoldable pub digits_in : ℕ → ℕ → Bytes
digits_in radix v = digits_by (suc v) radix v

-- zeros in front of digits, up to a least count of them
unfoldable pub zero_filled : ℕ → Bytes → Bytes
zero_filled least ds = replicate (least - length ds) 48 ++ ds

-- a number written in a radix with a least count of digits: 01 "zeros go after the sign"
unfoldable pub written_in : ℕ → ℕ → ℤ → Bytes
written_in radix least (pos n) = zero_filled least (digits_in radix n)
written_in radix least (negsuc n) = 45 ∷ zero_filled least (digits_in radix (suc n))

-- a number in decimal: the results of decr, divnum, incr, index and len, and `$#`
unfoldable pub decimal : ℤ → Bytes
decimal z = written_in 10 0 z

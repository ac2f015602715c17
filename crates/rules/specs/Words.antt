-- 32-bit signed numbers, and their bits: a number below 2 ^ 32.
use Rattle.std.specs.Prelude.{ℕ, ◌+◌, ◌-◌, ◌%◌, ◌^◌, Bool, true, false, cond, ltb, ℤ, pos, negsuc}

-- the largest number, and the largest bits, those of -1
abbrev pub largest : ℕ
largest = 2147483647

abbrev pub largest_bits : ℕ
largest_bits = 4294967295

-- the number that bits stand for: itself up to the largest, else itself less 2 ^ 32
unfoldable pub signed_value : ℕ → ℤ
signed_value x = cond (ltb x (largest + 1)) (pos x) (negsuc (largest_bits - x))

-- the bits of a number, modulo 2 ^ 32: 01 "wraps"
unfoldable pub wrapped : ℤ → ℕ
wrapped (pos n) = n % 2 ^ 32
wrapped (negsuc n) = largest_bits - n % 2 ^ 32

-- the number that is left of one in 32 bits
unfoldable pub wrapped_number : ℤ → ℤ
wrapped_number z = signed_value (wrapped z)

unfoldable pub truth : Bool → ℤ
truth true = pos 1
truth false = pos 0

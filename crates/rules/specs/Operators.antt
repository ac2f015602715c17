-- The operators of eval: their tokens, how closely they bind, and what they come to.
use Rattle.std.specs.Prelude.{ℕ, ◌-◌, ◌^◌, not, cond, ltb, eqb, ℤ, pos, negsuc, neg_ℤ, ◌+ℤ◌, ◌-ℤ◌, ◌*ℤ◌, Option, None, Some, option_map}
use Rattle.std.specs.Int.Bits.{bit_and, bit_or, bit_xor}
use Rattle.std.specs.Int.Signed.{lt_z, le_z, quot_z, rem_z, shr_z}
use Rattle.std.specs.Ordering.{int_eq}
use Rattle.rules.specs.declared.Unary.{Unary}
use Rattle.rules.specs.declared.Unary.TheVariants.{Minus, Plus, Not, Complement}
use Rattle.rules.specs.declared.Strict.{Strict}
use Rattle.rules.specs.declared.Strict.TheVariants.{Mul, Div, Rem, Add, Sub, Shl, Shr, Lt, Le, Gt, Ge, Eq, Ne, BitAnd, BitXor, BitOr}
use Rattle.rules.specs.declared.Binary.{Binary}
use Rattle.rules.specs.declared.Binary.TheVariants as binary
use Rattle.rules.specs.declared.Operator.{Operator}
use Rattle.rules.specs.Words.{largest_bits, signed_value, wrapped, wrapped_number, truth}

-- an operator with its level and how long its token is, and one that works out both sides
abbrev pub operator : Binary → ℕ → ℕ → Option Operator
operator op level end = Some (record { op = op; level = level; end = end })

abbrev pub strict : Strict → ℕ → ℕ → Option Operator
strict o level end = operator (binary.Strict o) level end

-- the binary operator that the bytes b and c begin. 01 "Operators by C precedence", `||` at level 1 up to `* / %` at level 10;
-- "Tokens are the longest of C": so ++ and -- are none (every other longer token of C is refused behind its front)
unfoldable pub operator_of : ℕ → ℕ → Option Operator
operator_of b c =
    cond (eqb b 42) (strict Mul 10 1)
    (cond (eqb b 47) (strict Div 10 1)
    (cond (eqb b 37) (strict Rem 10 1)
    (cond (eqb b 43) (cond (eqb c 43) None (strict Add 9 1))
    (cond (eqb b 45) (cond (eqb c 45) None (strict Sub 9 1))
    (cond (eqb b 60) (cond (eqb c 60) (strict Shl 8 2) (cond (eqb c 61) (strict Le 7 2) (strict Lt 7 1)))
    (cond (eqb b 62) (cond (eqb c 62) (strict Shr 8 2) (cond (eqb c 61) (strict Ge 7 2) (strict Gt 7 1)))
    (cond (eqb b 61) (cond (eqb c 61) (strict Eq 6 2) None)
    (cond (eqb b 33) (cond (eqb c 61) (strict Ne 6 2) None)
    (cond (eqb b 38) (cond (eqb c 38) (operator binary.And 2 2) (strict BitAnd 5 1))
    (cond (eqb b 94) (strict BitXor 4 1)
    (cond (eqb b 124) (cond (eqb c 124) (operator binary.Or 1 2) (strict BitOr 3 1))
    None)))))))))))

-- what a unary operator makes of what it stands before. None: a zero divisor or a shift count outside 0 to 31 was worked out
unfoldable pub unary_applied : Unary → Option ℤ → Option ℤ
unary_applied u None = None
unary_applied Minus (Some x) = Some (wrapped_number (neg_ℤ x))
unary_applied Plus (Some x) = Some x
unary_applied Not (Some x) = Some (truth (int_eq x (pos 0)))
unary_applied Complement (Some x) = Some (signed_value (largest_bits - wrapped x))

-- 01 "shift count outside 0 to 31"
unfoldable pub shift_count : ℤ → Option ℕ
shift_count (pos n) = cond (ltb n 32) (Some n) None
shift_count (negsuc n) = None

-- both sides are worked out. 01 "zero divisor"; "Division truncates toward zero", "`>>` keeps the sign", "Truth is 1 or 0"; the last three
-- are bitwise on 32 bits
unfoldable pub both_applied : Strict → ℤ → ℤ → Option ℤ
both_applied Mul x y = Some (wrapped_number (x *ℤ y))
both_applied Div x y = cond (int_eq y (pos 0)) None (Some (wrapped_number (quot_z x y)))
both_applied Rem x y = cond (int_eq y (pos 0)) None (Some (rem_z x y))
both_applied Add x y = Some (wrapped_number (x +ℤ y))
both_applied Sub x y = Some (wrapped_number (x -ℤ y))
both_applied Shl x y = option_map (λ n. wrapped_number (x *ℤ pos (2 ^ n))) (shift_count y)
both_applied Shr x y = option_map (λ n. shr_z x (2 ^ n)) (shift_count y)
both_applied Lt x y = Some (truth (lt_z x y))
both_applied Le x y = Some (truth (le_z x y))
both_applied Gt x y = Some (truth (lt_z y x))
both_applied Ge x y = Some (truth (le_z y x))
both_applied Eq x y = Some (truth (int_eq x y))
both_applied Ne x y = Some (truth (not (int_eq x y)))
both_applied BitAnd x y = Some (signed_value (bit_and (wrapped x) (wrapped y)))
both_applied BitXor x y = Some (signed_value (bit_xor (wrapped x) (wrapped y)))
both_applied BitOr x y = Some (signed_value (bit_or (wrapped x) (wrapped y)))

unfoldable pub truth_of : Option ℤ → Option ℤ
truth_of None = None
truth_of (Some x) = Some (truth (not (int_eq x (pos 0))))

unfoldable pub strict_applied : Strict → ℤ → Option ℤ → Option ℤ
strict_applied o x None = None
strict_applied o x (Some y) = both_applied o x y

-- the left side came to x. 01 "The side that `&&` or `||` skips is read, not worked out": its zero divisors do not count
unfoldable pub applied_to : Binary → ℤ → Option ℤ → Option ℤ
applied_to binary.And x right = cond (int_eq x (pos 0)) (Some (pos 0)) (truth_of right)
applied_to binary.Or x right = cond (int_eq x (pos 0)) (truth_of right) (Some (pos 1))
applied_to (binary.Strict o) x right = strict_applied o x right

unfoldable pub applied : Binary → Option ℤ → Option ℤ → Option ℤ
applied op None right = None
applied op (Some x) right = applied_to op x right

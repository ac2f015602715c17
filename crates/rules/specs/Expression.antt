-- Reading an expression of eval. Each reader takes what remains of the expression, as a list, and says how far it came; a byte behind
-- the end reads as 0, which begins no token.
use Rattle.std.specs.Prelude.{ℕ, zero, suc, ◌+◌, ◌-◌, ◌*◌, Bool, true, false, cond, ◌||◌, [], ◌∷◌, ltb, eqb, ℤ, length, get_or, take, drop, Option, None, Some, Result, Err, ok_or}
use Rattle.rules.specs.declared.Part.{Part}
use Rattle.rules.specs.declared.EvalError.{EvalError}
use Rattle.rules.specs.declared.EvalError.TheVariants.{Unreadable, Divisor}
use Rattle.rules.specs.declared.Unary.TheVariants.{Minus, Plus, Not, Complement}
use Rattle.rules.specs.declared.Leading.{Leading}
use Rattle.rules.specs.declared.Leading.TheVariants as leading
use Rattle.rules.specs.declared.Operator.{Operator}
use Rattle.rules.specs.Bytes.{Bytes, is_blank, is_digit, name_length, left_parenthesis, right_parenthesis}
use Rattle.rules.specs.Words.{largest_bits, signed_value}
use Rattle.rules.specs.Numerals.{natural, up_to}
use Rattle.rules.specs.Operators.{operator_of, unary_applied, applied}

-- how many blanks stand at the front: 01 "Spaces, tabs and newlines part tokens"
unfoldable pub blanks : Bytes → ℕ
blanks [] = 0
blanks (x ∷ xs) = elim (is_blank x) [ true ↦ suc (blanks xs) | false ↦ 0 ]

-- the place behind the blanks at a place
unfoldable pub past_blanks : Bytes → ℕ → ℕ
past_blanks s at = at + blanks (drop at s)

unfoldable pub is_x : ℕ → Bool
is_x b = eqb b 120 || eqb b 88

unfoldable pub behind_zero : Bytes → Option ℕ
behind_zero [] = Some 0
behind_zero (x ∷ xs) = cond (is_x x) (natural 16 xs) (natural 8 (x ∷ xs))

-- 01 "Literals are decimal, octal or hexadecimal up to 4294967295"
unfoldable pub literal : Bytes → Option ℕ
literal [] = None
literal (x ∷ xs) = up_to largest_bits (cond (eqb x 48) (behind_zero xs) (natural 10 (x ∷ xs)))

-- what was read up to a place
abbrev pub part : Option ℤ → ℕ → Option Part
part value end = Some (record { value = value; end = end })

-- the bits that digits write are those of the literal's number
unfoldable pub literal_read : Option ℕ → ℕ → Option Part
literal_read None end = None
literal_read (Some n) end = part (Some (signed_value n)) end

-- 01 "a literal's token is a digit and all letters, digits and underscores after it"
unfoldable pub literal_at : Bytes → ℕ → Option Part
literal_at s at = let n = name_length (drop at s) in literal_read (literal (take n (drop at s))) (at + n)

-- what an operand begins with, of its first two bytes and their place: + and - are unary operators, ++ and -- are not
unfoldable pub leading_of : ℕ → ℕ → ℕ → Option Leading
leading_of b c at =
    cond (eqb b left_parenthesis) (Some (leading.Parenthesis (at + 1)))
    (cond (eqb b 33) (Some (leading.Sign Not (at + 1)))
    (cond (eqb b 126) (Some (leading.Sign Complement (at + 1)))
    (cond (eqb b 43) (cond (eqb c 43) None (Some (leading.Sign Plus (at + 1))))
    (cond (eqb b 45) (cond (eqb c 45) None (Some (leading.Sign Minus (at + 1))))
    (cond (is_digit b) (Some (leading.Literal at)) None)))))

unfoldable pub leading_at : Bytes → ℕ → Option Leading
leading_at s at = leading_of (get_or s at 0) (get_or s (at + 1) 0) at

-- an operator of at least a level, whose token begins at p, with the place behind it
unfoldable pub binding : ℕ → ℕ → Option Operator → Option Operator
binding level p None = None
binding level p (Some o) = elim (ltb o.level level) [ true ↦ None | false ↦ Some (record { op = o.op; level = o.level; end = p + o.end }) ]

-- the operator of at least a level behind the blanks at a place
unfoldable pub operator_at : Bytes → ℕ → ℕ → Option Operator
operator_at s at level = let p = past_blanks s at in binding level p (operator_of (get_or s p 0) (get_or s (p + 1) 0))

-- what was read up to m places behind n must be closed by a parenthesis
unfoldable pub closed_by : Bytes → ℕ → Option Part → Option Part
closed_by s n None = None
closed_by s n (Some r) = let p = past_blanks s (n + r.end) in cond (eqb (get_or s p 0) right_parenthesis) (part r.value (p + 1)) None

unfoldable pub signed_by : (Option ℤ → Option ℤ) → ℕ → Option Part → Option Part
signed_by f n None = None
signed_by f n (Some r) = part (f r.value) (n + r.end)

-- 01 "An operand is a literal, a unary operator before an operand, or a whole expression in parentheses": e reads the expression
-- behind a place, o the operand. `left` more parentheses and unary operators may enclose a literal
unfoldable pub operand_by : Bytes → ℕ → (ℕ → Option Part) → (ℕ → Option Part) → Option Leading → Option Part
operand_by s left e o None = None
operand_by s left e o (Some (leading.Literal at)) = literal_at s at
operand_by s left e o (Some (leading.Parenthesis n)) = elim (eqb left 0) [ true ↦ None | false ↦ closed_by s n (e n) ]
operand_by s left e o (Some (leading.Sign u n)) = elim (eqb left 0) [ true ↦ None | false ↦ signed_by (unary_applied u) n (o n) ]

-- go on with what was read, if it was
unfoldable pub onward : Option Part → (Option ℤ → ℕ → Option Part) → Option Part
onward None f = None
onward (Some r) f = f r.value r.end

-- the first number bounds the depth of the calls: 2 * length s + 2 is enough, and more changes nothing (proofs/Fuel.antt)
unfoldable mutual
  -- the operand at the front
  pub operand_at : ℕ → Bytes → ℕ → Option Part
  operand_at zero s left = None
  operand_at (suc k) s left =
      operand_by s left (λ n. expression_at k (drop n s) 1 (left - 1)) (λ n. operand_at k (drop n s) (left - 1)) (leading_at s (past_blanks s 0))

  -- the expression at the front, of operators of a level or a higher one
  pub expression_at : ℕ → Bytes → ℕ → ℕ → Option Part
  expression_at zero s level left = None
  expression_at (suc k) s level left = onward (operand_at k s left) (λ w at. chain_at k s level left w at)

  -- w was read up to a place: operators of at least the level go on from left to right, each with an expression of a higher level
  pub chain_at : ℕ → Bytes → ℕ → ℕ → Option ℤ → ℕ → Option Part
  chain_at zero s level left w at = None
  chain_at (suc k) s level left w at =
      elim (operator_at s at level) [
        | None ↦ part w at
        | Some o ↦ onward (expression_at k (drop o.end s) (o.level + 1) left) (λ r m. chain_at k s level left (applied o.op w r) (o.end + m))
      ]

-- nothing but blanks may stand behind
unfoldable pub wholly : Bytes → Option Part → Result ℤ EvalError
wholly s None = Err Unreadable
wholly s (Some r) = cond (ltb (past_blanks s r.end) (length s)) (Err Unreadable) (ok_or r.value Divisor)

-- 01 "At most 32 parentheses and unary operators may enclose a literal"
unfoldable pub evaluation : Bytes → Result ℤ EvalError
evaluation s = wholly s (expression_at (2 * length s + 2) s 1 32)

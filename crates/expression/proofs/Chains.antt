-- What the definitions of an operand and an expression say at each way out of the readers. Assumes nothing.
use Rattle.rules.proofs.Base.{◌≤◌, ◌+◌, ℕ, ◌-◌, ◌<◌, suc, zero, ◌*◌, ◌∙◌, refl, ◌≡◌, Option, None, Some, arith, length, drop, length-drop, subst}
use Rattle.std.specs.Prelude.{IfSome}
use Rattle.rules.specs.declared.Part.{Part}
use Rattle.rules.specs.declared.Operator.{Operator}
use Rattle.rules.specs.Bytes.{Bytes}
use Rattle.rules.specs.Operators.{applied}
use Rattle.rules.specs.Expression.{past_blanks, leading_at, operator_at, operand_by, onward, operand_at, expression_at, chain_at}
use Rattle.rules.proofs.Reach.{leading_within, operand_within, expression_within}
use Rattle.rules.proofs.Fuel.{onward_same, operand_by_same, operand_same, expression_same, chain_same}
use Rattle.expression.proofs.Parts.{part, part_drop}

-- what the readers give
abbrev pub operand_of : Bytes → ℕ → Option Part
operand_of s left = operand_at (2 * length s + 1) s left

abbrev pub expression_of : Bytes → ℕ → ℕ → Option Part
expression_of s level left = expression_at (2 * length s + 2) s level left

-- what an expression goes on with behind a part of it
abbrev pub chain_of : Bytes → ℕ → ℕ → Part → Option Part
chain_of s level left r = chain_at (2 * length s + 3) s level left r.value r.end

module _ (s : Bytes) (left : ℕ) where
  -- an operand by the token that it begins with
  pub operand_is : operand_of s left ≡ operand_by s left (λ n. expression_of (part s n) 1 (left - 1)) (λ n. operand_of (part s n) (left - 1)) (leading_at s (past_blanks s 0))
  unfolding operand_at
  operand_is = go (2 * length s + 1) refl
    where
      go : (k : ℕ) → k ≡ 2 * length s + 1 → operand_at k s left ≡ operand_by s left (λ n. expression_of (part s n) 1 (left - 1)) (λ n. operand_of (part s n) (left - 1)) (leading_at s (past_blanks s 0))
      go zero e = absurd (omega arith)
      go (suc k) e =
          operand_by_same s left (leading_within s) λ n p q.
          let l = length-drop n s in
          rw (part_drop s n) (
            expression_same k (2 * length (drop n s) + 2) (drop n s) 1 (left - 1) (omega (arith, l)) (omega arith),
            operand_same k (2 * length (drop n s) + 1) (drop n s) (left - 1) (omega (arith, l)) (omega arith),
          )

module _ (s : Bytes) (level left : ℕ) where
  -- an expression by its first operand
  pub no_first : operand_of s left ≡ None → expression_of s level left ≡ None
  unfolding expression_at onward
  no_first e = go (2 * length s + 2) refl
    where
      go : (k : ℕ) → k ≡ 2 * length s + 2 → expression_at k s level left ≡ None
      go zero h = absurd (omega arith)
      go (suc k) h = rw (operand_same k (2 * length s + 1) s left (omega arith) (omega arith), e)

  pub first : {r : Part} → operand_of s left ≡ Some r → expression_of s level left ≡ chain_of s level left r
  unfolding expression_at onward
  first {r} e = go (2 * length s + 2) refl
    where
      read : (1 ≤ r.end) × (r.end ≤ length s)
      read = subst (λ x. IfSome x (λ (p : Part). (1 ≤ p.end) × (p.end ≤ length s))) e (operand_within (2 * length s + 1) s left)

      go : (k : ℕ) → k ≡ 2 * length s + 2 → expression_at k s level left ≡ chain_of s level left r
      go zero h = absurd (omega arith)
      go (suc k) h =
          rw (operand_same k (2 * length s + 1) s left (omega arith) (omega arith), e)
          (chain_same k (2 * length s + 3) s level left r.value r.end read.1 (omega (arith, read)) (omega arith))

  module _ (r : Part) where
    -- a chain behind a part, where no operator of the level stands there
    pub last : operator_at s r.end level ≡ None → chain_of s level left r ≡ Some r
    unfolding chain_at
    last e = go (2 * length s + 3) refl
      where
        go : (k : ℕ) → k ≡ 2 * length s + 3 → chain_at k s level left r.value r.end ≡ Some r
        go zero h = absurd (omega arith)
        go (suc k) h = rw (e, chain_at)

    -- and where one does
    module _ {o : Operator} (e : operator_at s r.end level ≡ Some o) (p : r.end < o.end) (q : o.end ≤ length s) where
      next : chain_of s level left r ≡ onward (expression_of (part s o.end) (o.level + 1) left) (λ v m. chain_of s level left (record { value = applied o.op r.value v; end = o.end + m }))
      unfolding chain_at
      next = go (2 * length s + 3) refl
        where
          go : (k : ℕ) → k ≡ 2 * length s + 3
              → chain_at k s level left r.value r.end ≡ onward (expression_of (part s o.end) (o.level + 1) left) (λ v m. chain_of s level left (record { value = applied o.op r.value v; end = o.end + m }))
          go zero h = absurd (omega arith)
          go (suc k) h =
              rw (e, chain_at, part_drop s o.end)
              (onward_same (expression_same k (2 * length (drop o.end s) + 2) (drop o.end s) (o.level + 1) left (omega (arith, length-drop o.end s)) (omega arith))
              (expression_within k (drop o.end s) (o.level + 1) left) λ v m a b.
              chain_same k (2 * length s + 3) s level left (applied o.op r.value v) (o.end + m) (omega (arith, length-drop o.end s)) (omega arith) (omega arith))

      pub stuck : expression_of (part s o.end) (o.level + 1) left ≡ None → chain_of s level left r ≡ None
      unfolding onward
      stuck f = next ∙ rw f

      pub again : {t : Part} → expression_of (part s o.end) (o.level + 1) left ≡ Some t → chain_of s level left r ≡ chain_of s level left (record { value = applied o.op r.value t.value; end = o.end + t.end })
      unfolding onward
      again f = next ∙ rw f

-- for the tactics at the ways out of `expression`
pub ruleset chains = (no_first, first, last, stuck, again)

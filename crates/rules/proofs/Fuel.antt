-- The definitions that take a fuel, a number that bounds their calls, give the same with every fuel that is enough. Assumes nothing.
use Prim.Native.Nat.{ℕ, zero, suc, ◌+◌, ◌-◌, ◌*◌, ◌/◌, ◌%◌, ◌≤◌, ◌<◌}
use native.Mathlib.Nat.{div-lt_self}
use native.Mathlib.Omega.{arith}
use mathlib.Core.Path.{◌≡◌, refl, ap, ◌∙◌}
use mathlib.Core.Bool.{Bool, true, false}
use mathlib.Core.List.{[], ◌∷◌, ◌++◌}
use lib.Dec.{ltb, eqb}
use lib.ListN.{length, drop, length-drop}
use borrow.Author.Tests.{ltb-false}
use Rattle.std.specs.Prelude.{ℤ, Option, None, Some, IfSome}
use Rattle.rules.specs.declared.Part.{Part}
use Rattle.rules.specs.declared.Leading.{Leading}
use Rattle.rules.specs.declared.Operator.{Operator}
use Rattle.rules.specs.Bytes.{Bytes}
use Rattle.rules.specs.Numerals.{digit_byte, digits_by, digits_in}
use Rattle.rules.specs.Operators.{unary_applied, applied}
use Rattle.rules.specs.Expression.{part, operator_at, closed_by, signed_by, operand_by, onward, operand_at, expression_at, chain_at, wholly, evaluation}
use Rattle.rules.proofs.Reach.{Within, Points, to_literal, to_parenthesis, to_sign, to_none, leading_within, operator_within}
use Rattle.rules.proofs.Reach.{operand_within, expression_within}

-- two choices are the same if their second cases are the same wherever the test fails
otherwise :
    {A : Type 0} (t : Bool) (x : A) {y z : A} → (t ≡ false → y ≡ z) → ◌≡◌ {A = A} (elim t [ true ↦ x | false ↦ y ]) (elim t [ true ↦ x | false ↦ z ])
otherwise true x e = refl
otherwise false x e = e refl

-- any two fuels above v
digits_same : (k j radix v : ℕ) → 2 ≤ radix → v < k → v < j → digits_by k radix v ≡ digits_by j radix v
unfolding digits_by
digits_same zero j radix v p h l = absurd (omega arith)
digits_same (suc k) zero radix v p h l = absurd (omega arith)
digits_same (suc k) (suc j) radix v p h l =
    otherwise (ltb v radix) (digit_byte v ∷ []) λ e.
    let q : v / radix < v = div-lt_self (omega (arith, ltb-false v radix e)) (omega arith) in
    ap (λ ds. ds ++ (digit_byte (v % radix) ∷ [])) (digits_same k j radix (v / radix) p (omega arith) (omega arith))

-- any fuel above v gives the digits of v
pub digits_enough : (k radix v : ℕ) → 2 ≤ radix → v < k → digits_by k radix v ≡ digits_in radix v
unfolding digits_in
digits_enough k radix v p h = digits_same k (suc v) radix v p h (omega arith)

pub onward_same :
    {n : ℕ} {q r : Option Part} {f g : Option ℤ → ℕ → Option Part} → q ≡ r → Within 1 n q
    → ((w : Option ℤ) (m : ℕ) → 1 ≤ m → m ≤ n → f w m ≡ g w m) → onward q f ≡ onward r g
unfolding onward
onward_same {n} {q} {f} {g} e h same = go q h ∙ ap (λ r. onward r g) e
  where
    go : (q : Option Part) → Within 1 n q → onward q f ≡ onward q g
    go None l = refl
    go (Some p) l = same p.value p.end l.0 l.1

pub operand_by_same :
    (s : Bytes) (left : ℕ) {e f o p : ℕ → Option Part} {l : Option Leading} → Points (length s) l
    → ((n : ℕ) → 1 ≤ n → n ≤ length s → (e n ≡ f n) × (o n ≡ p n)) → operand_by s left e o l ≡ operand_by s left f p l
unfolding operand_by
operand_by_same s left (to_literal h) same = refl
operand_by_same s left (to_parenthesis {n} h l) same = otherwise (eqb left 0) None λ _. ap (closed_by s n) (same n h l).0
operand_by_same s left (to_sign {u} {n} h l) same = otherwise (eqb left 0) None λ _. ap (signed_by (unary_applied u) n) (same n h l).1
operand_by_same s left to_none same = refl

-- two choices by an operator are the same if what is read behind each operator is
by_operator_same :
    {Q : Operator → Type 0} {f g : Operator → Option Part} (y : Option Part) (x : Option Operator) → IfSome x Q → ((o : Operator) → Q o → f o ≡ g o)
    → ◌≡◌ {A = Option Part} (elim x [ None ↦ y | Some o ↦ f o ]) (elim x [ None ↦ y | Some o ↦ g o ])
by_operator_same y None h e = refl
by_operator_same y (Some o) h e = e o h

-- two for each byte that remains are enough, with 1 to 3 more. The levels do not matter
mutual
  unfolding operand_at expression_at chain_at

  pub operand_same : (k j : ℕ) (s : Bytes) (left : ℕ) → 2 * length s + 1 ≤ k → 2 * length s + 1 ≤ j → operand_at k s left ≡ operand_at j s left
  operand_same zero j s left h l = absurd (omega arith)
  operand_same (suc k) zero s left h l = absurd (omega arith)
  operand_same (suc k) (suc j) s left h l =
      operand_by_same s left (leading_within s) λ n p q.
      let e = length-drop n s in
      (expression_same k j (drop n s) 1 (left - 1) (omega arith) (omega arith), operand_same k j (drop n s) (left - 1) (omega arith) (omega arith))

  pub expression_same :
      (k j : ℕ) (s : Bytes) (level left : ℕ) → 2 * length s + 2 ≤ k → 2 * length s + 2 ≤ j → expression_at k s level left ≡ expression_at j s level left
  expression_same zero j s level left h l = absurd (omega arith)
  expression_same (suc k) zero s level left h l = absurd (omega arith)
  expression_same (suc k) (suc j) s level left h l =
      onward_same (operand_same k j s left (omega arith) (omega arith)) (operand_within k s left) λ w m p q.
      chain_same k j s level left w m q (omega arith) (omega arith)

  pub chain_same :
      (k j : ℕ) (s : Bytes) (level left : ℕ) (w : Option ℤ) (at : ℕ) → at ≤ length s → 2 * (length s - at) + 3 ≤ k → 2 * (length s - at) + 3 ≤ j
      → chain_at k s level left w at ≡ chain_at j s level left w at
  chain_same zero j s level left w at i h l = absurd (omega arith)
  chain_same (suc k) zero s level left w at i h l = absurd (omega arith)
  chain_same (suc k) (suc j) s level left w at i h l =
      by_operator_same (part w at) (operator_at s at level) (operator_within s at level i) λ o d.
      let e = length-drop o.end s in
      onward_same (expression_same k j (drop o.end s) (o.level + 1) left (omega arith) (omega arith))
      (expression_within k (drop o.end s) (o.level + 1) left) λ r m p q.
      chain_same k j s level left (applied o.op w r) (o.end + m) (omega arith) (omega arith) (omega arith)

-- the fuel of the book, and any above it
pub expression_enough :
    (k : ℕ) (s : Bytes) (level left : ℕ) → 2 * length s + 2 ≤ k → expression_at k s level left ≡ expression_at (2 * length s + 2) s level left
expression_enough k s level left h = expression_same k (2 * length s + 2) s level left h (omega arith)

pub evaluation_any_fuel : (k : ℕ) (s : Bytes) → 2 * length s + 2 ≤ k → wholly s (expression_at k s 1 32) ≡ evaluation s
unfolding evaluation
evaluation_any_fuel k s h = ap (wholly s) (expression_enough k s 1 32 h)

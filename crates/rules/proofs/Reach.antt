-- How far the readers of an expression come: what they read ends within the list. Assumes nothing.
use Prim.Native.Nat.{ℕ, zero, suc, ◌+◌, ◌-◌, ◌≤◌, ◌<◌}
use native.Mathlib.Omega.{arith}
use mathlib.Core.Path.{◌≡◌, refl}
use mathlib.Core.Bool.{Bool, true, false, cond}
use mathlib.Core.List.{[], ◌∷◌}
use Rattle.std.specs.Prelude.{ℤ, Option, None, Some, IfSome}
use lib.Dec.{ltb, eqb, lit<, lit≤}
use lib.ListN.{length, get_or, take, drop, length-drop}
use borrow.Author.Tests.{eqb-true}
use Rattle.rules.specs.declared.Part.{Part}
use Rattle.rules.specs.declared.Unary.{Unary}
use Rattle.rules.specs.declared.Leading.{Leading}
use Rattle.rules.specs.declared.Leading.TheVariants.{Literal, Parenthesis, Sign}
use Rattle.rules.specs.declared.Binary.{Binary}
use Rattle.rules.specs.declared.Operator.{Operator}
use Rattle.rules.specs.Bytes.{Bytes, is_blank, continues_name, name_length}
use Rattle.rules.specs.Operators.{operator, operator_of, unary_applied, applied}
use Rattle.rules.specs.Expression.{blanks, past_blanks, literal, literal_read, literal_at, leading_of, leading_at, binding, operator_at}
use Rattle.rules.specs.Expression.{closed_by, signed_by, operand_by, onward, operand_at, expression_at, chain_at}
use Rattle.rules.proofs.Classes.{no_digit}

-- what was read, if it was, ends at a place from one to another
abbrev pub Within : ℕ → ℕ → Option Part → Type 0
Within from most r = IfSome r (λ p. (from ≤ p.end) × (p.end ≤ most))

-- what holds of both cases of a choice holds of the choice, in the two ways to write one
either : {A : Type 0} (P : A → Type 0) (t : Bool) {x y : A} → (t ≡ true → P x) → P y → P (cond t x y)
either P true p q = p refl
either P false p q = q

chosen : {A : Type 0} (P : A → Type 0) (t : Bool) {x y : A} → P x → P y → P (elim t as (λ _. A) [ true ↦ x | false ↦ y ])
chosen P true p q = p
chosen P false p q = q

-- a place where a byte is read that is not 0 is within the list
pub inside : (s : Bytes) (i : ℕ) → 0 < get_or s i 0 → i < length s
inside [] i h = absurd (omega arith)
inside (x ∷ s) zero h = omega arith
inside (x ∷ s) (suc i) h = let l = inside s i h in omega arith

-- n bytes of what remains from a place end within the list
pub ahead : (s : Bytes) (at n : ℕ) → at ≤ length s → n ≤ length (drop at s) → at + n ≤ length s
ahead s at n h l = omega (arith, length-drop at s)

-- the bytes at the front that pass a test are no more than the list has
count_within :
    (f : Bytes → ℕ) (p : ℕ → Bool) → f [] ≡ 0 → ((x : ℕ) (xs : Bytes) → f (x ∷ xs) ≡ elim (p x) [ true ↦ suc (f xs) | false ↦ 0 ]) → (s : Bytes)
    → f s ≤ length s
count_within f p e g [] = omega arith
count_within f p e g (x ∷ xs) =
    let h = count_within f p e g xs in
    rw (g x xs) (chosen (λ n. n ≤ suc (length xs)) (p x) (omega arith) (omega arith))

pub past_within : (s : Bytes) (at : ℕ) → at ≤ length s → (at ≤ past_blanks s at) × (past_blanks s at ≤ length s)
unfolding past_blanks blanks
past_within s at h = (omega arith, ahead s at _ h (count_within blanks is_blank refl (λ x xs. refl) (drop at s)))

pub literal_within : (s : Bytes) (at : ℕ) → at ≤ length s → Within 1 (length s) (literal_at s at)
unfolding literal_at literal literal_read name_length
literal_within s at h = go (name_length (drop at s)) (count_within name_length continues_name refl (λ x xs. refl) (drop at s))
  where
    ends : (o : Option ℕ) (n : ℕ) → suc n ≤ length (drop at s) → Within 1 (length s) (literal_read o (at + suc n))
    ends None n l = tt
    ends (Some x) n l = (omega arith, ahead s at (suc n) h l)

    go : (n : ℕ) → n ≤ length (drop at s) → Within 1 (length s) (literal_read (literal (take n (drop at s))) (at + n))
    go zero l = tt
    go (suc n) l = ends (literal (take (suc n) (drop at s))) n l

-- what an operand begins with gives a place within the list, and behind its token if that is not a literal
pub data Points (most : ℕ) : Option Leading → Type 0 where
  to_literal : {at : ℕ} → at ≤ most → Points most (Some (Literal at))
  to_parenthesis : {n : ℕ} → 1 ≤ n → n ≤ most → Points most (Some (Parenthesis n))
  to_sign : {u : Unary} {n : ℕ} → 1 ≤ n → n ≤ most → Points most (Some (Sign u n))
  to_none : Points most None

pub leading_within : (s : Bytes) → Points (length s) (leading_at s (past_blanks s 0))
unfolding leading_at leading_of
leading_within s = go (get_or s p 0) (get_or s (p + 1) 0) (inside s p)
  where
    p : ℕ
    p = past_blanks s 0

    go : (b c : ℕ) → (0 < b → p < length s) → Points (length s) (leading_of b c p)
    go zero c l = rw (no_digit 0 (λ h k. omega arith)) to_none
    go (suc b) c l =
        let h : p ≤ length s = (past_within s 0 (omega arith)).1 in
        let i : 1 ≤ p + 1 = omega arith in
        let j : p + 1 ≤ length s = omega (arith, l (omega arith)) in
        search (either (Points (length s)), to_literal, to_parenthesis, to_sign, to_none) depth 9

-- an operator of which a token at p ends within the list
record Fits (p most : ℕ) (x : Option Operator) : Type 0 where
  is : IfSome x (λ o. (0 < o.end) × (p + o.end ≤ most) × (o.level ≤ 10))

fits : {p most level end : ℕ} {op : Binary} → 0 < end → p + end ≤ most → level ≤ 10 → Fits p most (operator op level end)
fits h l m = record { is = (h, l, m) }

fits_none : {p most : ℕ} → Fits p most None
fits_none = record { is = tt }

-- an operator behind a place is at least a byte long, and ends within the list
abbrev pub Behind : ℕ → ℕ → Option Operator → Type 0
Behind at most x = IfSome x (λ o. (at < o.end) × (o.end ≤ most) × (o.level ≤ 10))

pub operator_within : (s : Bytes) (at level : ℕ) → at ≤ length s → Behind at (length s) (operator_at s at level)
unfolding operator_at operator_of binding
operator_within s at level h = bound (operator_of (get_or s p 0) (get_or s (p + 1) 0)) (go (get_or s p 0) (get_or s (p + 1) 0) (inside s p) (inside s (p + 1)))
  where
    p : ℕ
    p = past_blanks s at

    -- 0 is no operator's first byte, nor its second
    go : (b c : ℕ) → (0 < b → p < length s) → (0 < c → p + 1 < length s) → Fits p (length s) (operator_of b c)
    go zero c i j = fits_none
    go (suc b) zero i j =
        let one : p + 1 ≤ length s = omega (arith, i (omega arith)) in
        search (either (Fits p (length s)), fits, fits_none, lit<, lit≤) depth 16
    go (suc b) (suc c) i j =
        let one : p + 1 ≤ length s = omega (arith, i (omega arith)) in
        let two : p + 2 ≤ length s = omega (arith, j (omega arith)) in
        search (either (Fits p (length s)), fits, fits_none, lit<, lit≤) depth 16

    bound : (x : Option Operator) → Fits p (length s) x → Behind at (length s) (binding level p x)
    bound None f = tt
    bound (Some o) f = chosen (Behind at (length s)) (ltb o.level level) tt (omega (arith, past_within s at h, f.is), omega (arith, f.is), f.is.2)

closed_within : (s : Bytes) (n : ℕ) (r : Option Part) → Within 1 (length s) (closed_by s n r)
unfolding closed_by
closed_within s n None = tt
closed_within s n (Some r) =
    let p = past_blanks s (n + r.end) in
    either (Within 1 (length s)) (eqb (get_or s p 0) 41)
    (λ e. (omega arith, omega (arith, inside s p (omega (arith, eqb-true (get_or s p 0) 41 e)))))
    tt

signed_within :
    (s : Bytes) (f : Option ℤ → Option ℤ) (n : ℕ) (r : Option Part) → n ≤ length s → Within 1 (length (drop n s)) r
    → Within 1 (length s) (signed_by f n r)
unfolding signed_by
signed_within s f n None l h = tt
signed_within s f n (Some r) l h = (omega (arith, h.0), ahead s n r.end l h.1)

operand_by_within :
    (s : Bytes) (left : ℕ) (e o : ℕ → Option Part) {l : Option Leading} → Points (length s) l → ((n : ℕ) → Within 1 (length (drop n s)) (o n))
    → Within 1 (length s) (operand_by s left e o l)
unfolding operand_by
operand_by_within s left e o (to_literal {at} h) f = literal_within s at h
operand_by_within s left e o (to_parenthesis {n} p q) f = chosen (Within 1 (length s)) (eqb left 0) tt (closed_within s n (e n))
operand_by_within s left e o (to_sign {u} {n} p q) f = chosen (Within 1 (length s)) (eqb left 0) tt (signed_within s (unary_applied u) n (o n) q (f n))
operand_by_within s left e o to_none f = tt

onward_within :
    (from most n : ℕ) (r : Option Part) (f : Option ℤ → ℕ → Option Part) → Within 1 n r
    → ((w : Option ℤ) (m : ℕ) → 1 ≤ m → m ≤ n → Within from most (f w m)) → Within from most (onward r f)
unfolding onward
onward_within from most n None f h g = tt
onward_within from most n (Some r) f h g = g r.value r.end h.0 h.1

-- an earlier place to start from
farther : (a b most : ℕ) (r : Option Part) → a ≤ b → Within b most r → Within a most r
farther a b most None h l = tt
farther a b most (Some p) h l = omega (arith, l)

-- what holds where there is no operator, and behind each
by_operator :
    (P : Option Part → Type 0) {Q : Operator → Type 0} {y : Option Part} {f : Operator → Option Part} (x : Option Operator) → IfSome x Q → P y
    → ((o : Operator) → Q o → P (f o)) → P (elim x as (λ _. Option Part) [ None ↦ y | Some o ↦ f o ])
by_operator P None h p g = p
by_operator P (Some o) h p g = g o h

-- an operand and an expression take a byte at least; a chain may stay where it is
mutual
  unfolding operand_at expression_at chain_at

  pub operand_within : (k : ℕ) (s : Bytes) (left : ℕ) → Within 1 (length s) (operand_at k s left)
  operand_within zero s left = tt
  operand_within (suc k) s left = operand_by_within s left _ _ (leading_within s) (λ n. operand_within k (drop n s) (left - 1))

  pub expression_within : (k : ℕ) (s : Bytes) (level left : ℕ) → Within 1 (length s) (expression_at k s level left)
  expression_within zero s level left = tt
  expression_within (suc k) s level left =
      onward_within 1 (length s) (length s) (operand_at k s left) _ (operand_within k s left) λ w m p q.
      farther 1 m (length s) (chain_at k s level left w m) p (chain_within k s level left w m q)

  pub chain_within : (k : ℕ) (s : Bytes) (level left : ℕ) (w : Option ℤ) (at : ℕ) → at ≤ length s → Within at (length s) (chain_at k s level left w at)
  chain_within zero s level left w at h = tt
  chain_within (suc k) s level left w at h =
      by_operator (Within at (length s)) (operator_at s at level) (operator_within s at level h) (omega arith, h) λ o l.
      onward_within at (length s) (length (drop o.end s)) (expression_at k (drop o.end s) (o.level + 1) left) _ (expression_within k (drop o.end s) (o.level + 1) left) λ r m p q.
      farther at (o.end + m) (length s) (chain_at k s level left (applied o.op w r) (o.end + m)) (omega (arith, l.0))
      (chain_within k s level left (applied o.op w r) (o.end + m) (ahead s o.end m l.1 q))

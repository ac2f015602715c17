-- Tokens: blanks as the library counts them, and what an operand begins with. Assumes nothing.
use Rattle.std.specs.List.{prefix_len}
use Rattle.rules.proofs.Base.{◌≤◌, ◌<◌, ◌+◌, ℕ, length, get_or, suc, refl, ◌≡◌, true, Bool, false, cond, le-ltb, [], ◌∷◌, arith, Some, Option}
use Rattle.rules.specs.declared.Leading.{Leading}
use Rattle.rules.specs.declared.Operator.{Operator}
use Rattle.rules.specs.Bytes.{Bytes, is_blank}
use Rattle.rules.specs.Operators.{operator_of}
use Rattle.rules.specs.Expression.{blanks, past_blanks, leading_of, leading_at, binding, operator_at}
use Rattle.rules.proofs.Reach.{Points, to_literal, to_parenthesis, to_sign, to_none, leading_within, Behind, operator_within}
use Rattle.expression.specs.Places.{LeadingWithin}

-- the blanks at the front
pub blanks_front : (s : Bytes) → prefix_len is_blank s ≡ blanks s
unfolding blanks
blanks_front [] = refl
blanks_front (x ∷ xs) = go (is_blank x) (blanks_front xs)
  where
    go : (t : Bool) → prefix_len is_blank xs ≡ blanks xs → cond t (1 + prefix_len is_blank xs) 0 ≡ elim t [ true ↦ suc (blanks xs) | false ↦ 0 ]
    go true e = omega arith
    go false e = refl

pub leading_place : {n : ℕ} {x : Option Leading} → Points n x → LeadingWithin n x
leading_place (to_literal h) = h
leading_place (to_parenthesis h l) = (omega arith, l)
leading_place (to_sign h l) = (omega arith, l)
leading_place to_none = tt

-- the first token of an operand, and an operator behind a place, by the bytes there
module _ (s : Bytes) (p b c : ℕ) (eb : b ≡ get_or s p 0) (ec : c ≡ get_or s (p + 1) 0) where
  pub leading_end : {x : Option Leading} → p ≡ past_blanks s 0 → x ≡ leading_of b c p → LeadingWithin (length s) x
  unfolding leading_at
  leading_end e f = rw (f, eb, ec, e) (leading_place (leading_within s))

  pub operator_end : (at : ℕ) {o : Operator} → at ≤ length s → p ≡ past_blanks s at → operator_of b c ≡ Some o
      → (at < p + o.end) × (p + o.end ≤ length s) × (o.level ≤ 10)
  unfolding operator_at binding
  operator_end at {o} h e f =
      let w : Behind at (length s) (binding 0 p (operator_of b c)) = rw (eb, ec, e) (operator_within s at 0 h) in
      go o (rw f at w)
    where
      go : (o : Operator) → Behind at (length s) (binding 0 p (Some o)) → (at < p + o.end) × (p + o.end ≤ length s) × (o.level ≤ 10)
      go o w = rw (le-ltb o.level 0 (omega arith), binding) at w

-- Literals: what is read of their tokens is what the definitions say. Assumes nothing.
use Rattle.rules.proofs.Base.{◌≤◌, ◌+◌, ℕ, ◌<◌, suc, refl, ◌≡◌, true, Bool, false, Some, None, [], ◌∷◌, arith, length, get_or, eq-eqb, ne_eqb}
use Rattle.rules.specs.Bytes.{Bytes, continues_name, name_length}
use Rattle.rules.specs.Numerals.{natural as natural_in, up_to}
use Rattle.rules.specs.Expression.{is_x, behind_zero, literal}
use Rattle.expression.proofs.Parts.{part, part_drop, part_length}

-- a literal by its first byte
pub zero_first : (s : Bytes) → 1 ≤ length s → get_or s 0 0 ≡ 48 → up_to 4294967295 (behind_zero (part s 1)) ≡ literal s
unfolding literal
zero_first [] l h = absurd (omega arith)
zero_first (x ∷ xs) l h = rw (part_drop (x ∷ xs) 1, eq-eqb x 48 h)

pub other_first : (s : Bytes) → 1 ≤ length s → (get_or s 0 0 ≡ 48 → ⊥) → up_to 4294967295 (natural_in 10 s) ≡ literal s
unfolding literal
other_first [] l h = absurd (omega arith)
other_first (x ∷ xs) l h = rw (ne_eqb x 48 h)

pub none_first : (s : Bytes) → length s < 1 → None ≡ literal s
unfolding literal
none_first [] h = refl
none_first (x ∷ xs) h = absurd (omega arith)

-- and by the byte behind a zero
pub nothing_behind : (s : Bytes) → length s < 1 → Some 0 ≡ up_to 4294967295 (behind_zero s)
unfolding behind_zero up_to
nothing_behind [] h = refl
nothing_behind (x ∷ xs) h = absurd (omega arith)

pub x_behind : (s : Bytes) → 1 ≤ length s → is_x (get_or s 0 0) ≡ true → natural_in 16 (part s 1) ≡ behind_zero s
unfolding behind_zero
x_behind [] l h = absurd (omega arith)
x_behind (x ∷ xs) l h = rw (part_drop (x ∷ xs) 1, h)

pub digit_behind : (s : Bytes) → 1 ≤ length s → is_x (get_or s 0 0) ≡ false → natural_in 8 s ≡ behind_zero s
unfolding behind_zero
digit_behind [] l h = absurd (omega arith)
digit_behind (x ∷ xs) l h = rw h

-- a name ends within the text
name_within : (s : Bytes) → name_length s ≤ length s
unfolding name_length
name_within [] = omega arith
name_within (x ∷ xs) = go (continues_name x) (name_within xs)
  where
    go : (t : Bool) → name_length xs ≤ length xs → elim t [ true ↦ suc (name_length xs) | false ↦ 0 ] ≤ suc (length xs)
    go true h = omega arith
    go false h = omega arith

module _ (s : Bytes) (at n : ℕ) (e : n ≡ name_length (part s at)) where
  pub token_within : at ≤ length s → at + n ≤ length s
  token_within h = omega (arith, name_within (part s at), part_length s at)

-- Laws of names and of slices that a loop walks. Assumes nothing.
use Rattle.std.specs.List.{prefix_len}
use Rattle.rules.proofs.Base.{cond, true≢false, ◌≤◌, ◌+◌, ℕ, ◌<◌, suc, ◌∙◌, refl, sym, ap, ◌≡◌, true, Bool, false, [], ◌∷◌, add-one, arith, eqb, eqb·zero-suc, eqb·suc-suc, length, drop, get_or, drop_of_length-le, drop-cons, eq-eqb, ne_eqb}
use Rattle.rules.proofs.Book.{book}
use Rattle.rules.specs.Bytes.{Bytes, same_bytes, begins_name, continues_name, name_length, all_continue, is_name}

-- a name is as long as what goes on with one, from the front on
pub name_front : (s : Bytes) → prefix_len continues_name s ≡ name_length s
unfolding name_length
name_front [] = refl
name_front (x ∷ xs) = go (continues_name x) (name_front xs)
  where
    go : (t : Bool) → prefix_len continues_name xs ≡ name_length xs → cond t (1 + prefix_len continues_name xs) 0 ≡ elim t [ true ↦ suc (name_length xs) | false ↦ 0 ]
    go true e = omega arith
    go false e = refl

name_more : (x : ℕ) (xs : Bytes) → continues_name x ≡ true → name_length (x ∷ xs) ≡ suc (name_length xs)
unfolding name_length
name_more x xs e = rw (e, name_length)

-- what begins a name goes on with one
begins_continues : (x : ℕ) → begins_name x ≡ true → continues_name x ≡ true
unfolding continues_name
begins_continues x e = rw e

-- all of a text goes on with a name where the name is as long as the text
all_long : (s : Bytes) → all_continue s ≡ eqb (name_length s) (length s)
unfolding all_continue name_length
all_long [] = refl
all_long (x ∷ xs) = go (continues_name x) (all_long xs)
  where
    go : (t : Bool) → all_continue xs ≡ eqb (name_length xs) (length xs)
        → elim t [ true ↦ all_continue xs | false ↦ false ] ≡ eqb (elim t [ true ↦ suc (name_length xs) | false ↦ 0 ]) (suc (length xs))
    go true e = e ∙ sym (eqb·suc-suc (name_length xs) (length xs))
    go false e = sym (eqb·zero-suc (length xs))

pub no_bytes : (s : Bytes) → length s ≡ 0 → is_name s ≡ false
unfolding is_name
no_bytes [] h = refl
no_bytes (x ∷ xs) h = absurd (omega arith)

pub name_whole : (s : Bytes) → begins_name (get_or s 0 0) ≡ true → is_name s ≡ eqb (name_length s) (length s)
unfolding is_name book
name_whole [] e = absurd (true≢false (sym e))
name_whole (x ∷ xs) e = rw (name_more x xs (begins_continues x e)) (rw (e, is_name) (all_long xs ∙ sym (eqb·suc-suc (name_length xs) (length xs))))

pub no_name : (s : Bytes) → begins_name (get_or s 0 0) ≡ false → is_name s ≡ false
unfolding is_name
no_name [] e = refl
no_name (x ∷ xs) e = rw (e, is_name)

same_both : (x : ℕ) (xs : Bytes) (y : ℕ) (ys : Bytes) → x ≡ y → same_bytes (x ∷ xs) (y ∷ ys) ≡ same_bytes xs ys
unfolding same_bytes
same_both x xs y ys e = rw (eq-eqb x y e, same_bytes)

same_neither : (x : ℕ) (xs : Bytes) (y : ℕ) (ys : Bytes) → (x ≡ y → ⊥) → same_bytes (x ∷ xs) (y ∷ ys) ≡ false
unfolding same_bytes
same_neither x xs y ys e = rw (ne_eqb x y e, same_bytes)

-- two texts of another length differ
pub same_lengths : (a b : Bytes) → (length a ≡ length b → ⊥) → same_bytes a b ≡ false
unfolding same_bytes
same_lengths [] [] h = absurd (h refl)
same_lengths [] (y ∷ ys) h = refl
same_lengths (x ∷ xs) [] h = refl
same_lengths (x ∷ xs) (y ∷ ys) h = go (eqb x y) (same_lengths xs ys (λ e. h (ap suc e)))
  where
    go : (t : Bool) → same_bytes xs ys ≡ false → elim t [ true ↦ same_bytes xs ys | false ↦ false ] ≡ false
    go true e = e
    go false e = refl

-- the same, from a place on
module _ (a b : Bytes) (i : ℕ) where
  pub same_end : length a ≤ i → length b ≤ i → same_bytes (drop i a) (drop i b) ≡ true
  unfolding same_bytes
  same_end h k = rw (drop_of_length-le a h, drop_of_length-le b k)

  module _ (h : i < length a) (k : i < length b) where
    pub same_not : (get_or a i 0 ≡ get_or b i 0 → ⊥) → same_bytes (drop i a) (drop i b) ≡ false
    same_not e = rw (drop-cons a i 0 h, drop-cons b i 0 k) (same_neither _ _ _ _ e)

    pub same_on : get_or a i 0 ≡ get_or b i 0 → same_bytes (drop i a) (drop i b) ≡ same_bytes (drop (i + 1) a) (drop (i + 1) b)
    same_on e = rw (drop-cons a i 0 h, drop-cons b i 0 k, add-one i) (same_both _ _ _ _ e)

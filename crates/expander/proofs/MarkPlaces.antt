-- Laws of marks, and of a text that stands at a place. Assumes nothing.
use Rattle.rules.proofs.Base.{◌≤◌, ◌+◌, ℕ, ◌<◌, suc, ◌∙◌, refl, sym, ap, ◌≡◌, true, Bool, false, true≢false, [], ◌∷◌, add-one, arith, eqb, leb, ltb, length, drop, get_or, length-drop, drop_of_length-le, length-take-le, drop-cons, get_or-take, get_or-drop, eq-eqb, ne_eqb, leb-true, leb-false, ltb-true, ltb-false}
use Rattle.rules.specs.declared.Mark.{Mark}
use Rattle.rules.specs.Bytes.{Bytes}
use Rattle.rules.specs.Marks.{mark_text}
use Rattle.rules.specs.Tokens.{begins_with, at_mark}
use Rattle.expander.specs.Tokens.{FullMark, MarkLength}

-- the bytes of a mark
module _ (m : Mark) where
  pub mark_length : length m.bytes ≡ 5 → m.len ≤ 5 → MarkLength m m.len
  unfolding mark_text
  mark_length e h = record { whole = sym (length-take-le m.len m.bytes (omega arith)); len = refl }

  pub full_mark : length m.bytes ≡ 5 → FullMark m → 1 ≤ length (mark_text m)
  full_mark e h = omega (arith, (mark_length e h.most).whole)

  pub mark_byte : (k : ℕ) → k < m.len → get_or m.bytes k 0 ≡ get_or (mark_text m) k 0
  unfolding mark_text
  mark_byte k h = sym (get_or-take m.len m.bytes k 0 h)

-- a text that stands at the front
pub begins_short : (m s : Bytes) → length s < length m → begins_with m s ≡ false
unfolding begins_with
begins_short [] s h = absurd (omega arith)
begins_short (x ∷ xs) [] h = refl
begins_short (x ∷ xs) (y ∷ ys) h = go (eqb x y) (begins_short xs ys (omega arith))
  where
    go : (t : Bool) → begins_with xs ys ≡ false → elim t [ true ↦ begins_with xs ys | false ↦ false ] ≡ false
    go true e = e
    go false e = refl

pub begins_long : (m s : Bytes) → begins_with m s ≡ true → length m ≤ length s
begins_long m s e = go (leb (length m) (length s)) refl
  where
    go : (t : Bool) → leb (length m) (length s) ≡ t → length m ≤ length s
    go true h = leb-true _ _ h
    go false h = absurd (true≢false (sym e ∙ begins_short m s (leb-false _ _ h)))

begins_both : (x : ℕ) (xs : Bytes) (y : ℕ) (ys : Bytes) → x ≡ y → begins_with (x ∷ xs) (y ∷ ys) ≡ begins_with xs ys
unfolding begins_with
begins_both x xs y ys e = rw (eq-eqb x y e, begins_with)

begins_neither : (x : ℕ) (xs : Bytes) (y : ℕ) (ys : Bytes) → (x ≡ y → ⊥) → begins_with (x ∷ xs) (y ∷ ys) ≡ false
unfolding begins_with
begins_neither x xs y ys e = rw (ne_eqb x y e, begins_with)

-- the same from the k-th byte of it on
module _ (m s : Bytes) (i k : ℕ) where
  pub begins_end : length m ≤ k → begins_with (drop k m) (drop (i + k) s) ≡ true
  unfolding begins_with
  begins_end h = rw (drop_of_length-le m h)

  module _ (h : k < length m) (l : i + k < length s) where
    pub begins_not : (get_or m k 0 ≡ get_or s (i + k) 0 → ⊥) → begins_with (drop k m) (drop (i + k) s) ≡ false
    begins_not e = rw (drop-cons m k 0 h, drop-cons s (i + k) 0 l) (begins_neither _ _ _ _ e)

    pub begins_on : get_or m k 0 ≡ get_or s (i + k) 0 → begins_with (drop k m) (drop (i + k) s) ≡ begins_with (drop (k + 1) m) (drop (i + (k + 1)) s)
    begins_on e =
        let p : i + (k + 1) ≡ suc (i + k) = omega arith in
        rw (drop-cons m k 0 h, drop-cons s (i + k) 0 l, p, add-one k) (begins_both _ _ _ _ e)

-- a mark that is not empty
pub no_mark : (m s : Bytes) → length m ≡ 0 → at_mark m s ≡ false
unfolding at_mark
no_mark [] s h = refl
no_mark (x ∷ xs) s h = absurd (omega arith)

pub at_begins : (m s : Bytes) → 1 ≤ length m → at_mark m s ≡ begins_with m s
unfolding at_mark
at_begins [] s h = absurd (omega arith)
at_begins (x ∷ xs) s h = refl

pub at_long : (m s : Bytes) → at_mark m s ≡ true → length m ≤ length s
unfolding at_mark
at_long [] s e = absurd (true≢false (sym e))
at_long (x ∷ xs) s e = begins_long (x ∷ xs) s e

pub other_byte : (m s : Bytes) → 1 ≤ length m → (get_or m 0 0 ≡ get_or s 0 0 → ⊥) → begins_with m s ≡ false
unfolding begins_with
other_byte [] s h e = absurd (omega arith)
other_byte (x ∷ xs) [] h e = refl
other_byte (x ∷ xs) (y ∷ ys) h e = begins_neither x xs y ys e

pub not_at : (m s : Bytes) (i : ℕ) → 1 ≤ length m → (get_or m 0 0 ≡ get_or s i 0 → ⊥) → at_mark m (drop i s) ≡ false
not_at m s i h e =
    let p : i + 0 ≡ i = omega arith in
    at_begins m (drop i s) h ∙ other_byte m (drop i s) h (λ q. e (q ∙ get_or-drop i s 0 0 ∙ ap (λ (n : ℕ). get_or s n 0) p))

-- one of a single byte, which is the byte at the place
pub at_one : (m s : Bytes) (i : ℕ) → length m ≡ 1 → get_or m 0 0 ≡ get_or s i 0 → at_mark m (drop i s) ≡ ltb i (length s)
at_one m s i h e = at_begins m (drop i s) (omega arith) ∙ go (ltb i (length s)) refl
  where
    go : (t : Bool) → ltb i (length s) ≡ t → begins_with m (drop i s) ≡ t
    go true q =
        let p : i ≡ i + 0 = omega arith in
        ap (λ (n : ℕ). begins_with m (drop n s)) p ∙ begins_on m s i 0 (omega arith) (omega (arith, ltb-true i (length s) q)) (e ∙ ap (λ (n : ℕ). get_or s n 0) p) ∙ begins_end m s i 1 (omega arith)
    go false q = begins_short m (drop i s) (omega (arith, ltb-false i (length s) q, length-drop i s))

pub mark_room : (m text : Bytes) (i : ℕ) → i ≤ length text → begins_with m (drop i text) ≡ true → i + length m ≤ length text
mark_room m text i h e = omega (arith, begins_long m (drop i text) e, length-drop i text)

pub at_room : (m text : Bytes) (i : ℕ) → i ≤ length text → at_mark m (drop i text) ≡ true → i + length m ≤ length text
at_room m text i h e = omega (arith, at_long m (drop i text) e, length-drop i text)

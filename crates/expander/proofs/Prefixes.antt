-- Laws of runs of bytes at the front of a text. Assumes nothing.
use Rattle.rules.proofs.Base.{◌≤◌, ◌+◌, ℕ, ◌<◌, suc, min, ◌∙◌, refl, sym, ap, ◌≡◌, true, Bool, false, true≢false, not, ◌&&◌, [], ◌++◌, ◌∷◌, add-one, arith, eqb, length, drop, get_or, drop_of_length-le, drop-cons, eq-eqb, ne_eqb}
use Rattle.rules.specs.Bytes.{Bytes, begins_name, continues_name, name_length}
use Rattle.rules.specs.Macros.{line_length}
use Rattle.expander.specs.Ahead.{count_while, is_other, plain_length, NextEither, LineEnd}

module _ (p : ℕ → Bool) where
  count_more : (x : ℕ) (xs : Bytes) → p x ≡ true → count_while p (x ∷ xs) ≡ suc (count_while p xs)
  unfolding count_while
  count_more x xs e = rw (e, count_while)

  count_none : (x : ℕ) (xs : Bytes) → p x ≡ false → count_while p (x ∷ xs) ≡ 0
  unfolding count_while
  count_none x xs e = rw (e, count_while)

  pub count_within : (s : Bytes) → count_while p s ≤ length s
  unfolding count_while
  count_within [] = omega arith
  count_within (x ∷ xs) = go (p x) (count_within xs)
    where
      go : (t : Bool) → count_while p xs ≤ length xs → elim t [ true ↦ suc (count_while p xs) | false ↦ 0 ] ≤ suc (length xs)
      go true h = omega arith
      go false h = omega arith

  -- over two texts, one behind the other
  pub count_front : (a b : Bytes) → count_while p a < length a → count_while p (a ++ b) ≡ count_while p a
  unfolding count_while
  count_front [] b h = absurd (omega arith)
  count_front (x ∷ xs) b h = go (p x) (λ k. count_front xs b k) h
    where
      go : (t : Bool) → (count_while p xs < length xs → count_while p (xs ++ b) ≡ count_while p xs)
          → elim t [ true ↦ suc (count_while p xs) | false ↦ 0 ] < suc (length xs)
          → ◌≡◌ {A = ℕ} (elim t [ true ↦ suc (count_while p (xs ++ b)) | false ↦ 0 ]) (elim t [ true ↦ suc (count_while p xs) | false ↦ 0 ])
      go true f k = ap suc (f (omega arith))
      go false f k = refl

  pub count_both : (a b : Bytes) → length a ≤ count_while p a → count_while p (a ++ b) ≡ length a + count_while p b
  unfolding count_while
  count_both [] b h = omega arith
  count_both (x ∷ xs) b h = go (p x) (λ k. count_both xs b k) h
    where
      go : (t : Bool) → (length xs ≤ count_while p xs → count_while p (xs ++ b) ≡ length xs + count_while p b)
          → suc (length xs) ≤ elim t [ true ↦ suc (count_while p xs) | false ↦ 0 ]
          → ◌≡◌ {A = ℕ} (elim t [ true ↦ suc (count_while p (xs ++ b)) | false ↦ 0 ]) (suc (length xs) + count_while p b)
      go true f k = omega (arith, f (omega arith))
      go false f k = absurd (omega arith)

  -- from a place on
  module _ (s : Bytes) (i : ℕ) where
    pub count_end : length s ≤ i → i + count_while p (drop i s) ≡ i
    unfolding count_while
    count_end h = rw (drop_of_length-le s h) (omega arith)

    module _ (h : i < length s) where
      pub count_on : p (get_or s i 0) ≡ true → i + count_while p (drop i s) ≡ i + 1 + count_while p (drop (i + 1) s)
      count_on e = rw (drop-cons s i 0 h, count_more _ _ e, add-one i) (omega arith)

      pub count_off : p (get_or s i 0) ≡ false → i + count_while p (drop i s) ≡ i
      count_off e = rw (drop-cons s i 0 h, count_none _ _ e) (omega arith)

-- what a scan gives from a place on is the same behind the bytes that it passes over
pub skip_plain : {A : Type 0} (p : ℕ → Bool) (scan : ℕ → Bytes → A)
    → ((i x : ℕ) (xs : Bytes) → p x ≡ true → scan i (x ∷ xs) ≡ scan (suc i) xs)
    → (s : Bytes) (i : ℕ) → scan i s ≡ scan (i + count_while p s) (drop (count_while p s) s)
unfolding count_while
skip_plain p scan on [] i = let z : i ≡ i + 0 = omega arith in ap (λ (n : ℕ). scan n []) z
skip_plain p scan on (x ∷ xs) i = go (p x) refl (skip_plain p scan on xs (suc i))
  where
    go : (t : Bool) → p x ≡ t → scan (suc i) xs ≡ scan (suc i + count_while p xs) (drop (count_while p xs) xs)
        → scan i (x ∷ xs) ≡ scan (i + count_while p (x ∷ xs)) (drop (count_while p (x ∷ xs)) (x ∷ xs))
    go true e h =
        let z : suc i + count_while p xs ≡ i + suc (count_while p xs) = omega arith in
        rw (count_more p x xs e) (on i x xs e ∙ h ∙ ap (λ (n : ℕ). scan n (drop (count_while p xs) xs)) z)
    go false e h = let z : i ≡ i + 0 = omega arith in rw (count_none p x xs e) (ap (λ (n : ℕ). scan n (x ∷ xs)) z)

-- bytes that are neither of two
module _ (a b x : ℕ) where
  pub neither : (x ≡ a → ⊥) → (x ≡ b → ⊥) → is_other a b x ≡ true
  unfolding is_other
  neither h k = rw (ne_eqb x a h, ne_eqb x b k)

  pub is_first : x ≡ a → is_other a b x ≡ false
  unfolding is_other
  is_first h = rw (eq-eqb x a h)

  pub is_second : (x ≡ a → ⊥) → x ≡ b → is_other a b x ≡ false
  unfolding is_other
  is_second h k = rw (ne_eqb x a h, eq-eqb x b k)

  pub other_first : is_other a b x ≡ true → x ≡ a → ⊥
  other_first e h = true≢false (sym e ∙ is_first h)

  pub other_second : is_other a b x ≡ true → x ≡ b → ⊥
  other_second e h = true≢false (sym e ∙ is_second (other_first e) h)

-- names
pub name_count : (s : Bytes) → name_length s ≡ count_while continues_name s
unfolding name_length count_while
name_count [] = refl
name_count (x ∷ xs) = ap (λ (n : ℕ). elim (continues_name x) [ true ↦ suc n | false ↦ 0 ]) (name_count xs)

pub name_within : (s : Bytes) → name_length s ≤ length s
name_within s = omega (arith, name_count s, count_within continues_name s)

-- a name that ends before the border, and one that reaches it
module _ (f r : Bytes) (n : ℕ) (e : n ≡ name_length f) where
  pub name_front : n < length f → n ≡ name_length (f ++ r)
  name_front h = e ∙ name_count f ∙ sym (name_count (f ++ r) ∙ count_front continues_name f r (omega (arith, name_count f)))

  pub name_over : (m : ℕ) → m ≡ name_length r → length f ≤ n → n + m ≡ name_length (f ++ r)
  name_over m k h =
      let b : count_while continues_name (f ++ r) ≡ length f + count_while continues_name r = count_both continues_name f r (omega (arith, name_count f)) in
      omega (arith, name_count (f ++ r), name_count r, name_within f)

-- what begins a name goes on with one
pub begins_continues : (x : ℕ) → begins_name x ≡ true → continues_name x ≡ true
unfolding continues_name
begins_continues x e = rw e

pub name_some : (s : Bytes) → 1 ≤ length s → begins_name (get_or s 0 0) ≡ true → 1 ≤ name_length s
name_some [] h e = absurd (omega arith)
name_some (x ∷ xs) h e = omega (arith, name_count (x ∷ xs), count_more continues_name x xs (begins_continues x e))

-- lines, by what stands before the first newline
line_is : (s : Bytes) → line_length s ≡ min (plain_length 10 10 s + 1) (length s)
unfolding line_length plain_length count_while is_other
line_is [] = refl
line_is (x ∷ xs) = go (eqb x 10) (line_is xs)
  where
    go : (t : Bool) → line_length xs ≡ min (plain_length 10 10 xs + 1) (length xs)
        → ◌≡◌ {A = ℕ} (elim t [ true ↦ 1 | false ↦ suc (line_length xs) ]) (min (elim (not t && not t) [ true ↦ suc (plain_length 10 10 xs) | false ↦ 0 ] + 1) (suc (length xs)))
    go true h = omega arith
    go false h = omega arith

module _ (s : Bytes) (i : ℕ) (h : NextEither s 0 10 10 i) where
  pub line_found : i < length s → LineEnd s (i + 1)
  line_found k = record { line = omega (arith, h.place, line_is s); within = omega arith }

  pub line_whole : length s ≤ i → LineEnd s i
  line_whole k = record { line = omega (arith, h.place, line_is s); within = h.within }

-- Which texts are marks, as the code tests it, and the text of a mark that was made.
use Rattle.rules.proofs.Base.{◌≤◌, ℕ, ◌<◌, ◌∙◌, refl, sym, ap, ◌≡◌, true, Bool, false, not, ◌||◌, ◌&&◌, [], ◌++◌, ◌∷◌, ℕ_discrete, arith, eqb, length, take_at, eq-eqb, ne_eqb, eqb-true, eqb-false, le-leb, lt-leb}
use Rattle.std.specs.List.{list_all}
use Rattle.rules.specs.Bytes.{Bytes, is_letter, is_digit, is_underscore, is_blank, begins_name, continues_name, same_bytes}
use Rattle.rules.specs.Marks.{is_barred, none_barred, is_mark, is_end_mark, newline_mark, mark_text}

-- ---- a byte

module _ (x : ℕ) where
  -- letters, digits and underscores are those that go on with a name
  barred_name : is_barred x ≡ continues_name x || eqb x 40 || eqb x 41 || eqb x 44 || is_blank x
  unfolding is_barred continues_name begins_name
  barred_name = go (is_letter x) (is_digit x) (is_underscore x)
    where
      go : (l d u : Bool) → l || d || u || eqb x 40 || eqb x 41 || eqb x 44 || is_blank x ≡ l || u || d || eqb x 40 || eqb x 41 || eqb x 44 || is_blank x
      go true d u = refl
      go false true true = refl
      go false true false = refl
      go false false true = refl
      go false false false = refl

  or_true : (a b c d e : Bool) → e ≡ true → true ≡ a || b || c || d || e
  or_true true b c d e q = refl
  or_true false true c d e q = refl
  or_true false false true d e q = refl
  or_true false false false true e q = refl
  or_true false false false false e q = sym q

  pub barred_by_name : continues_name x ≡ true → true ≡ is_barred x
  barred_by_name e = sym (barred_name ∙ rw e)

  pub barred_by_blank : is_blank x ≡ true → true ≡ is_barred x
  barred_by_blank e = or_true (continues_name x) (eqb x 40) (eqb x 41) (eqb x 44) (is_blank x) e ∙ sym barred_name

  module _ (n : continues_name x ≡ false) (b : is_blank x ≡ false) where
    rest : is_barred x ≡ eqb x 40 || eqb x 41 || eqb x 44
    rest = barred_name ∙ rw (n, b) (go (eqb x 40) (eqb x 41) (eqb x 44))
      where
        go : (p q r : Bool) → p || q || r || false ≡ p || q || r
        go true q r = refl
        go false true r = refl
        go false false true = refl
        go false false false = refl

    -- a parenthesis or a comma
    pub barred_sign : ((x ≡ 40 → ⊥) → (x ≡ 41 → ⊥) → x ≡ 44) → true ≡ is_barred x
    barred_sign h = go (ℕ_discrete x 40) (ℕ_discrete x 41)
      where
        go : Dec (x ≡ 40) → Dec (x ≡ 41) → true ≡ is_barred x
        go (yes e) q = sym (rest ∙ rw (eq-eqb x 40 e))
        go (no p) (yes e) = sym (rest ∙ rw (ne_eqb x 40 p, eq-eqb x 41 e))
        go (no p) (no q) = sym (rest ∙ rw (ne_eqb x 40 p, ne_eqb x 41 q, eq-eqb x 44 (h p q)))

    pub not_barred : (x ≡ 40 → ⊥) → (x ≡ 41 → ⊥) → (x ≡ 44 → ⊥) → false ≡ is_barred x
    not_barred p q r = sym (rest ∙ rw (ne_eqb x 40 p, ne_eqb x 41 q, ne_eqb x 44 r))

-- ---- a text

pub none_barred_all : (w : Bytes) → list_all (λ x. not (is_barred x)) w ≡ none_barred w
unfolding none_barred
none_barred_all [] = refl
none_barred_all (x ∷ xs) = ap (λ (t : Bool). not (is_barred x) && t) (none_barred_all xs)

-- ---- a mark

pub mark_empty : (w : Bytes) → eqb (length w) 0 ≡ true → false ≡ is_mark w
unfolding is_mark
mark_empty w e = sym (rw (lt-leb 1 (length w) (omega (arith, eqb-true (length w) 0 e))))

pub mark_long : (w : Bytes) → 5 < length w → false ≡ is_mark w
unfolding is_mark
mark_long w h = sym (rw (le-leb 1 (length w) (omega arith), lt-leb (length w) 5 h))

pub mark_tested : (w : Bytes) → eqb (length w) 0 ≡ false → length w ≤ 5 → is_mark w ≡ none_barred w
unfolding is_mark
mark_tested w n h = rw (le-leb 1 (length w) (omega (arith, eqb-false (length w) 0 n)), le-leb (length w) 5 h)

pub end_mark_is : (w : Bytes) → is_mark w ≡ true → true ≡ is_end_mark w
unfolding is_end_mark
end_mark_is w e = sym (rw e)

pub end_mark_newline : (w : Bytes) → is_mark w ≡ false → is_end_mark w ≡ same_bytes w newline_mark
unfolding is_end_mark
end_mark_newline w e = rw e

-- ---- a mark that is made: its text stands in front of zeros

pub made : (w rest : Bytes) → mark_text (record { bytes = w ++ rest; len = length w }) ≡ w
unfolding mark_text
made w rest = take_at w rest (length w) refl

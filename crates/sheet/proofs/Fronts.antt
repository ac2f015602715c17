-- Laws of how many bytes at the front of a text pass a test. Assumes nothing.
use Rattle.rules.proofs.Base.{◌≤◌, ◌+◌, ℕ, ◌<◌, suc, refl, ap, ◌∙◌, cond, ◌≡◌, true, Bool, false, [], ◌∷◌, add-one, add-zero, arith, ◌-◌, length, take, drop, get_or, length-drop, take_all, drop_of_length-le, drop-cons, drop-drop, get_or-drop, suc-le-suc, le_refl, le_of_eq}
use Rattle.std.specs.List.{prefix_len}
use Rattle.rules.specs.Bytes.{Bytes}
use Rattle.rules.specs.Sheets.{front_length}

module _ (test : ℕ → Bool) where
  front_more : (x : ℕ) (xs : Bytes) → test x ≡ true → front_length test (x ∷ xs) ≡ suc (front_length test xs)
  unfolding front_length
  front_more x xs e = rw (front_length, e)

  front_none : (x : ℕ) (xs : Bytes) → test x ≡ false → front_length test (x ∷ xs) ≡ 0
  unfolding front_length
  front_none x xs e = rw (front_length, e)

  -- from a place on
  module _ (s : Bytes) (i : ℕ) where
    pub front_end : length s ≤ i → i + front_length test (drop i s) ≡ i
    unfolding front_length
    front_end h = rw (drop_of_length-le s h) (omega arith)

    module _ (h : i < length s) where
      pub front_on : test (get_or s i 0) ≡ true → i + front_length test (drop i s) ≡ i + 1 + front_length test (drop (i + 1) s)
      front_on e = rw (drop-cons s i 0 h, front_more _ _ e, add-one i) (omega arith)

      pub front_off : test (get_or s i 0) ≡ false → i + front_length test (drop i s) ≡ i
      front_off e = rw (drop-cons s i 0 h, front_none _ _ e) (omega arith)

  pub front_is : (s : Bytes) → prefix_len test s ≡ front_length test s
  unfolding front_length
  front_is [] = refl
  front_is (x ∷ xs) = go (test x) (front_is xs)
    where
      go : (t : Bool) → prefix_len test xs ≡ front_length test xs → cond t (1 + prefix_len test xs) 0 ≡ elim t [ true ↦ suc (front_length test xs) | false ↦ 0 ]
      go true h = omega (arith, h)
      go false h = refl

  pub front_le : (s : Bytes) → front_length test s ≤ length s
  unfolding front_length
  front_le [] = le_refl 0
  front_le (x ∷ xs) = go (test x) (front_le xs)
    where
      go : (t : Bool) → front_length test xs ≤ length xs → elim t [ true ↦ suc (front_length test xs) | false ↦ 0 ] ≤ suc (length xs)
      go true h = suc-le-suc h
      go false h = omega arith

-- a slice from a place on
pub from_place : (s : Bytes) (i : ℕ) → take (length s - i) (drop i s) ≡ drop i s
from_place s i = take_all (length s - i) (drop i s) (le_of_eq (length-drop i s))

-- what is behind the first n bytes of a slice, its first byte, and what is behind that
module _ (s : Bytes) (n : ℕ) where
  abbrev pub behind : Bytes
  behind = take (length s - n) (drop n s)

  pub length-behind : length behind ≡ length s - n
  length-behind = ap length (from_place s n) ∙ length-drop n s

  pub first-behind : get_or behind 0 0 ≡ get_or s n 0
  first-behind = ap (λ (l : Bytes). get_or l 0 0) (from_place s n) ∙ get_or-drop n s 0 0 ∙ ap (λ (i : ℕ). get_or s i 0) (add-zero n)

  abbrev pub behind_rest : Bytes
  behind_rest = take (length behind - 1) (drop 1 behind)

  pub rest-behind : behind_rest ≡ drop (suc n) s
  rest-behind = from_place behind 1 ∙ ap (drop 1) (from_place s n) ∙ drop-drop 1 n s ∙ ap (λ (i : ℕ). drop i s) (add-one n)

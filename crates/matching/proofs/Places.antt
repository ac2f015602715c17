-- Laws of the place where a text first stands, and of what `first_place` answers. Assumes nothing.
use Rattle.rules.proofs.Base.{◌≤◌, ◌+◌, ℕ, ◌<◌, suc, zero, ◌∙◌, refl, sym, ap, ◌≡◌, true, Bool, false, Some, None, Option, [], ◌∷◌, zero-add, suc-add, arith, eqb, leb, length, get_or, eq-eqb, le-leb, leb-true, lt-leb, lt-ltb, eqb-true, le-ltb}
use Rattle.rules.specs.Bytes.{Bytes}
use Rattle.rules.specs.Tokens.{begins_with, first_place}
use Rattle.rules.specs.Places.{plus_one}
use Rattle.std.specs.Prelude.{Ok, Err}
use Rattle.matching.specs.declared.TooLong.{TooLong}
use Rattle.matching.specs.Places.{placed}
use Rattle.matching.specs.Borders.{Stands}

-- the first k bytes of the two are the same
abbrev Begins : Bytes → Bytes → ℕ → Type 0
Begins p s k = (x : ℕ) → x < k → get_or p x 0 ≡ get_or s x 0

begins_cons : (m : ℕ) (ms : Bytes) (x : ℕ) (xs : Bytes) (k : ℕ) → m ≡ x → Begins ms xs k → Begins (m ∷ ms) (x ∷ xs) (suc k)
begins_cons m ms x xs k e f zero h = e
begins_cons m ms x xs k e f (suc y) h = f y (omega arith)

begins_true : (p s : Bytes) → length p ≤ length s → Begins p s (length p) → begins_with p s ≡ true
unfolding begins_with
begins_true [] s l f = refl
begins_true (m ∷ ms) [] l f = absurd (omega arith)
begins_true (m ∷ ms) (x ∷ xs) l f = rw (eq-eqb m x (f 0 (omega arith)), begins_with) (begins_true ms xs (omega arith) (λ y h. f (suc y) (omega arith)))

begins_false : (p s : Bytes) → (length p ≤ length s → Begins p s (length p) → ⊥) → begins_with p s ≡ false
unfolding begins_with
begins_false [] s n = absurd (n (omega arith) (λ x h. absurd (omega arith)))
begins_false (m ∷ ms) [] n = refl
begins_false (m ∷ ms) (x ∷ xs) n = go (eqb m x) refl (begins_false ms xs)
  where
    go : (q : Bool) → eqb m x ≡ q → ((length ms ≤ length xs → Begins ms xs (length ms) → ⊥) → begins_with ms xs ≡ false) → elim q [ true ↦ begins_with ms xs | false ↦ false ] ≡ false
    go true w f = f (λ l h. n (omega arith) (begins_cons m ms x xs (length ms) (eqb-true m x w) h))
    go false w f = refl

-- what stands at the front, and what stands in the rest
from_front : {p t : Bytes} {k : ℕ} → Stands p t k 0 → Begins p t k
from_front {p} {t} w x h = w.same x h ∙ ap (λ (n : ℕ). get_or t n 0) (zero-add x)

at_front : {p t : Bytes} {k : ℕ} → Begins p t k → Stands p t k 0
at_front {p} {t} f = record { same = λ x h. f x h ∙ sym (ap (λ (n : ℕ). get_or t n 0) (zero-add x)) }

in_rest : {p xs : Bytes} {y k a : ℕ} → Stands p (y ∷ xs) k (suc a) → Stands p xs k a
in_rest {p} {xs} {y} {k} {a} w = record { same = λ x h. w.same x h ∙ ap (λ (n : ℕ). get_or (y ∷ xs) n 0) (suc-add a x) }

from_rest : {p xs : Bytes} {k a : ℕ} (y : ℕ) → Stands p xs k a → Stands p (y ∷ xs) k (suc a)
from_rest {p} {xs} {k} {a} y w = record { same = λ x h. w.same x h ∙ sym (ap (λ (n : ℕ). get_or (y ∷ xs) n 0) (suc-add a x)) }

place_here : (p t : Bytes) → begins_with p t ≡ true → first_place p t ≡ Some 0
unfolding first_place
place_here p [] e = rw (e, first_place)
place_here p (x ∷ xs) e = rw (e, first_place)

place_later : (p : Bytes) (x : ℕ) (xs : Bytes) → begins_with p (x ∷ xs) ≡ false → first_place p (x ∷ xs) ≡ plus_one (first_place p xs)
unfolding first_place
place_later p x xs e = rw (e, first_place)

-- it stands at a and at no place before, or nowhere
pub place_found : (p t : Bytes) (a : ℕ) → ((b : ℕ) → b < a → Stands p t (length p) b → ⊥) → a + length p ≤ length t → Stands p t (length p) a → first_place p t ≡ Some a
unfolding plus_one
place_found p t zero n l w = place_here p t (begins_true p t (omega arith) (from_front w))
place_found p [] (suc a) n l w = absurd (omega arith)
place_found p (x ∷ xs) (suc a) n l w =
    place_later p x xs (begins_false p (x ∷ xs) (λ k f. n 0 (omega arith) (at_front f)))
    ∙ ap plus_one (place_found p xs a (λ b h v. n (suc b) (omega arith) (from_rest x v)) (omega arith) (in_rest w))

pub place_none : (p t : Bytes) → ((b : ℕ) → b + length p ≤ length t → Stands p t (length p) b → ⊥) → first_place p t ≡ None
unfolding first_place plus_one
place_none p [] n = rw (begins_false p [] (λ k f. n 0 (omega arith) (at_front f)), first_place)
place_none p (x ∷ xs) n =
    place_later p x xs (begins_false p (x ∷ xs) (λ k f. n 0 (omega arith) (at_front f)))
    ∙ ap plus_one (place_none p xs (λ b h v. n (suc b) (omega arith) (from_rest x v)))

-- ---- what `first_place` answers

module _ (p t : Bytes) where
  pub placed_nowhere : length t < length p → Ok None ≡ placed p t
  unfolding placed
  placed_nowhere h = rw (lt-leb (length p) (length t) h, placed, place_none p t (λ b l. absurd (omega arith)))

  module _ (h : length p ≤ length t) where
    pub placed_first : length p ≤ 32768 → Ok (first_place p t) ≡ placed p t
    unfolding placed
    placed_first l = rw (le-leb (length p) (length t) h, le-ltb 32768 (length p) l, placed)

    pub placed_empty : length p ≡ 0 → Ok (Some 0) ≡ placed p t
    placed_empty l =
        let e : first_place p t ≡ Some 0 = place_found p t 0 (λ b m. absurd (omega arith)) (omega arith) (record { same = λ x m. absurd (omega arith) }) in
        ap Ok (sym e) ∙ placed_first (omega arith)

    pub placed_long : 32768 < length p → Err (record {}) ≡ placed p t
    unfolding placed
    placed_long l = rw (le-leb (length p) (length t) h, lt-ltb 32768 (length p) l, placed)

-- ---- for callers: where the two texts have no more than 65,536 bytes together, the answer is the first place

module _ (p t : Bytes) (l : length p + length t ≤ 65536) where
  pub placed_together : placed p t ≡ Ok (first_place p t)
  unfolding placed
  placed_together = go (leb (length p) (length t)) refl
    where
      go : (q : Bool) → leb (length p) (length t) ≡ q → placed p t ≡ Ok (first_place p t)
      go true w = let h = leb-true (length p) (length t) w in sym (placed_first p t h (omega arith))
      go false w = rw (w, placed)

  pub answer_is : (o : Option ℕ) → placed p t ≡ Ok o → first_place p t ≡ o
  answer_is o e = let f = placed_together in cc

  pub answer_known : (x : TooLong) → placed p t ≡ Err x → ⊥
  answer_known x e = let f = placed_together in cc

-- Laws of a `match` on a number. Assumes nothing.
use Rattle.rules.proofs.Base.{ℕ, zero, suc, ◌+◌, ◌∙◌, ◌≡◌, refl, sym, ap, true, false, List, [], ◌∷◌, Option, None, Some, eqb, eq-eqb, ne_eqb, arith}
use Rattle.std.specs.Prelude.{slice_get}

-- what it gives for k: the answer of the first arm that has k, else d
abbrev pub arm_of : {A : Type 0} → A → ℕ → List (ℕ × A) → A
arm_of d k [] = d
arm_of d k (x ∷ xs) = elim (eqb k x.0) [ true ↦ x.1 | false ↦ arm_of d k xs ]

-- no arm has k, as the last one is told of it: the first arm innermost, around what was known before
abbrev pub Avoids : {A : Type 0} → Type 0 → ℕ → List (ℕ × A) → Type 0
Avoids T k [] = T
Avoids T k (x ∷ xs) = Avoids (T × (k ≡ x.0 → ⊥)) k xs

avoided : {A : Type 0} (d : A) (T : Type 0) (k : ℕ) (xs : List (ℕ × A)) → Avoids T k xs → T × (arm_of d k xs ≡ d)
avoided d T k [] a = (a, refl)
avoided d T k (x ∷ xs) a =
    let r = avoided d (T × (k ≡ x.0 → ⊥)) k xs a in
    (r.0.0, rw (ne_eqb k x.0 r.0.1, arm_of) r.1)

pub last_arm : {A : Type 0} {d : A} (k : ℕ) (xs : List (ℕ × A)) → Avoids (Unit {0}) k xs → d ≡ arm_of d k xs
last_arm {d} k xs a = sym (avoided d (Unit {0}) k xs a).1

-- the arms of numbers from j on, each with what stands in its place on a list
abbrev pub places_from : {A : Type 0} → ℕ → List A → List (ℕ × Option A)
places_from j [] = []
places_from j (x ∷ xs) = (j, Some x) ∷ places_from (suc j) xs

pub at_place : {A : Type 0} (i j : ℕ) (xs : List A) → arm_of None (j + i) (places_from j xs) ≡ slice_get xs i
at_place i j [] = refl
at_place zero j (x ∷ xs) = rw (eq-eqb (j + 0) j (omega arith), arm_of)
at_place (suc i) j (x ∷ xs) = rw (ne_eqb (j + suc i) j (λ e. omega arith), arm_of) (ap (λ (k : ℕ). arm_of None k (places_from (suc j) xs)) (omega arith) ∙ at_place i (suc j) xs)

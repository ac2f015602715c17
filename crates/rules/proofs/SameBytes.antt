-- Two texts that the test of the rules finds the same are equal, and no others. Assumes nothing.
use Rattle.rules.proofs.Base.{ℕ, refl, sym, ap₂, ◌≡◌, true, Bool, false, true≢false, [], ◌∷◌, eqb, eq-eqb, eqb-true}
use Rattle.rules.specs.Bytes.{Bytes, same_bytes}

pub same_self : (a : Bytes) → same_bytes a a ≡ true
unfolding same_bytes
same_self [] = refl
same_self (x ∷ xs) = rw (eq-eqb x x refl, same_bytes) (same_self xs)

pub same_is : (a b : Bytes) → same_bytes a b ≡ true → a ≡ b
unfolding same_bytes
same_is [] [] e = refl
same_is [] (y ∷ ys) e = absurd (true≢false (sym e))
same_is (x ∷ xs) [] e = absurd (true≢false (sym e))
same_is (x ∷ xs) (y ∷ ys) e = go (eqb x y) refl e (same_is xs ys)
  where
    go : (t : Bool) → eqb x y ≡ t → elim t [ true ↦ same_bytes xs ys | false ↦ false ] ≡ true → (same_bytes xs ys ≡ true → xs ≡ ys) → x ∷ xs ≡ y ∷ ys
    go true h s r = ap₂ (λ (a : ℕ) (l : Bytes). a ∷ l) (eqb-true x y h) (r s)
    go false h s r = absurd (true≢false (sym s))

pub not_same : (a b : Bytes) → (a ≡ b → ⊥) → same_bytes a b ≡ false
not_same a b ne = go (same_bytes a b) refl
  where
    go : (t : Bool) → same_bytes a b ≡ t → same_bytes a b ≡ false
    go true e = absurd (ne (same_is a b e))
    go false e = e

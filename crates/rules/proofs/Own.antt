-- Laws of the predefined names that keep their own meaning: where one loses it, the others keep theirs. Assumes nothing.
use Rattle.rules.proofs.Base.{◌≤◌, ◌+◌, ℕ, ◌-◌, suc, zero, ◌^◌, ◌/◌, ◌%◌, ◌∙◌, refl, sym, ap, ◌≡◌, true, Bool, false, true≢false, cond, Some, None, Option, List, [], ◌∷◌, pow-suc, div-eq_of_lt, dec_le, arith, eqb, get_or, eqb-true}
use lib.Pow.{shr-shr}
use Rattle.rules.specs.Bytes.{Bytes, same_bytes}
use Rattle.rules.specs.Table.{Meaning, predefined, predefined_names, number_from, predefined_number, keeps_own, own_meaning, own_lost}
use Rattle.rules.proofs.SameBytes.{same_self, same_is}

-- ---- the bits of the mask

halved : (n i : ℕ) → n / 2 ^ suc i ≡ n / 2 / 2 ^ i
halved n i =
    let e : suc i ≡ 1 + i = omega arith in
    ap (λ (j : ℕ). n / 2 ^ j) e ∙ sym (shr-shr n 1 i)

bit_in : (k own : ℕ) → own / 2 ^ k % 2 ≡ 1 → 2 ^ k ≤ own
bit_in k own h = go (dec_le (2 ^ k) own)
  where
    go : Dec (2 ^ k ≤ own) → 2 ^ k ≤ own
    go (yes p) = p
    go (no f) =
        let z : own / 2 ^ k ≡ 0 = div-eq_of_lt (omega arith) in
        absurd (omega arith)

-- another bit than the one that is taken away
other_bit : (i k own : ℕ) → own / 2 ^ k % 2 ≡ 1 → (i ≡ k → ⊥) → (own - 2 ^ k) / 2 ^ i % 2 ≡ own / 2 ^ i % 2
other_bit zero zero own h ne = absurd (ne refl)
other_bit zero (suc k) own h ne = omega (arith, bit_in (suc k) own h, pow-suc 2 k)
other_bit (suc i) zero own h ne =
    let e : (own - 1) / 2 ≡ own / 2 = omega arith in
    ap (λ (n : ℕ). n % 2) (halved (own - 1) i ∙ ap (λ (n : ℕ). n / 2 ^ i) e ∙ sym (halved own i))
other_bit (suc i) (suc k) own h ne =
    let e : (own - 2 ^ suc k) / 2 ≡ own / 2 - 2 ^ k = omega (arith, pow-suc 2 k) in
    ap (λ (n : ℕ). n % 2) (halved (own - 2 ^ suc k) i ∙ ap (λ (n : ℕ). n / 2 ^ i) e)
    ∙ other_bit i k (own / 2) (ap (λ (n : ℕ). n % 2) (sym (halved own k)) ∙ h) (λ q. ne (ap suc q))
    ∙ ap (λ (n : ℕ). n % 2) (sym (halved own i))

-- ---- the names by their numbers

number_name : (w : Bytes) (ns : List Bytes) (k j : ℕ) → number_from k w ns ≡ Some j → (k ≤ j) × (w ≡ get_or ns (j - k) [])
unfolding number_from
number_name w [] k j e = absurd (let z : ◌≡◌ {A = ℕ} 0 1 = cc in omega arith)
number_name w (n ∷ ns) k j e = go (same_bytes w n) refl e (number_name w ns (suc k) j)
  where
    go : (t : Bool) → same_bytes w n ≡ t → elim t [ true ↦ Some k | false ↦ number_from (suc k) w ns ] ≡ Some j
        → (number_from (suc k) w ns ≡ Some j → (suc k ≤ j) × (w ≡ get_or ns (j - suc k) [])) → (k ≤ j) × (w ≡ get_or (n ∷ ns) (j - k) [])
    go true s e f =
        let q : k ≡ j = cc in
        let z : 0 ≡ j - k = omega arith in
        (omega arith, same_is w n s ∙ ap (λ (i : ℕ). get_or (n ∷ ns) i []) z)
    go false s e f =
        let h : suc k ≤ j = (f e).0 in
        let z : suc (j - suc k) ≡ j - k = omega arith in
        (omega arith, (f e).1 ∙ ap (λ (i : ℕ). get_or (n ∷ ns) i []) z)

keeps_other : (j k own : ℕ) → 1 ≤ j → 1 ≤ k → (j ≡ k → ⊥) → keeps_own k own ≡ true → keeps_own j (own - 2 ^ (k - 1)) ≡ keeps_own j own
unfolding keeps_own
keeps_other zero k own h l ne t = absurd (omega arith)
keeps_other (suc j) zero own h l ne t = absurd (omega arith)
keeps_other (suc j) (suc k) own h l ne t =
    let e : suc k - 1 ≡ k = omega arith in
    ap (λ (b : ℕ). eqb ((own - 2 ^ b) / 2 ^ j % 2) 1) e ∙ ap (λ (n : ℕ). eqb n 1) (other_bit j k own (eqb-true _ _ t) (λ q. ne (ap suc q)))

keeps_lost : (w : Bytes) (j own : ℕ) → 1 ≤ j → (predefined_number w ≡ Some j → ⊥) → keeps_own j (own_lost w own) ≡ keeps_own j own
unfolding own_lost predefined_number
keeps_lost w j own h ne = go (predefined_number w) refl
  where
    taken : (k : ℕ) → predefined_number w ≡ Some k → (t : Bool) → keeps_own k own ≡ t → keeps_own j (cond t (own - 2 ^ (k - 1)) own) ≡ keeps_own j own
    taken k q true t = keeps_other j k own h (number_name w predefined_names 1 k q).0 (λ e. ne (q ∙ ap Some (sym e))) t
    taken k q false t = refl

    go : (o : Option ℕ) → predefined_number w ≡ o
        → keeps_own j (elim o [ None ↦ own | Some k ↦ cond (keeps_own k own) (own - 2 ^ (k - 1)) own ]) ≡ keeps_own j own
    go None q = refl
    go (Some k) q = taken k q (keeps_own k own) refl

pub own_other : (v w : Bytes) (own : ℕ) → same_bytes v w ≡ false → own_meaning v (own_lost w own) ≡ own_meaning v own
unfolding own_meaning predefined_number
own_other v w own ne = go (predefined_number v) refl
  where
    apart : (j : ℕ) → predefined_number v ≡ Some j → predefined_number w ≡ Some j → ⊥
    apart j q r =
        true≢false (sym (same_self v) ∙ ap (same_bytes v) ((number_name v predefined_names 1 j q).1 ∙ sym (number_name w predefined_names 1 j r).1) ∙ ne)

    go : (o : Option ℕ) → predefined_number v ≡ o
        → ◌≡◌ {A = Option Meaning} (elim o [ None ↦ None | Some j ↦ elim (keeps_own j (own_lost w own)) [ true ↦ Some (predefined j) | false ↦ None ] ])
        (elim o [ None ↦ None | Some j ↦ elim (keeps_own j own) [ true ↦ Some (predefined j) | false ↦ None ] ])
    go None q = refl
    go (Some j) q = rw (keeps_lost w j own (number_name v predefined_names 1 j q).0 (apart j q))

-- Laws of 32-bit signed numbers and their bits. Assumes nothing.
use Rattle.rules.proofs.Base.{◌≤◌, ℕ, ◌-◌, suc, zero, ◌^◌, ◌%◌, refl, ◌≡◌, subst, true, Bool, false, Some, None, Option, [], ◌∷◌, arith, eqb, leb, pos, ℤ, negsuc, neg_ℤ, leb-true, lt-ltb, le-ltb}
use Rattle.rules.specs.Bytes.{Bytes}
use Rattle.rules.specs.Words.{signed_value, wrapped}
use Rattle.rules.specs.Numerals.{natural, up_to, as_signed, number}

-- a number of 32 bits: from -2 ^ 31, which is `negsuc 2147483647`, to 2 ^ 31 - 1
abbrev pub Signed : ℤ → Type 0
Signed (pos n) = n ≤ 2147483647
Signed (negsuc n) = n ≤ 2147483647

signed_neg : (n : ℕ) → n ≤ 2147483648 → Signed (neg_ℤ (pos n))
signed_neg zero h = omega arith
signed_neg (suc n) h = omega arith

-- the number that bits stand for
pub bits_plain : (x : ℕ) → x ≤ 2147483647 → signed_value x ≡ pos x
unfolding signed_value
bits_plain x h = rw (lt-ltb x 2147483648 (omega arith))

pub bits_minus : (x n : ℕ) → 2147483648 ≤ x → 4294967295 - x ≡ n → signed_value x ≡ negsuc n
unfolding signed_value
bits_minus x n h e = rw (le-ltb x 2147483648 h, e)

-- its bits stand for it
pub signed_bits : (z : ℤ) → Signed z → signed_value (wrapped z) ≡ z
unfolding wrapped
signed_bits (pos n) h =
    let e : n % 2 ^ 32 ≡ n = omega arith in
    rw e (bits_plain n h)
signed_bits (negsuc n) h =
    let e : n % 2 ^ 32 ≡ n = omega arith in
    rw e (bits_minus (4294967295 - n) n (omega arith) (omega arith))

-- what a text writes within a limit
limited : (f : ℕ → ℤ) (l : ℕ) → ((n : ℕ) → n ≤ l → Signed (f n)) → (o : Option ℕ) (z : ℤ) → as_signed f (up_to l o) ≡ Some z → Signed z
unfolding as_signed up_to
limited f l g None z e = let w : ◌≡◌ {A = ℕ} 0 1 = cc in absurd (omega arith)
limited f l g (Some n) z e = go (leb n l) refl e
  where
    go : (t : Bool) → leb n l ≡ t → as_signed f (elim t [ true ↦ Some n | false ↦ None ]) ≡ Some z → Signed z
    go true q k = let m : f n ≡ z = cc in subst Signed m (g n (leb-true n l q))
    go false q k = let w : ◌≡◌ {A = ℕ} 0 1 = cc in absurd (omega arith)

pub number_range : (w : Bytes) (z : ℤ) → number w ≡ Some z → Signed z
unfolding number
number_range [] z e = let w : ◌≡◌ {A = ℕ} 0 1 = cc in absurd (omega arith)
number_range (x ∷ xs) z e = go (eqb x 45) e
  where
    go : (t : Bool)
        → elim t [ true ↦ as_signed (λ n. neg_ℤ (pos n)) (up_to 2147483648 (natural 10 xs)) | false ↦ as_signed pos (up_to 2147483647 (natural 10 (x ∷ xs))) ] ≡ Some z
        → Signed z
    go true q = limited (λ n. neg_ℤ (pos n)) 2147483648 signed_neg (natural 10 xs) z q
    go false q = limited pos 2147483647 (λ n h. h) (natural 10 (x ∷ xs)) z q

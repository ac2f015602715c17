-- Laws of numbers that are packed in words. Assumes nothing.
use Rattle.rules.proofs.Base.{◌≤◌, ◌+◌, ℕ, ◌-◌, ◌<◌, suc, zero, ◌*◌, ◌/◌, ◌%◌, ◌^◌, ◌∙◌, refl, sym, ap, ◌≡◌, subst, List, ℕ_discrete, arith, length, get_or, set, get_or-set_same, get_or-set_other, take-set-le, drop-set-lt}
use Rattle.std.proofs.Common.{inl, inr}
use Rattle.std.proofs.lemmas.Nat.{one_shl, mod_below}
use Rattle.std.proofs.Math.Pow.{pow_pos}
use Rattle.expander.specs.Fields.{IsWidth, field_of, field_at, FieldPut}

-- what holds of both widths
by_width : (P : ℕ → Type 0) → P 8 → P 16 → (w : ℕ) → IsWidth w → P w
by_width P a b w (inl e) = subst P (sym e) a
by_width P a b w (inr e) = subst P (sym e) b

-- what holds of 0 and 1, and of 2 and 3
of_two : (P : ℕ → Type 0) → P 0 → P 1 → (r : ℕ) → r < 2 → P r
of_two P a b zero l = a
of_two P a b (suc zero) l = b
of_two P a b (suc (suc r)) l = absurd (omega (arith, l))

of_four : (P : ℕ → Type 0) → P 0 → P 1 → P 2 → P 3 → (r : ℕ) → r < 4 → P r
of_four P a b c d zero l = a
of_four P a b c d (suc zero) l = b
of_four P a b c d (suc (suc r)) l = of_two (λ k. P (suc (suc k))) c d r (omega (arith, l))

-- ---- a number of a word

-- a word with a number exchanged for x: p is the power of two that the number counts, q what it is below, and u is p as the code makes it
abbrev exchanged_as : ℕ → ℕ → ℕ → ℕ → ℕ → ℕ
exchanged_as p q u word x = word - word / p % q * u + x * u

abbrev exchanged : ℕ → ℕ → ℕ → ℕ → ℕ
exchanged w r word x = exchanged_as (2 ^ (w * r)) (2 ^ w) (2 ^ (w * r)) word x

abbrev Same : ℕ → Type 0
Same w = (word x : ℕ) → x < 2 ^ w → (r : ℕ) → r < 32 / w → field_of w r (exchanged w r word x) ≡ x

field_same : (w : ℕ) → IsWidth w → Same w
unfolding field_of
field_same =
    by_width Same
    (λ word x h. of_four (λ r. field_of 8 r (exchanged 8 r word x) ≡ x) (omega (arith, h)) (omega (arith, h)) (omega (arith, h)) (omega (arith, h)))
    (λ word x h. of_two (λ r. field_of 16 r (exchanged 16 r word x) ≡ x) (omega (arith, h)) (omega (arith, h)))

abbrev Kept : ℕ → ℕ → ℕ → ℕ → ℕ → Type 0
Kept w word x r s = (s ≡ r → ⊥) → field_of w s (exchanged w r word x) ≡ field_of w s word

abbrev Other : ℕ → Type 0
Other w = (word x : ℕ) → x < 2 ^ w → (r : ℕ) → r < 32 / w → (s : ℕ) → s < 32 / w → Kept w word x r s

field_other : (w : ℕ) → IsWidth w → Other w
unfolding field_of
field_other = by_width Other four two
  where
    four : Other 8
    four word x h =
        of_four (λ r. (s : ℕ) → s < 4 → Kept 8 word x r s)
        (of_four (Kept 8 word x 0) (λ n. absurd (n refl)) (λ n. omega (arith, h)) (λ n. omega (arith, h)) (λ n. omega (arith, h)))
        (of_four (Kept 8 word x 1) (λ n. omega (arith, h)) (λ n. absurd (n refl)) (λ n. omega (arith, h)) (λ n. omega (arith, h)))
        (of_four (Kept 8 word x 2) (λ n. omega (arith, h)) (λ n. omega (arith, h)) (λ n. absurd (n refl)) (λ n. omega (arith, h)))
        (of_four (Kept 8 word x 3) (λ n. omega (arith, h)) (λ n. omega (arith, h)) (λ n. omega (arith, h)) (λ n. absurd (n refl)))

    two : Other 16
    two word x h =
        of_two (λ r. (s : ℕ) → s < 2 → Kept 16 word x r s) (of_two (Kept 16 word x 0) (λ n. absurd (n refl)) (λ n. omega (arith, h)))
        (of_two (Kept 16 word x 1) (λ n. omega (arith, h)) (λ n. absurd (n refl)))

-- nothing wraps where it is exchanged
pub record Fits (p q u word x : ℕ) : Type 0 where
  pub old : word / p % q * u ≤ word
  pub new : x * u < 2 ^ 32
  pub whole : exchanged_as p q u word x < 2 ^ 32

abbrev FitsIn : ℕ → ℕ → ℕ → ℕ → Type 0
FitsIn w word x r = Fits (2 ^ (w * r)) (2 ^ w) (2 ^ (w * r)) word x

abbrev AllFit : ℕ → Type 0
AllFit w = (word x : ℕ) → x < 2 ^ w → word < 2 ^ 32 → (r : ℕ) → r < 32 / w → FitsIn w word x r

field_fits : (w : ℕ) → IsWidth w → AllFit w
field_fits =
    by_width AllFit
    (λ word x h b. of_four (FitsIn 8 word x) (record { old = omega arith; new = omega arith; whole = omega arith }) (record { old = omega arith; new = omega arith; whole = omega arith })
    (record { old = omega arith; new = omega arith; whole = omega arith }) (record { old = omega arith; new = omega arith; whole = omega arith }))
    (λ word x h b. of_two (FitsIn 16 word x) (record { old = omega arith; new = omega arith; whole = omega arith }) (record { old = omega arith; new = omega arith; whole = omega arith }))

-- ---- number i

-- where it stands, and that no other stands there
record Place (w i : ℕ) : Type 0 where
  pub narrow : w < 32
  pub few : i % (32 / w) < 32 / w
  pub below : w * (i % (32 / w)) < 32
  pub alone : (j : ℕ) → j / (32 / w) ≡ i / (32 / w) → j % (32 / w) ≡ i % (32 / w) → j ≡ i

place : (w : ℕ) → IsWidth w → (i : ℕ) → Place w i
place =
    by_width (λ w. (i : ℕ) → Place w i) (λ i. record { narrow = omega arith; few = omega arith; below = omega arith; alone = λ j e f. omega (arith, e, f) })
    (λ i. record { narrow = omega arith; few = omega arith; below = omega arith; alone = λ j e f. omega (arith, e, f) })

module _ (w : ℕ) (ok : IsWidth w) (i : ℕ) where
  -- the powers as the code makes them
  limit_is : 1 * 2 ^ w % 2 ^ 32 ≡ 2 ^ w
  limit_is = one_shl w 32 (place w ok i).narrow

  unit_is : 1 * 2 ^ (w * (i % (32 / w))) % 2 ^ 32 ≡ 2 ^ (w * (i % (32 / w)))
  unit_is = one_shl (w * (i % (32 / w))) 32 (place w ok i).below

  pub got : (start : ℕ) (words : List ℕ) → let word = get_or words (start + i / (32 / w)) 0 in
      (word / 2 ^ (w * (i % (32 / w))) % (1 * 2 ^ w % 2 ^ 32) ≡ field_at w start words i) × (word / 2 ^ (w * (i % (32 / w))) % (1 * 2 ^ w % 2 ^ 32) < 2 ^ w)
  unfolding field_at field_of
  got start words = rw limit_is (refl, mod_below _ (2 ^ w) (pow_pos w))

  pub fits : (word x : ℕ) → x < 2 ^ w → word < 2 ^ 32 → Fits (2 ^ (w * (i % (32 / w)))) (1 * 2 ^ w % 2 ^ 32) (1 * 2 ^ (w * (i % (32 / w))) % 2 ^ 32) word x
  fits word x h b = rw (limit_is, unit_is) (field_fits w ok word x h b (i % (32 / w)) (place w ok i).few)

  -- one word written, in which number i is exchanged
  module _ (start x : ℕ) (h : x < 2 ^ w) (words : List ℕ) (l : start + i / (32 / w) < length words) where
    abbrev at : ℕ
    at = start + i / (32 / w)

    abbrev new : ℕ
    new = exchanged w (i % (32 / w)) (get_or words at 0) x

    exchanged_at : FieldPut w start words i x (set words at new)
    unfolding field_at
    exchanged_at = record {
      same = ap (field_of w (i % (32 / w))) (get_or-set_same words at new 0 l) ∙ field_same w ok (get_or words at 0) x h (i % (32 / w)) (place w ok i).few;
      others = λ j ne. go j ne (ℕ_discrete (j / (32 / w)) (i / (32 / w)));
      front = take-set-le start words at new (omega arith);
      behind = λ c k. drop-set-lt c words at new k;
    }
      where
        go : (j : ℕ) → (j ≡ i → ⊥) → Dec (j / (32 / w) ≡ i / (32 / w))
            → field_of w (j % (32 / w)) (get_or (set words at new) (start + j / (32 / w)) 0) ≡ field_of w (j % (32 / w)) (get_or words (start + j / (32 / w)) 0)
        go j ne (yes e) =
            rw e
            (ap (field_of w (j % (32 / w))) (get_or-set_same words at new 0 l)
            ∙ field_other w ok (get_or words at 0) x h (i % (32 / w)) (place w ok i).few (j % (32 / w)) (place w ok j).few (λ q. ne ((place w ok i).alone j e q)))
        go j ne (no d) = ap (field_of w (j % (32 / w))) (get_or-set_other words at (start + j / (32 / w)) new 0 (λ q. d (omega (arith, q))))

    pub put_at : FieldPut w start words i x
        (set words at (exchanged_as (2 ^ (w * (i % (32 / w)))) (1 * 2 ^ w % 2 ^ 32) (1 * 2 ^ (w * (i % (32 / w))) % 2 ^ 32) (get_or words at 0) x))
    put_at = rw (limit_is, unit_is) exchanged_at

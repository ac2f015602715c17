-- The bits of one word: what gathering and clearing them keeps. Assumes nothing.
use Rattle.rules.proofs.Base.{◌≤◌, ◌+◌, ℕ, ◌-◌, ◌<◌, suc, zero, ◌*◌, ◌^◌, ◌/◌, ◌%◌, suc-le-suc, ◌∙◌, refl, sym, ap, subst, ◌≡◌, ap₂, true, false, Bool, Some, None, Option, [], ◌∷◌, add-zero, le_trans, one-mul, le_of_eq, lt_of_le_of_lt, add_comm, pow-suc, lt_of_lt_of_le, add-one, arith, length, eqb, ltb, eqb-true, eqb-false, ltb-true, ltb-false}
use lib.Bits.{bit_and, bit_or, and_step, and_self, and_le_l, and_mask, or_shifted}
use lib.Count.{ones_in, ones, count_trailing_zeros, under, ones_step}
use lib.Pow.{shl_exact, pow_mono, mod-mod-pow, field}
use Rattle.std.proofs.Common.{reverse}
use Rattle.std.specs.List.{fold}
use Rattle.std.specs.Bool.{then_some}
use Rattle.std.proofs.lemmas.List.{reverse-append}
use Rattle.std.proofs.lemmas.List.Sums.{fold-append}
use Rattle.rules.specs.Bytes.{Bytes}
use Rattle.rules.specs.Places.{plus_one}
use Rattle.rules.specs.Lines.{newline_bit, newlines, newline_bits, select}
use Rattle.rules.proofs.Newlines.{bit_le, bits_odd, bits_half, no_bit}

-- ---- gathering them

-- so many bits for so many bytes
bits_lt : (xs : Bytes) → newline_bits xs < 2 ^ length xs
unfolding newline_bits
bits_lt [] = omega arith
bits_lt (x ∷ xs) =
    let h = bit_le x in
    let k = bits_lt xs in
    let p : 2 ^ suc (length xs) ≡ 2 ^ length xs * 2 = pow-suc 2 (length xs) in
    omega arith

-- a word with one bit more, the least, for a byte in front of the others
unfoldable pub gather : ℕ → ℕ → ℕ
gather word x = bit_or ((word * 2) % 2 ^ 64) (newline_bit x)

gather_on : (x : ℕ) (xs : Bytes) → length xs ≤ 63 → gather (newline_bits xs) x ≡ newline_bits (x ∷ xs)
unfolding gather newline_bits
gather_on x xs h =
    let bit : newline_bit x < 2 = lt_of_le_of_lt (bit_le x) (omega arith) in
    let fits : newline_bits xs < 2 ^ 63 = lt_of_lt_of_le (bits_lt xs) (pow_mono h) in
    ap (λ (w : ℕ). bit_or w (newline_bit x)) (shl_exact 63 1 64 fits (omega arith))
    ∙ or_shifted (newline_bits xs) 1 (newline_bit x) bit
    ∙ add_comm (newline_bits xs * 2) (newline_bit x)

-- gathered from the last byte on, they are the bits of the text
pub gathered : (xs : Bytes) → length xs ≤ 64 → fold gather 0 (reverse xs) ≡ newline_bits xs
unfolding newline_bits
gathered [] h = refl
gathered (x ∷ xs) h =
    ap (fold gather 0) (reverse-append (x ∷ []) xs)
    ∙ fold-append gather 0 (reverse xs) (x ∷ [])
    ∙ ap (λ (w : ℕ). gather w x) (gathered xs (omega arith))
    ∙ gather_on x xs (omega arith)

-- as many are set as the bytes have newlines
pub ones_bits : (xs : Bytes) → ones (newline_bits xs) ≡ newlines xs
unfolding newlines newline_bits ones
ones_bits [] = refl
ones_bits (x ∷ xs) = ones_step (newline_bits (x ∷ xs)) ∙ ap₂ (λ (a b : ℕ). a + ones b) (bits_odd x xs) (bits_half x xs) ∙ ap (λ (n : ℕ). newline_bit x + n) (ones_bits xs)

-- ---- clearing the least set bit

odd_cleared : (n : ℕ) → n % 2 ≡ 1 → bit_and n (n - 1) ≡ n / 2 * 2
odd_cleared n o =
    let half : (n - 1) / 2 ≡ n / 2 = omega arith in
    let least : (n - 1) % 2 ≡ 0 = omega arith in
    and_step n (n - 1) ∙ rw (half, least, o, and_self (n / 2)) (add-zero (n / 2 * 2))

even_cleared : (n : ℕ) → n % 2 ≡ 0 → 0 < n → bit_and n (n - 1) ≡ bit_and (n / 2) (n / 2 - 1) * 2
even_cleared n z p =
    let half : (n - 1) / 2 ≡ n / 2 - 1 = omega arith in
    let least : (n - 1) % 2 ≡ 1 = omega arith in
    and_step n (n - 1) ∙ rw (half, least, z) (add-zero (bit_and (n / 2) (n / 2 - 1) * 2))

-- the sought bit is then one less behind
cleared : (d left n : ℕ) → 0 < n → select d (suc left) n ≡ select d left (bit_and n (n - 1))
unfolding select
cleared zero left n p = refl
cleared (suc d) left n p = go (n % 2) refl (λ q. cleared d left (n / 2) q)
  where
    sought : ℕ → ℕ → ℕ → Option ℕ
    sought before b h = elim b [ zero ↦ plus_one (select d before h) | suc c ↦ elim before [ zero ↦ Some 0 | suc m ↦ plus_one (select d m h) ] ]

    least_clear : (m : ℕ) → bit_and n (n - 1) ≡ m * 2 → sought left (bit_and n (n - 1) % 2) (bit_and n (n - 1) / 2) ≡ plus_one (select d left m)
    least_clear m e =
        let least : bit_and n (n - 1) % 2 ≡ 0 = omega arith in
        let half : bit_and n (n - 1) / 2 ≡ m = omega arith in
        ap₂ (sought left) least half

    go : (b : ℕ) → n % 2 ≡ b → (0 < n / 2 → select d (suc left) (n / 2) ≡ select d left (bit_and (n / 2) (n / 2 - 1)))
        → sought (suc left) (n % 2) (n / 2) ≡ sought left (bit_and n (n - 1) % 2) (bit_and n (n - 1) / 2)
    go zero e r =
        ap (λ (b : ℕ). sought (suc left) b (n / 2)) e ∙ ap plus_one (r (omega arith))
        ∙ sym (least_clear (bit_and (n / 2) (n / 2 - 1)) (even_cleared n e p))
    go (suc b) e r =
        ap (λ (b : ℕ). sought (suc left) b (n / 2)) e ∙ sym (least_clear (n / 2) (odd_cleared n (omega arith)))

-- with none before it, it is the least one
least_set : (d n : ℕ) → 0 < n → n < 2 ^ d → select d 0 n ≡ Some (count_trailing_zeros d n)
unfolding select count_trailing_zeros plus_one
least_set zero n p h = absurd (omega arith)
least_set (suc d) n p h = go (n % 2) refl (λ q. least_set d (n / 2) q (omega (arith, pow-suc 2 d)))
  where
    go : (b : ℕ) → n % 2 ≡ b → (0 < n / 2 → select d 0 (n / 2) ≡ Some (count_trailing_zeros d (n / 2)))
        → elim (n % 2) [ zero ↦ plus_one (select d 0 (n / 2)) | suc c ↦ Some 0 ] ≡ Some (under (n % 2) (count_trailing_zeros d (n / 2)))
    go zero e r = rw (e, r (omega arith)) refl
    go (suc b) e r = rw e refl

-- a word of no more set bits has none behind so many
pub too_few : (d before word : ℕ) → ones_in d word ≤ before → select d before word ≡ None
unfolding select plus_one ones_in
too_few zero before word h = refl
too_few (suc d) before word h = go (word % 2) before h (λ m q. too_few d m (word / 2) q)
  where
    go : (b before : ℕ) → b + ones_in d (word / 2) ≤ before → ((m : ℕ) → ones_in d (word / 2) ≤ m → select d m (word / 2) ≡ None)
        → ◌≡◌ {A = Option ℕ} (elim b [ zero ↦ plus_one (select d before (word / 2)) | suc c ↦ elim before [ zero ↦ Some 0 | suc m ↦ plus_one (select d m (word / 2)) ] ]) None
    go zero before h r = ap plus_one (r before (omega arith))
    go (suc b) zero h r = absurd (omega arith)
    go (suc b) (suc m) h r = ap plus_one (r m (omega arith))

-- and a bit is one of them
abbrev Under : ℕ → Option ℕ → Type 0
Under d None = Unit {0}
Under d (Some i) = i < d

plus_one_under : (d : ℕ) (o : Option ℕ) → Under d o → Under (suc d) (plus_one o)
unfolding plus_one
plus_one_under d None h = tt
plus_one_under d (Some i) h = suc-le-suc h

bit_under : (d before word : ℕ) → Under d (select d before word)
unfolding select
bit_under zero before word = tt
bit_under (suc d) before word = go (word % 2) before (λ b. bit_under d b (word / 2))
  where
    go : (b before : ℕ) → ((m : ℕ) → Under d (select d m (word / 2)))
        → Under (suc d) (elim b [ zero ↦ plus_one (select d before (word / 2)) | suc c ↦ elim before [ zero ↦ Some 0 | suc m ↦ plus_one (select d m (word / 2)) ] ])
    go zero before h = plus_one_under d (select d before (word / 2)) (h before)
    go (suc b) zero h = omega arith
    go (suc b) (suc m) h = plus_one_under d (select d m (word / 2)) (h m)

pub bit_inside : (before word i : ℕ) → select 64 before word ≡ Some i → i < 64
bit_inside before word i e = subst (Under 64) e (bit_under 64 before word)

-- the bit that is sought among those of `rest` is the one that was sought
pub record Clearing (word before rest left : ℕ) : Type 0 where
  pub fits : rest < 2 ^ 64
  pub same : select 64 left rest ≡ select 64 before word

module _ {word before rest left : ℕ} (c : Clearing word before rest left) where
  pub clear_on : 0 < left → Clearing word before (bit_and rest ((rest + (2 ^ 64 - 1)) % 2 ^ 64)) (left - 1)
  clear_on more = go (eqb rest 0) refl
    where
      one : suc (left - 1) ≡ left
      one = omega arith

      fits : bit_and rest ((rest + (2 ^ 64 - 1)) % 2 ^ 64) < 2 ^ 64
      fits = lt_of_le_of_lt (and_le_l rest ((rest + (2 ^ 64 - 1)) % 2 ^ 64)) c.fits

      go : (t : Bool) → eqb rest 0 ≡ t → Clearing word before (bit_and rest ((rest + (2 ^ 64 - 1)) % 2 ^ 64)) (left - 1)
      go true e =
          let none : rest ≡ 0 = eqb-true rest 0 e in
          let still : bit_and rest ((rest + (2 ^ 64 - 1)) % 2 ^ 64) ≡ 0 = omega (arith, none, and_le_l rest ((rest + (2 ^ 64 - 1)) % 2 ^ 64)) in
          record {
            fits = fits;
            same = ap (select 64 (left - 1)) still ∙ no_bit 64 (left - 1) ∙ sym (no_bit 64 left) ∙ ap (select 64 left) (sym none) ∙ c.same;
          }
      go false e =
          let some : rest ≡ 0 → ⊥ = eqb-false rest 0 e in
          let any : 0 < rest = omega arith in
          let less : (rest + (2 ^ 64 - 1)) % 2 ^ 64 ≡ rest - 1 = omega (arith, c.fits) in
          record {
            fits = fits;
            same = ap (λ (n : ℕ). select 64 (left - 1) (bit_and rest n)) less ∙ sym (cleared 64 (left - 1) rest any) ∙ ap (λ (n : ℕ). select 64 n rest) one ∙ c.same;
          }

  -- it is the least that is left, if any is
  pub clear_done : left ≡ 0 → then_some (ltb 0 rest) (count_trailing_zeros 64 rest) ≡ select 64 before word
  clear_done z = go (ltb 0 rest) refl ∙ ap (λ (n : ℕ). select 64 n rest) (sym z) ∙ c.same
    where
      go : (t : Bool) → ltb 0 rest ≡ t → then_some t (count_trailing_zeros 64 rest) ≡ select 64 0 rest
      go true e = sym (least_set 64 rest (ltb-true 0 rest e) c.fits)
      go false e = let none : rest ≡ 0 = omega (arith, ltb-false 0 rest e) in sym (no_bit 64 0) ∙ ap (select 64 0) (sym none)

-- ---- counting those below a place

ones_mod : (k n : ℕ) → ones (n % 2 ^ k) ≡ ones_in k n
unfolding ones_in ones
ones_mod zero n = let z : n % 1 ≡ 0 = omega arith in rw z refl
ones_mod (suc k) n =
    ap (λ (j : ℕ). ones (n % 2 ^ j)) (sym (add-one k))
    ∙ ones_step (n % 2 ^ (k + 1))
    ∙ ap₂ (λ (a b : ℕ). a + ones b) (mod-mod-pow n k 1) (field n k 1)
    ∙ ap (λ (m : ℕ). n % 2 + m) (ones_mod k (n / 2))

mask_is : (k : ℕ) → k < 64 → (1 * 2 ^ k) % 2 ^ 64 ≡ 2 ^ k
mask_is k h = shl_exact 1 k 64 (omega arith) (omega arith) ∙ one-mul (2 ^ k)

pub mask_pos : (k : ℕ) → k < 64 → 1 ≤ (1 * 2 ^ k) % 2 ^ 64
mask_pos k h = le_trans (pow_mono {i = 0} {j = k} (omega arith)) (le_of_eq (sym (mask_is k h)))

-- the rank of a place in its word: the count of ones of the word masked below it
pub masked : (word k : ℕ) → k < 64 → ones (bit_and word ((1 * 2 ^ k) % 2 ^ 64 - 1)) ≡ ones_in k word
masked word k h = ap (λ (m : ℕ). ones (bit_and word (m - 1))) (mask_is k h) ∙ ap ones (and_mask word k) ∙ ones_mod k word

-- all bits of a word, counted
pub ones_whole : (word : ℕ) → word < 2 ^ 64 → ones word ≡ ones_in 64 word
ones_whole word h =
    let whole : word % 2 ^ 64 ≡ word = omega (arith, h) in
    ap ones (sym whole) ∙ ones_mod 64 word

pub ones_in_le : (k n : ℕ) → ones_in k n ≤ k
unfolding ones_in
ones_in_le zero n = omega arith
ones_in_le (suc k) n = let h = ones_in_le k (n / 2) in omega arith

-- no word has as many bits before one
pub too_far : (d before word : ℕ) → d ≤ before → select d before word ≡ None
too_far d before word h = too_few d before word (le_trans (ones_in_le d word) h)

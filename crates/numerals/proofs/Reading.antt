-- Laws of digits that are read, and of the limits on what they write. Assumes nothing.
use Rattle.std.specs.Prelude.{Result, Ok, Err}
use Rattle.std.proofs.Math.Nat.{lt_of_not-le}
use Rattle.std.specs.Option.{SomeIff}
use Rattle.std.specs.Int.{w32}
use Rattle.std.specs.Int.RustNames.{FitsSigned}
use Rattle.std.proofs.lemmas.Int.{ints}
use Rattle.std.specs.Result.{OkIff, result_ok}
use Rattle.rules.proofs.Base.{◌≤◌, ◌+◌, ◌-◌, ℕ, ◌<◌, suc, ◌*◌, ◌∙◌, refl, sym, ap, ◌≡◌, true, Bool, false, Some, None, Option, [], ◌∷◌, mul-le-mul_left, le_of_eq, add-one, arith, leb, ltb, pos, ℤ, neg_ℤ, ◌+ℤ◌, ◌-ℤ◌, length, drop, take, get_or, length-drop, drop_of_length-le, drop-cons, take_all, eq-eqb, ne_eqb, le-leb, leb-true, lt-leb, leb-false, ltb-true, ltb-false, lt-ltb, le-ltb}
use Rattle.rules.specs.Bytes.{Bytes}
use Rattle.rules.specs.Numerals.{digit_worth, natural_from, natural, up_to, as_signed, number}

-- a number on either side of a limit
within_limit : (l n : ℕ) → n ≤ l → up_to l (Some n) ≡ Some n
unfolding up_to
within_limit l n h = rw (le-leb n l h, up_to)

beyond_limit : (l n : ℕ) → l < n → up_to l (Some n) ≡ None
unfolding up_to
beyond_limit l n h = rw (lt-leb n l h, up_to)

-- a limit on what has a wider one
narrowed : (l w : ℕ) → l ≤ w → (o : Option ℕ) → up_to l (up_to w o) ≡ up_to l o
unfolding up_to
narrowed l w h None = refl
narrowed l w h (Some n) = go (leb n w) refl
  where
    go : (t : Bool) → leb n w ≡ t → up_to l (elim t [ true ↦ Some n | false ↦ None ]) ≡ up_to l (Some n)
    go true e = refl
    go false e = let f = leb-false n w e in sym (beyond_limit l n (omega arith))

-- the first of some bytes: no digit, one of the radix, or one that is worth too much
module _ (radix v x : ℕ) (xs : Bytes) where
  by_worth : (o : Option ℕ) → digit_worth x ≡ o
      → natural_from radix v (x ∷ xs) ≡ elim o [ None ↦ None | Some d ↦ elim (ltb d radix) [ true ↦ natural_from radix (v * radix + d) xs | false ↦ None ] ]
  unfolding natural_from
  by_worth o e = rw (← e)

  digit_none : digit_worth x ≡ None → natural_from radix v (x ∷ xs) ≡ None
  digit_none e = by_worth None e

  module _ (d : ℕ) (e : digit_worth x ≡ Some d) where
    digit_on : d < radix → natural_from radix v (x ∷ xs) ≡ natural_from radix (v * radix + d) xs
    digit_on h = by_worth (Some d) e ∙ rw (lt-ltb d radix h)

    digit_off : radix ≤ d → natural_from radix v (x ∷ xs) ≡ None
    digit_off h = by_worth (Some d) e ∙ rw (le-ltb d radix h)

-- what is beyond the limit stays there
stays_beyond : (l radix v : ℕ) (xs : Bytes) → l < v → up_to l (natural_from radix v xs) ≡ None
unfolding natural_from up_to
stays_beyond l radix v [] h = beyond_limit l v h
stays_beyond l radix v (x ∷ xs) h = go (digit_worth x) refl (λ d. stays_beyond l radix (v * radix + d) xs)
  where
    on : (d : ℕ) → digit_worth x ≡ Some d → (t : Bool) → ltb d radix ≡ t → (l < v * radix + d → up_to l (natural_from radix (v * radix + d) xs) ≡ None)
        → up_to l (natural_from radix v (x ∷ xs)) ≡ None
    on d e true t f =
        let k = ltb-true d radix t in
        let m : v * 1 ≤ v * radix = mul-le-mul_left v (omega arith) in
        rw (digit_on radix v x xs d e k) (f (omega arith))
    on d e false t f = rw (digit_off radix v x xs d e (ltb-false d radix t))

    go : (o : Option ℕ) → digit_worth x ≡ o → ((d : ℕ) → l < v * radix + d → up_to l (natural_from radix (v * radix + d) xs) ≡ None)
        → up_to l (natural_from radix v (x ∷ xs)) ≡ None
    go None e f = rw (digit_none radix v x xs e)
    go (Some d) e f = on d e (ltb d radix) refl (f d)

-- one byte behind the digits of v: no digit, one that is worth too much, or one of the radix
module _ (l radix v x : ℕ) where
  pub one_none : digit_worth x ≡ None → None ≡ up_to l (natural_from radix v (x ∷ []))
  unfolding up_to
  one_none e = rw (digit_none radix v x [] e)

  module _ {d : ℕ} (e : digit_worth x ≡ Some d) where
    pub one_off : radix ≤ d → None ≡ up_to l (natural_from radix v (x ∷ []))
    unfolding up_to
    one_off h = rw (digit_off radix v x [] d e h)

    pub one_on : d < radix → up_to l (Some (v * radix + d)) ≡ up_to l (natural_from radix v (x ∷ []))
    unfolding natural_from
    one_on h = rw (digit_on radix v x [] d e h)

-- what is converted to 32 bits: without a sign, and where it fits just up to a limit
pub fits_natural : {E : Type 0} (n : ℕ) (r : Result ℕ E) → OkIff r (n < 4294967296) n → result_ok r ≡ up_to 4294967295 (Some n)
fits_natural n (Ok x) h = ap Some h.1 ∙ sym (within_limit 4294967295 n (omega arith))
fits_natural n (Err e) h = sym (beyond_limit 4294967295 n (omega arith))

fits_signed : (f : ℕ → ℤ) (l m : ℕ) (P : Type 0) (z : ℤ) (r : Option ℤ) → SomeIff r P z → z ≡ f m → (m ≤ l → P) → (P → m ≤ l) → r ≡ as_signed f (up_to l (Some m))
unfolding as_signed
fits_signed f l m P z (Some x) h e g k = rw (within_limit l m (k h.0)) (ap Some (h.1 ∙ e))
fits_signed f l m P z None h e g k = rw (beyond_limit l m (lt_of_not-le (λ n. h (g n))))

pub fits_plain : (m : ℕ) (r : Option ℤ) → SomeIff r (FitsSigned w32 (pos 0 +ℤ pos m)) (pos 0 +ℤ pos m) → r ≡ as_signed pos (up_to 2147483647 (Some m))
fits_plain m r h = fits_signed pos 2147483647 m (FitsSigned w32 (pos 0 +ℤ pos m)) (pos 0 +ℤ pos m) r h (omega (arith, ints)) (λ k. omega (arith, ints)) (λ k. omega (arith, ints))

pub fits_minus : (m : ℕ) (r : Option ℤ) → SomeIff r (FitsSigned w32 (pos 0 -ℤ pos m)) (pos 0 -ℤ pos m) → r ≡ as_signed (λ n. neg_ℤ (pos n)) (up_to 2147483648 (Some m))
fits_minus m r h = fits_signed (λ n. neg_ℤ (pos n)) 2147483648 m (FitsSigned w32 (pos 0 -ℤ pos m)) (pos 0 -ℤ pos m) r h (omega (arith, ints)) (λ k. omega (arith, ints)) (λ k. omega (arith, ints))

-- go on with what was found
then_on : Option ℕ → (ℕ → Option ℕ) → Option ℕ
then_on None f = None
then_on (Some n) f = f n

module _ (l radix v x : ℕ) (xs : Bytes) where
  -- what digits write up to a limit: of the first, and then of the others behind it
  by_digits : up_to l (natural_from radix v (x ∷ xs)) ≡ then_on (up_to l (natural_from radix v (x ∷ []))) (λ n. up_to l (natural_from radix n xs))
  unfolding then_on up_to natural_from
  by_digits = go (digit_worth x) refl
    where
      limited_on : (n : ℕ) (t : Bool) → leb n l ≡ t → up_to l (natural_from radix n xs) ≡ then_on (up_to l (Some n)) (λ m. up_to l (natural_from radix m xs))
      limited_on n true e = rw (within_limit l n (leb-true n l e))
      limited_on n false e = rw (beyond_limit l n (leb-false n l e)) (stays_beyond l radix n xs (leb-false n l e))

      on : (d : ℕ) → digit_worth x ≡ Some d → (t : Bool) → ltb d radix ≡ t
          → up_to l (natural_from radix v (x ∷ xs)) ≡ then_on (up_to l (natural_from radix v (x ∷ []))) (λ m. up_to l (natural_from radix m xs))
      on d e true t =
          let h = ltb-true d radix t in
          rw (digit_on radix v x xs d e h, digit_on radix v x [] d e h) (limited_on (v * radix + d) (leb (v * radix + d) l) refl)
      on d e false t =
          let h = ltb-false d radix t in
          rw (digit_off radix v x xs d e h, digit_off radix v x [] d e h)

      go : (o : Option ℕ) → digit_worth x ≡ o → up_to l (natural_from radix v (x ∷ xs)) ≡ then_on (up_to l (natural_from radix v (x ∷ []))) (λ m. up_to l (natural_from radix m xs))
      go None e = rw (digit_none radix v x xs e, digit_none radix v x [] e)
      go (Some d) e = on d e (ltb d radix) refl

-- what the loop of `read_natural` keeps: the whole is what the rest writes behind v
abbrev pub Reads : ℕ → Bytes → ℕ → ℕ → Type 0
Reads radix s v i = up_to 4294967295 (natural_from radix v (drop i s)) ≡ up_to 4294967295 (natural radix s)

pub reads_first : (radix : ℕ) (s : Bytes) → (length s ≡ 0 → ⊥) → Reads radix s 0 0
unfolding natural
reads_first radix [] h = absurd (h refl)
reads_first radix (x ∷ xs) h = refl

pub reads_none : (radix : ℕ) (s : Bytes) → length s ≡ 0 → None ≡ up_to 4294967295 (natural radix s)
unfolding up_to natural
reads_none radix [] h = refl
reads_none radix (x ∷ xs) h = absurd (omega arith)

module _ (radix : ℕ) (s : Bytes) (v i : ℕ) (w : Reads radix s v i) where
  pub reads_end : length s ≤ i → v ≤ 4294967295 → Some v ≡ up_to 4294967295 (natural radix s)
  unfolding natural_from
  reads_end h k = rw (← w, drop_of_length-le s h, within_limit 4294967295 v k)

  module _ (h : i < length s) {r : Option ℕ} (e : r ≡ up_to 4294967295 (natural_from radix v (get_or s i 0 ∷ []))) where
    reads_more : up_to 4294967295 (natural radix s) ≡ then_on r (λ n. up_to 4294967295 (natural_from radix n (drop (i + 1) s)))
    reads_more = rw (← w, drop-cons s i 0 h, add-one i, e) (by_digits 4294967295 radix v (get_or s i 0) (drop (suc i) s))

    pub reads_on : {n : ℕ} → r ≡ Some n → Reads radix s n (i + 1)
    unfolding then_on
    reads_on f = sym (reads_more ∙ rw f)

    pub reads_off : r ≡ None → None ≡ up_to 4294967295 (natural radix s)
    unfolding then_on
    reads_off f = rw (reads_more, f)

-- a number read, with its sign, up to a limit
module _ (f : ℕ → ℤ) (l : ℕ) (o : Option ℕ) (h : l ≤ 4294967295) {r : Option ℕ} (e : r ≡ up_to 4294967295 o) where
  limited : as_signed f (up_to l r) ≡ as_signed f (up_to l o)
  limited = rw (e, narrowed l 4294967295 h o)

  pub signed_none : r ≡ None → None ≡ as_signed f (up_to l o)
  unfolding as_signed up_to
  signed_none k = rw k at limited

  pub signed_some : {m : ℕ} → r ≡ Some m → as_signed f (up_to l (Some m)) ≡ as_signed f (up_to l o)
  signed_some k = rw k at limited

-- a decimal argument, by its first byte
pub number_minus : (s : Bytes) → get_or s 0 0 ≡ 45 → number s ≡ as_signed (λ n. neg_ℤ (pos n)) (up_to 2147483648 (natural 10 (drop 1 s)))
unfolding number
number_minus [] e = absurd (omega arith)
number_minus (x ∷ xs) e = rw (eq-eqb x 45 e, number)

pub number_plain : (s : Bytes) → (get_or s 0 0 ≡ 45 → ⊥) → number s ≡ as_signed pos (up_to 2147483647 (natural 10 s))
unfolding number natural up_to as_signed
number_plain [] e = refl
number_plain (x ∷ xs) e = rw (ne_eqb x 45 e, number)

pub no_minus : (s : Bytes) → length s < 1 → get_or s 0 0 ≡ 45 → ⊥
no_minus [] h e = omega arith
no_minus (x ∷ xs) h e = omega arith

-- `&s[1..]`, as the logic has it
pub behind_first : (s : Bytes) → take (length s - 1) (drop 1 s) ≡ drop 1 s
behind_first s = take_all (length s - 1) (drop 1 s) (le_of_eq (length-drop 1 s))

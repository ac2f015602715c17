-- Laws of digits that are counted and written. Assumes nothing.
use Rattle.rules.proofs.Base.{◌≤◌, ◌+◌, ℕ, ◌-◌, ◌<◌, suc, zero, ◌/◌, ◌%◌, max, ◌^◌, ◌*◌, pow-suc, mul-le-mul, le_refl, not, true≢false, ◌∙◌, refl, sym, ap, ◌≡◌, true, Bool, false, [], ◌++◌, ◌∷◌, append_assoc, append-nil, div-lt_self, arith, ltb, pos, ℤ, negsuc, nat_abs, length, drop, take, length-append, length-drop, set, drop_of_length-le, length-set, length-take, replicate, take-append-drop, length-replicate, length-take-le, take_at, drop_at, set_split, take-take, take-set-le, drop-length, eq-eqb, ne_eqb, eqb, eqb-true, eqb-false, not-true, not-false, ltb-true, ltb-false, lt-ltb, le-ltb}
use Rattle.std.specs.Prelude.{Option, Some, None}
use Rattle.std.proofs.Common.{mul_assoc, mul-one}
use Rattle.std.proofs.lemmas.Nat.{le-div, div_below}
use Rattle.std.proofs.lemmas.Bool.Decides.{nat_tests}
use Rattle.std.specs.Option.{option_eq}
use native.Mathlib.Numerals.{unary_clauses}
use lib.Signed.{lt_z}
use borrow.Rule.Slice.PartMut.{put_mid}
use Rattle.rules.specs.Bytes.{Bytes}
use Rattle.rules.specs.Numerals.{digit_byte, digits_by, digits_in, zero_filled, written_in}
use Rattle.numerals.specs.Answers.{is_radix, length_of, Written}

-- the digits of v by a bound: one below the radix, and the last behind those of the quotient from there on
module _ (k radix v : ℕ) where
  last_digit : v < radix → digits_by (suc k) radix v ≡ digit_byte v ∷ []
  unfolding digits_by
  last_digit h = rw (lt-ltb v radix h, digits_by)

  more_digits : radix ≤ v → digits_by (suc k) radix v ≡ digits_by k radix (v / radix) ++ (digit_byte (v % radix) ∷ [])
  unfolding digits_by
  more_digits h = rw (le-ltb v radix h, digits_by)

  one_or_more : 0 < length (digits_by (suc k) radix v)
  one_or_more = go (ltb v radix) refl
    where
      go : (t : Bool) → ltb v radix ≡ t → 0 < length (digits_by (suc k) radix v)
      go true e = rw (last_digit (ltb-true v radix e)) (omega arith)
      go false e = rw (more_digits (ltb-false v radix e), length-append) (omega arith)

pub quotient_less : (radix v : ℕ) → 2 ≤ radix → radix ≤ v → v / radix < v
quotient_less radix v p h = div-lt_self (omega arith) (omega arith)

power_positive : (radix k : ℕ) → 2 ≤ radix → 0 < radix ^ k
power_positive radix zero p = let z : radix ^ 0 ≡ 1 = simp unary_clauses in omega arith
power_positive radix (suc k) p = rw (pow-suc radix k) (omega (arith, mul-le-mul (power_positive radix k p) p))

-- how many digits a number has, between two powers of the radix; zero has as many as one
digits_between : (j k radix v : ℕ) → 2 ≤ radix → v < j → radix ^ k ≤ max v 1 → max v 1 < radix * radix ^ k → k + 1 ≡ length (digits_by j radix v)
digits_between zero k radix v p h a b = absurd (omega arith)
digits_between (suc j) zero radix v p h a b =
    let y : radix ^ 0 ≡ 1 = simp unary_clauses in
    let z : radix * radix ^ 0 ≡ radix = rw y (mul-one radix) in
    rw (last_digit j radix v (omega arith))
digits_between (suc j) (suc k) radix v p h a b =
    let o = power_positive radix k p in
    let c = rw (pow-suc radix k) at a in
    let d = rw (pow-suc radix k, ← mul_assoc) at b in
    let q : 1 * radix ≤ radix ^ k * radix = mul-le-mul o (le_refl radix) in
    let n : 2 * 1 ≤ radix * radix ^ k = mul-le-mul p o in
    let l = quotient_less radix v p (omega arith) in
    let i = le-div (radix ^ k) v radix (omega arith) (omega arith) in
    let e = div_below v radix (radix * radix ^ k) (omega arith) (omega arith) in
    rw (more_digits j radix v (omega arith), length-append) (omega (arith, digits_between j k radix (v / radix) p (omega arith) (omega arith) (omega arith)))

pub digits_counted : (k radix v : ℕ) → 2 ≤ radix → radix ^ k ≤ max v 1 → max v 1 < radix * radix ^ k → k + 1 ≡ length (digits_in radix v)
unfolding digits_in
digits_counted k radix v p a b = digits_between (suc v) k radix v p (omega arith) a b

-- what the loop of `write_digits` keeps: behind the place i stand the last digits of v, those of `left` are still to be written, and
-- the front is as it was
pub record DigitsLeft (radix v : ℕ) (before : Bytes) (left i : ℕ) (out : Bytes) : Type 0 where
  bound : ℕ
  enough : left < bound
  pub inside : i ≤ length out
  pub size : length out ≡ length before
  front : take i out ≡ take i before
  rest : digits_by bound radix left ++ drop i out ≡ digits_in radix v

pub digits_first : (radix v : ℕ) (before : Bytes) → DigitsLeft radix v before v (length before) before
unfolding digits_in
digits_first radix v before =
    record { bound = suc v; enough = omega arith; inside = omega arith; size = refl; front = refl; rest = rw (drop-length before) (append-nil _) }

drop-set : (l : Bytes) (i a : ℕ) → i < length l → drop i (set l i a) ≡ a ∷ drop (suc i) l
drop-set l i a h = ap (drop i) (set_split l i a h) ∙ drop_at (take i l) (a ∷ drop (suc i) l) i (length-take-le i l (omega arith))

-- the front stays where a byte behind it is stored
front_set : (i a : ℕ) (out before : Bytes) → take (suc i) out ≡ take (suc i) before → take i (set out i a) ≡ take i before
front_set i a out before e =
    take-set-le i out i a (omega arith) ∙ sym (take-take i (suc i) out (omega arith)) ∙ ap (take i) e ∙ take-take i (suc i) before (omega arith)

-- a byte a is stored at the place k, the one before what was written
module _ (radix v : ℕ) (before : Bytes) (left k : ℕ) (out : Bytes) (w : DigitsLeft radix v before left (suc k) out) (a : ℕ) where
  stored : (ds : Bytes) → ds ++ (a ∷ drop (suc k) out) ≡ digits_in radix v → ds ++ drop k (set out k a) ≡ digits_in radix v
  stored ds e = rw (drop-set out k a w.inside) e

  -- the last digit of what is left
  last_stored : 2 ≤ radix → radix ≤ left → a ≡ digit_byte (left % radix) → DigitsLeft radix v before (left / radix) k (set out k a)
  last_stored q h e = go w.bound w.enough w.rest
    where
      go : (j : ℕ) → left < j → digits_by j radix left ++ drop (suc k) out ≡ digits_in radix v → DigitsLeft radix v before (left / radix) k (set out k a)
      go zero l f = absurd (omega arith)
      go (suc j) l f =
          let m = w.inside in
          record {
            bound = j;
            enough = omega (arith, quotient_less radix left q h);
            inside = simp length-set (omega arith);
            size = simp length-set w.size;
            front = front_set k a out before w.front;
            rest = stored (digits_by j radix (left / radix)) (rw (more_digits j radix left h, ← e, append_assoc) at f);
          }

  -- the first digit of all
  first_stored : left < radix → a ≡ digit_byte left → (k ≡ length before - length (digits_in radix v)) × (set out k a ≡ take k before ++ digits_in radix v)
  first_stored h e = go w.bound w.enough w.rest
    where
      text : drop k (set out k a) ≡ digits_in radix v → set out k a ≡ take k before ++ digits_in radix v
      text f = sym (take-append-drop k (set out k a)) ∙ rw (front_set k a out before w.front, f)

      go : (j : ℕ) → left < j → digits_by j radix left ++ drop (suc k) out ≡ digits_in radix v
          → (k ≡ length before - length (digits_in radix v)) × (set out k a ≡ take k before ++ digits_in radix v)
      go zero l f = absurd (omega arith)
      go (suc j) l f =
          let g : drop k (set out k a) ≡ digits_in radix v = stored [] (rw (last_digit j radix left h, ← e) at f) in
          let m = w.inside in
          (omega (arith, simp (length-drop, length-set) at (ap length g), w.size), text g)

-- the same of the place i, where there is room before it
module _ (radix v : ℕ) (before : Bytes) (left i : ℕ) (out : Bytes) (w : DigitsLeft radix v before left i out) where
  -- a digit is left
  pub digits_room : length (digits_in radix v) ≤ length before → 0 < i
  digits_room h = go w.bound w.enough w.rest
    where
      go : (j : ℕ) → left < j → digits_by j radix left ++ drop i out ≡ digits_in radix v → 0 < i
      go zero l e = absurd (omega arith)
      go (suc j) l e = omega (arith, one_or_more j radix left, simp (length-append, length-drop) at (ap length e), w.size)

  module _ (p : 0 < i) (a : ℕ) where
    before_place : DigitsLeft radix v before left (suc (i - 1)) out
    before_place = let e : i ≡ suc (i - 1) = omega arith in rw e at w

    pub digits_on : 2 ≤ radix → radix ≤ left → a ≡ digit_byte (left % radix) → DigitsLeft radix v before (left / radix) (i - 1) (set out (i - 1) a)
    digits_on = last_stored radix v before left (i - 1) out before_place a

    pub digits_all : left < radix → a ≡ digit_byte left → (i - 1 ≡ length before - length (digits_in radix v)) × (set out (i - 1) a ≡ take (i - 1) before ++ digits_in radix v)
    digits_all = first_stored radix v before left (i - 1) out before_place a

-- a digit's byte
pub digit_small : (d : ℕ) → d < 10 → 48 + d ≡ digit_byte d
unfolding digit_byte
digit_small d h = rw (lt-ltb d 10 h)

pub digit_letter : (d : ℕ) → 10 ≤ d → 87 + d ≡ digit_byte d
unfolding digit_byte
digit_letter d h = rw (le-ltb d 10 h)

length_filled : (least : ℕ) (ds : Bytes) → length (zero_filled least ds) ≡ max least (length ds)
unfolding zero_filled
length_filled least ds = simp (length-append, length-replicate) (omega arith)

-- as many digits as a text has, that has a least count of them
filled_again : (least : ℕ) (ds : Bytes) → zero_filled (length (zero_filled least ds)) ds ≡ zero_filled least ds
unfolding zero_filled
filled_again least ds =
    let e : length (zero_filled least ds) - length ds ≡ least - length ds = omega (arith, length_filled least ds) in
    rw e

-- the text of a number with the magnitude m, by its sign
plain : (x : ℤ) (radix m : ℕ) → m ≡ nat_abs x → lt_z x (pos 0) ≡ false → (least : ℕ) → written_in radix least x ≡ zero_filled least (digits_in radix m)
unfolding written_in
plain (pos n) radix m e h least = rw e
plain (negsuc n) radix m e h least = absurd (true≢false h)

minus : (x : ℤ) (radix m : ℕ) → m ≡ nat_abs x → lt_z x (pos 0) ≡ true → (least : ℕ) → written_in radix least x ≡ 45 ∷ zero_filled least (digits_in radix m)
unfolding written_in
minus (pos n) radix m e h least = absurd (omega (arith, ltb-true n 0 h))
minus (negsuc n) radix m e h least = rw e

-- how long it is, and what fills a slice of that length
module _ (x : ℤ) (radix m : ℕ) (e : m ≡ nat_abs x) (least : ℕ) where
  module _ (h : lt_z x (pos 0) ≡ false) where
    pub plain_length_lem : length (written_in radix least x) ≡ max (length (digits_in radix m)) least
    plain_length_lem = rw (plain x radix m e h least) (length_filled least (digits_in radix m) ∙ omega arith)

    pub fills_plain : (before after : Bytes) → after ≡ zero_filled (length before) (digits_in radix m) → length (written_in radix least x) ≡ length before → after ≡ written_in radix least x
    fills_plain before after f g = f ∙ rw (← g, plain x radix m e h least) (filled_again least (digits_in radix m))

  module _ (h : lt_z x (pos 0) ≡ true) where
    pub minus_length : length (written_in radix least x) ≡ max (length (digits_in radix m)) least + 1
    minus_length = rw (minus x radix m e h least, length_filled least (digits_in radix m)) (omega arith)

    pub fills_minus : (before after : Bytes) → after ≡ 45 ∷ zero_filled (length before - 1) (digits_in radix m) → length (written_in radix least x) ≡ length before → after ≡ written_in radix least x
    fills_minus before after f g =
        let k : length before - 1 ≡ length (zero_filled least (digits_in radix m)) = rw (← g, minus x radix m e h least) (omega arith) in
        f ∙ rw (k, minus x radix m e h least, filled_again least (digits_in radix m))

-- the digits behind a minus, put back behind it
module _ (before : Bytes) (h : 0 < length before) where
  pub part_length : length (take (length (set before 0 45) - 1) (drop 1 (set before 0 45))) ≡ length before - 1
  part_length = simp (length-take, length-drop, length-set) (omega arith)

  pub put_behind : (ds : Bytes) → put_mid 1 (length (set before 0 45) - 1) (set before 0 45) ds ≡ 45 ∷ ds
  put_behind ds = go before h
    where
      go : (l : Bytes) → 0 < length l → put_mid 1 (length (set l 0 45) - 1) (set l 0 45) ds ≡ 45 ∷ ds
      go [] k = absurd (omega arith)
      go (y ∷ ys) k =
          let n : length ys ≤ length (45 ∷ ys) - 1 = omega arith in
          ap (λ (t : Bytes). 45 ∷ t) (rw (drop_of_length-le ys n) (append-nil ds))

-- zeros over the front, and the digits behind them
pub zeros_digits : (before out zeros ds : Bytes) (start : ℕ) → length ds ≤ length before → start ≡ length before - length ds → out ≡ take start before ++ ds
    → zeros ≡ replicate (length (take start out)) 48 → zeros ++ drop start out ≡ zero_filled (length before) ds
unfolding zero_filled
zeros_digits before out zeros ds start h e f g =
    let l : length (take start before) ≡ start = length-take-le start before (omega arith) in
    let n : length (take start out) ≡ start = rw (f, take_at (take start before) ds start l) l in
    rw (g, n, f, drop_at (take start before) ds start l, ← e)

-- the text with no least count is the shortest
shortest : (radix least : ℕ) (z : ℤ) → length (written_in radix 0 z) ≤ length (written_in radix least z)
unfolding written_in
shortest radix least (pos n) = rw (length_filled 0 (digits_in radix n), length_filled least (digits_in radix n)) (omega arith)
shortest radix least (negsuc n) = rw (length_filled 0 (digits_in radix (suc n)), length_filled least (digits_in radix (suc n))) (omega arith)

pub radix_range : (radix : ℕ) → is_radix radix ≡ true → (2 ≤ radix) × (radix ≤ 36)
unfolding is_radix
radix_range radix e = grind (arith, nat_tests)

-- what `==` of two lengths says
pub same_length : (o : Option ℕ) (n : ℕ) → false ≡ not (option_eq eqb o (Some n)) → o ≡ Some n
same_length None n e = absurd (true≢false (sym e))
same_length (Some m) n e = ap Some (eqb-true m n (not-false (eqb m n) (sym e)))

pub other_length : (o : Option ℕ) (n : ℕ) → true ≡ not (option_eq eqb o (Some n)) → o ≡ Some n → ⊥
other_length None n e h = let z : ◌≡◌ {A = ℕ} 0 1 = cc in absurd (omega arith)
other_length (Some m) n e h = let k : m ≡ n = cc in absurd (eqb-false m n (not-true (eqb m n) (sym e)) k)

-- the length of a text, and that of another slice
module _ (radix : ℕ) (text : Bytes) where
  pub good_length : is_radix radix ≡ true → length_of radix text ≡ Some (length text)
  unfolding length_of
  good_length e = rw (e, length_of)

  pub bad_length : is_radix radix ≡ false → length_of radix text ≡ None
  unfolding length_of
  bad_length e = rw (e, length_of)

  -- the length is that of a slice
  fitting : (n : ℕ) → length_of radix text ≡ Some n → (is_radix radix ≡ true) × (length text ≡ n)
  fitting n e = go (is_radix radix) refl
    where
      go : (t : Bool) → is_radix radix ≡ t → (is_radix radix ≡ true) × (length text ≡ n)
      go true f = (f, cc (good_length f, e))
      go false f = let z : ◌≡◌ {A = ℕ} 0 1 = cc (bad_length f, e) in absurd (omega arith)

  -- what was written by it
  pub written_whole : (before after : Bytes) → length_of radix text ≡ Some (length before) → (length text ≡ length before → after ≡ text) → Written (is_radix radix) text before true after
  written_whole before after e g =
      let f = fitting (length before) e in
      let k = eq-eqb (length text) (length before) f.1 in
      record { fits = rw (f.0, k); written = rw (f.0, k) (g f.1) }

  pub written_none : (before : Bytes) → (length_of radix text ≡ Some (length before) → ⊥) → Written (is_radix radix) text before false before
  written_none before h = go (is_radix radix) refl
    where
      go : (t : Bool) → is_radix radix ≡ t → Written (is_radix radix) text before false before
      go true f =
          let k = ne_eqb (length text) (length before) (λ e. h (good_length f ∙ ap Some e)) in
          record { fits = rw (f, k); written = rw (f, k) }
      go false f = rw f (record { fits = refl; written = refl })

-- a slice as long as the text has room for the shortest
pub room_text : (radix least : ℕ) (z : ℤ) (before : Bytes) → length_of radix (written_in radix least z) ≡ Some (length before)
    → (2 ≤ radix) × (radix ≤ 36) × (length (written_in radix 0 z) ≤ length before)
room_text radix least z before e =
    let f = fitting radix (written_in radix least z) (length before) e in
    let k = radix_range radix f.0 in
    (k.0, k.1, omega (arith, shortest radix least z, f.1))

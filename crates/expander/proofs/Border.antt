-- Laws of a text in two parts, one behind the other. Assumes nothing.
use Rattle.rules.proofs.Base.{◌≤◌, ◌+◌, ℕ, ◌-◌, ◌<◌, ◌∙◌, sym, ap, ◌≡◌, [], ◌++◌, append-nil, arith, length, drop, take, get_or, length-append, length-drop, drop_of_length-le, List·getD-eq-default, length-take-le, take_at, take-append-le, drop_at, drop-append-add, get_or-append-add, drop-append-le, take-append-add}
use Rattle.rules.specs.Bytes.{Bytes}
use Rattle.expander.specs.Ahead.{count_while, is_other, plain_length, NextEither}
use Rattle.expander.proofs.Prefixes.{count_within, count_front, count_both}
use Rattle.expander.proofs.Parts.{part_all, part_size}

module _ (f r : Bytes) where
  pub drop_rest : (i : ℕ) → length f ≤ i → drop i (f ++ r) ≡ drop (i - length f) r
  drop_rest i h =
      let e : i ≡ length f + (i - length f) = omega arith in
      ap (λ (n : ℕ). drop n (f ++ r)) e ∙ drop-append-add f r (i - length f)

  pub byte_rest : (k : ℕ) → length f ≤ k → get_or r (k - length f) 0 ≡ get_or (f ++ r) k 0
  byte_rest k h =
      let e : length f + (k - length f) ≡ k = omega arith in
      sym (get_or-append-add f r (k - length f) 0) ∙ ap (λ (n : ℕ). get_or (f ++ r) n 0) e

  pub byte_none : (k : ℕ) → length f ≤ k → length r ≤ k - length f → 0 ≡ get_or (f ++ r) k 0
  byte_none k h l = sym (List·getD-eq-default (f ++ r) 0 (omega (arith, length-append f r)))

  -- n bytes from a place on, out of the one part, the other, or both
  pub out_of_rest : (n i : ℕ) → length f ≤ i → take (i - length f + n - (i - length f)) (drop (i - length f) r) ≡ take n (drop i (f ++ r))
  out_of_rest n i h =
      let e : i - length f + n - (i - length f) ≡ n = omega arith in
      ap (λ (m : ℕ). take m (drop (i - length f) r)) e ∙ ap (take n) (sym (drop_rest i h))

  pub out_of_front : (n i : ℕ) → i + n ≤ length f → take (i + n - i) (drop i f) ≡ take n (drop i (f ++ r))
  out_of_front n i h =
      let e : i + n - i ≡ n = omega arith in
      let l : n ≤ length (drop i f) = omega (arith, length-drop i f) in
      ap (λ (m : ℕ). take m (drop i f)) e ∙ sym (ap (take n) (drop-append-le i f r (omega arith)) ∙ take-append-le n (drop i f) r l)

  pub out_of_both : (n i : ℕ) → i ≤ length f → length f - i ≤ n → take (length f - i) (drop i f) ++ take (n - (length f - i)) r ≡ take n (drop i (f ++ r))
  out_of_both n i h l =
      let e : n ≡ length (drop i f) + (n - (length f - i)) = omega (arith, length-drop i f) in
      ap (λ (s : Bytes). s ++ take (n - (length f - i)) r) (part_all f i)
      ∙ sym (ap (take n) (drop-append-le i f r h) ∙ ap (λ (m : ℕ). take m (drop i f ++ r)) e ∙ take-append-add (drop i f) r (n - (length f - i)))

-- a slice whose first n elements were written over by x: the part behind, and the whole once y stands there
module _ (d x : Bytes) (n : ℕ) (e : length x ≡ n) (h : n ≤ length d) where
  pub second_part : (r : Bytes) → length d - n ≤ length r → length (take (length d - n) r) ≡ length (take (length (x ++ drop n d) - n) (drop n (x ++ drop n d)))
  second_part r k = length-take-le (length d - n) r k ∙ sym (part_size (x ++ drop n d) n ∙ omega (arith, length-append x (drop n d), length-drop n d))

  pub written_twice : (y : Bytes) → take n (x ++ drop n d) ++ (y ++ drop (length (x ++ drop n d) - n) (drop n (x ++ drop n d))) ≡ x ++ y
  written_twice y =
      let t : take n (x ++ drop n d) ≡ x = take_at x (drop n d) n e in
      let u : drop n (x ++ drop n d) ≡ drop n d = drop_at x (drop n d) n e in
      let v : drop (length (x ++ drop n d) - n) (drop n d) ≡ [] = drop_of_length-le (drop n d) {i = length (x ++ drop n d) - n} (omega (arith, length-append x (drop n d), length-drop n d)) in
      rw (u, v, append-nil y, t)

-- a count is at most what was counted
pub plain_within : (s : Bytes) (a b n : ℕ) → n ≡ plain_length a b s → n ≤ length s
unfolding plain_length
plain_within s a b n e = omega (arith, count_within (is_other a b) s)

pub plain_short : (s : Bytes) (i a b n : ℕ) → n ≡ plain_length a b (take (length s - i) (drop i s)) → n ≤ length s - i
plain_short s i a b n e = omega (arith, plain_within (take (length s - i) (drop i s)) a b n e, part_size s i)

-- the next place where one of two bytes stands: in the part that the place i is in, or over the border
module _ (f r : Bytes) (i a b : ℕ) where
  reached : (n : ℕ) → i ≤ length (f ++ r) → n ≡ plain_length a b (drop i (f ++ r)) → NextEither (f ++ r) i a b (i + n)
  unfolding plain_length
  reached n h e =
      record {
        place = ap (λ (m : ℕ). i + m) e;
        from = omega arith;
        within = omega (arith, count_within (is_other a b) (drop i (f ++ r)), length-drop i (f ++ r));
      }

  pub next_rest : (n : ℕ) → length f ≤ i → i ≤ length (f ++ r) → n ≡ plain_length a b (take (length r - (i - length f)) (drop (i - length f) r)) → NextEither (f ++ r) i a b (i + n)
  next_rest n h l e = reached n l (e ∙ ap (plain_length a b) (part_all r (i - length f) ∙ sym (drop_rest f r i h)))

  module _ (n : ℕ) (h : i ≤ length f) (e : n ≡ plain_length a b (take (length f - i) (drop i f))) where
    ahead_is : drop i (f ++ r) ≡ take (length f - i) (drop i f) ++ r
    ahead_is = drop-append-le i f r h ∙ ap (λ (s : Bytes). s ++ r) (sym (part_all f i))

    pub next_front : i + n < length f → NextEither (f ++ r) i a b (i + n)
    unfolding plain_length
    next_front l =
        reached n (omega (arith, length-append f r))
        (e ∙ sym (ap (plain_length a b) ahead_is ∙ count_front (is_other a b) (take (length f - i) (drop i f)) r (omega (arith, part_size f i))))

    pub next_over : (m : ℕ) → m ≡ plain_length a b r → length f ≤ i + n → NextEither (f ++ r) i a b (length f + m)
    unfolding plain_length
    next_over m k l =
        let s : length (take (length f - i) (drop i f)) ≤ count_while (is_other a b) (take (length f - i) (drop i f)) = omega (arith, part_size f i) in
        let q : plain_length a b (drop i (f ++ r)) ≡ length f - i + m = ap (plain_length a b) ahead_is ∙ count_both (is_other a b) (take (length f - i) (drop i f)) r s ∙ omega (arith, part_size f i) in
        let t = reached (length f - i + m) (omega (arith, length-append f r)) (sym q) in
        let u : i + (length f - i + m) ≡ length f + m = omega arith in
        rw u at t

-- Laws of the scan for the end of a comment. Assumes nothing.
use Rattle.rules.proofs.Base.{◌≤◌, ◌+◌, ℕ, ◌<◌, suc, ◌∙◌, refl, sym, ap, ◌≡◌, true, Bool, false, Some, None, Option, [], ◌∷◌, add-one, arith, eqb, length, drop, get_or, drop_of_length-le, drop-drop, lt-ltb, le-ltb}
use Rattle.rules.specs.declared.Token.TheVariants as token
use Rattle.rules.specs.declared.Reading.TheVariants.{Is, OpenComment}
use Rattle.rules.specs.Bytes.{Bytes, same_bytes}
use Rattle.rules.specs.Marks.{newline_mark}
use Rattle.rules.specs.Tokens.{begins_with, first_place, comment_to_end, comment_read}
use Rattle.rules.specs.Places.{plus_one}
use Rattle.expander.specs.Ahead.{is_other, plain_length, NextEither}
use Rattle.expander.specs.Tokens.{comment_ending_at, comment_from}
use Rattle.expander.proofs.Prefixes.{skip_plain, other_first}
use Rattle.expander.proofs.MarkPlaces.{begins_short, other_byte}

-- a mark that is a single newline, by its length and its first byte
pub newline_byte : (m : Bytes) → length m ≡ 1 → eqb (get_or m 0 0) 10 ≡ same_bytes m newline_mark
unfolding same_bytes
newline_byte [] h = absurd (omega arith)
newline_byte (x ∷ []) h = go (eqb x 10)
  where
    go : (t : Bool) → t ≡ elim t [ true ↦ true | false ↦ false ]
    go true = refl
    go false = refl
newline_byte (x ∷ y ∷ ys) h = absurd (omega arith)

pub newline_other_length : (m : Bytes) → (length m ≡ 1 → ⊥) → false ≡ same_bytes m newline_mark
unfolding same_bytes
newline_other_length [] h = refl
newline_other_length (x ∷ []) h = absurd (h refl)
newline_other_length (x ∷ y ∷ ys) h = go (eqb x 10)
  where
    go : (t : Bool) → false ≡ elim t [ true ↦ false | false ↦ false ]
    go true = refl
    go false = refl

-- a comment that ends at the place i, or beyond the n bytes ahead
module _ (n i : ℕ) where
  pub ends_within : i ≤ n → Is (token.Comment i) ≡ comment_ending_at n i
  unfolding comment_ending_at
  ends_within h = rw (le-ltb n i h, comment_ending_at)

  pub ends_beyond : n < i → OpenComment ≡ comment_ending_at n i
  unfolding comment_ending_at
  ends_beyond h = rw (lt-ltb n i h, comment_ending_at)

-- one that no end mark closes
module _ (end : Bytes) (n : ℕ) where
  pub end_closes : same_bytes end newline_mark ≡ true → comment_ending_at n n ≡ comment_to_end end n
  unfolding comment_to_end
  end_closes e = sym (ends_within n n (omega arith)) ∙ rw (e, comment_to_end)

  pub end_leaves_open : same_bytes end newline_mark ≡ false → comment_ending_at n (n + 1) ≡ comment_to_end end n
  unfolding comment_to_end
  end_leaves_open e = sym (ends_beyond n (n + 1) (omega arith)) ∙ rw (e, comment_to_end)

-- a comment in a text of n bytes, a place further on
comment_later : (m : Bytes) (n i : ℕ) (o : Option ℕ) → comment_read m n i (plus_one o) ≡ comment_read m n (suc i) o
unfolding comment_read plus_one
comment_later m n i None = refl
comment_later m n i (Some k) = let z : i + (suc k + length m) ≡ suc i + (k + length m) = omega arith in ap (λ (e : ℕ). Is (token.Comment e)) z

pub first_later : (m : Bytes) (x : ℕ) (xs : Bytes) → begins_with m (x ∷ xs) ≡ false → first_place m (x ∷ xs) ≡ plus_one (first_place m xs)
unfolding first_place
first_later m x xs e = rw (e, first_place)

pub first_here : (m s : Bytes) → begins_with m s ≡ true → first_place m s ≡ Some 0
unfolding first_place
first_here m [] e = rw (e, first_place)
first_here m (x ∷ xs) e = rw (e, first_place)

pub first_none : (m : Bytes) → begins_with m [] ≡ false → first_place m [] ≡ None
unfolding first_place
first_none m e = rw (e, first_place)

comment_next : (m : Bytes) (n i : ℕ) (s : Bytes) → begins_with m s ≡ false → comment_read m n (i + 1) (first_place m (drop 1 s)) ≡ comment_read m n i (first_place m s)
unfolding comment_read
comment_next m n i [] e = rw (first_none m e)
comment_next m n i (x ∷ xs) e = rw (first_later m x xs e, add-one i) (sym (comment_later m n i (first_place m xs)))

-- what a comment comes to, from a place on
module _ (end text : Bytes) (i : ℕ) where
  pub comment_here : begins_with end (drop i text) ≡ true → Is (token.Comment (i + length end)) ≡ comment_from end text i
  unfolding comment_from comment_read
  comment_here e =
      let z : i + length end ≡ i + (0 + length end) = omega arith in
      ap (λ (n : ℕ). Is (token.Comment n)) z ∙ sym (ap (comment_read end (length text) i) (first_here end (drop i text) e))

  pub comment_on : begins_with end (drop i text) ≡ false → comment_from end text (i + 1) ≡ comment_from end text i
  unfolding comment_from
  comment_on e =
      ap (λ (s : Bytes). comment_read end (length text) (i + 1) (first_place end s)) (sym (drop-drop 1 i text))
      ∙ comment_next end (length text) i (drop i text) e

  module _ (full : 1 ≤ length end) where
    pub comment_over : length text ≤ i → comment_to_end end (length text) ≡ comment_from end text i
    unfolding comment_from comment_read
    comment_over h = rw (drop_of_length-le text h, first_none end (begins_short end [] full))

    pub comment_skips : (a at : ℕ) → a ≡ get_or end 0 0 → NextEither text i a a at → comment_from end text at ≡ comment_from end text i
    unfolding comment_from plain_length
    comment_skips a at e h =
        ap (λ (n : ℕ). comment_from end text n) h.place
        ∙ ap (λ (s : Bytes). comment_read end (length text) (i + plain_length a a (drop i text)) (first_place end s)) (sym (drop-drop (plain_length a a (drop i text)) i text))
        ∙ sym (skip_plain (is_other a a) (λ (j : ℕ) (s : Bytes). comment_read end (length text) j (first_place end s)) on (drop i text) i)
      where
        on : (j x : ℕ) (xs : Bytes) → is_other a a x ≡ true → comment_read end (length text) j (first_place end (x ∷ xs)) ≡ comment_read end (length text) (suc j) (first_place end xs)
        on j x xs o =
            ap (comment_read end (length text) j) (first_later end x xs (other_byte end (x ∷ xs) full (λ q. other_first a a x o (sym q ∙ sym e))))
            ∙ comment_later end (length text) j (first_place end xs)

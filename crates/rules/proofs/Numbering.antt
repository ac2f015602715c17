-- The numbers along a history: how many are given, and that each keeps its value.
use Rattle.rules.proofs.Base.{◌<◌, ◌+◌, ℕ, suc, ◌∙◌, refl, sym, ap, ap₂, ◌≡◌, true, Bool, false, List, [], ◌++◌, ◌∷◌, append_assoc, map, add-zero, arith, pos, ℤ, length, get_or, length-append, List·getD-append}
use lib.Seq.{get_or-append_seam, append_snoc}
use Rattle.rules.specs.Bytes.{Bytes}
use Rattle.rules.specs.Streams.{Streams, empty_streams, discards, placed, finished_streams, dropped_streams, diverted, Change, places, moves, finishes, drops, diverts, changed, changed_in_turn}
use Rattle.rules.specs.History.{first_placed, current_after, Tally, tallied, first_tally, counting_from, numbered_change, numbered_from, output_numbers, values_from, values_of, value_in, given_in, route_after, route_from}
use Rattle.rules.proofs.StreamLaws.{placed_lost, placed_current, moved_current, valued, valued_change, turns_valued}

-- ---- a history and what follows it

unfoldable pub tally_after : Tally → List Change → Tally
tally_after t [] = t
tally_after t (x ∷ xs) = tally_after (tallied x t) xs

pub numbered-append : (t : Tally) (xs ys : List Change) → numbered_from t (xs ++ ys) ≡ numbered_from t xs ++ numbered_from (tally_after t xs) ys
unfolding numbered_from tally_after
numbered-append t [] ys = refl
numbered-append t (x ∷ xs) ys = ap (◌∷◌ (numbered_change x t)) (numbered-append (tallied x t) xs ys)

pub route_append : (k : ℕ) (t : Tally) (r : List ℤ) (xs ys : List Change) → route_from k t r (xs ++ ys) ≡ route_from k (tally_after t xs) (route_from k t r xs) ys
unfolding route_from tally_after
route_append k t r [] ys = refl
route_append k t r (x ∷ xs) ys = route_append k (tallied x t) (route_after k x t r) xs ys

pub tally_append : (t : Tally) (xs ys : List Change) → tally_after t (xs ++ ys) ≡ tally_after (tally_after t xs) ys
unfolding tally_after
tally_append t [] ys = refl
tally_append t (x ∷ xs) ys = tally_append (tallied x t) xs ys

tally_given : (t : Tally) (xs : List Change) → (tally_after t xs).given ≡ t.given + length (values_from t.current xs)
unfolding tally_after tallied values_from
tally_given t [] = sym (add-zero t.given)
tally_given t (x ∷ xs) =
    omega (arith, tally_given (tallied x t) xs, length-append (first_placed x t.current) (values_from (current_after x t.current) xs))

-- so many numbers are given along it
pub given_is : (h : List Change) → given_in h ≡ (tally_after first_tally h).given
unfolding given_in values_of first_tally
given_is h = omega (arith, tally_given first_tally h)

-- ---- the current stream

pub changed_current : (x : Change) (u : Streams) → (changed x u).current ≡ current_after x u.current
unfolding changed current_after finished_streams dropped_streams diverted
changed_current (places w) u = placed_current u.current w u
changed_current (moves n) u = moved_current n u
changed_current finishes u = refl
changed_current drops u = refl
changed_current (diverts n) u = refl

-- ---- values

-- the next numbers lead to the bytes that got them
counted : (pre w rest : Bytes) → map (λ k. get_or (pre ++ (w ++ rest)) k 0) (counting_from (length pre) (length w)) ≡ w
unfolding counting_from
counted pre [] rest = refl
counted pre (x ∷ w) rest = ap₂ ◌∷◌ (get_or-append_seam pre x (w ++ rest) 0) (again ∙ counted (pre ++ (x ∷ [])) w rest)
  where
    one_more : suc (length pre) ≡ length (pre ++ (x ∷ []))
    one_more = omega (arith, length-append pre (x ∷ []))

    again :
        map (λ k. get_or (pre ++ (x ∷ (w ++ rest))) k 0) (counting_from (suc (length pre)) (length w))
        ≡ map (λ k. get_or (pre ++ (x ∷ []) ++ (w ++ rest)) k 0) (counting_from (length (pre ++ (x ∷ []))) (length w))
    again = ap₂ (λ (all : Bytes) (n : ℕ). map (λ k. get_or all k 0) (counting_from n (length w))) (sym (append_snoc pre x (w ++ rest))) one_more

-- what is placed is numbered whole, or not at all
pub placed_whole : (w : Bytes) (c : ℤ) → discards c ≡ false → first_placed (places w) c ≡ w
unfolding first_placed
placed_whole w c e = rw e

pub placed_nowhere : (w : Bytes) (c : ℤ) → discards c ≡ true → first_placed (places w) c ≡ []
unfolding first_placed
placed_nowhere w c e = rw e

module _ (all : Bytes) where
  value : ℕ → ℕ
  value k = get_or all k 0

  -- a change that is numbered, and then given its values again
  one_change :
      (x : Change) (t : Tally) (pre rest : Bytes) (u : Streams) → all ≡ pre ++ (first_placed x t.current ++ rest) → length pre ≡ t.given
      → u.current ≡ t.current → changed (valued_change value (numbered_change x t)) u ≡ changed x u
  unfolding changed valued_change numbered_change value
  one_change (places w) t pre rest u e g c = go (discards t.current) refl
    where
      values : first_placed (places w) t.current ≡ w → map value (counting_from t.given (length (first_placed (places w) t.current))) ≡ w
      values f = rw (f, ← g, e, f) (counted pre w rest)

      go : (b : Bool) → discards t.current ≡ b
          → placed u.current (map value (counting_from t.given (length (first_placed (places w) t.current)))) u ≡ placed u.current w u
      go true q = placed_lost u.current (ap discards c ∙ q) _ u ∙ sym (placed_lost u.current (ap discards c ∙ q) w u)
      go false q = ap (λ (z : Bytes). placed u.current z u) (values (placed_whole w t.current q))
  one_change (moves n) t pre rest u e g c = refl
  one_change finishes t pre rest u e g c = refl
  one_change drops t pre rest u e g c = refl
  one_change (diverts n) t pre rest u e g c = refl

  all_changes :
      (h : List Change) (t : Tally) (pre : Bytes) (u : Streams) → all ≡ pre ++ values_from t.current h → length pre ≡ t.given → u.current ≡ t.current
      → changed_in_turn (map (valued_change value) (numbered_from t h)) u ≡ changed_in_turn h u
  unfolding changed_in_turn numbered_from values_from tallied
  all_changes [] t pre u e g c = refl
  all_changes (x ∷ xs) t pre u e g c =
      ap (changed_in_turn (map (valued_change value) (numbered_from (tallied x t) xs))) (one_change x t pre (values_from (current_after x t.current) xs) u e g c)
      ∙ all_changes xs (tallied x t) (pre ++ first_placed x t.current) (changed x u)
      (e ∙ sym (append_assoc pre (first_placed x t.current) (values_from (current_after x t.current) xs)))
      (length-append pre (first_placed x t.current) ∙ ap (λ (n : ℕ). n + length (first_placed x t.current)) g)
      (changed_current x u ∙ ap (current_after x) c)

-- the values of the numbers in the output are its bytes
pub numbers_valued : (h : List Change) → map (value_in h) (output_numbers h) ≡ (changed_in_turn h empty_streams).output
unfolding value_in output_numbers values_of valued empty_streams first_tally value
numbers_valued h =
    ap (λ (u : Streams). u.output)
    (turns_valued (value (values_from (pos 0) h)) (numbered_from first_tally h) empty_streams ∙ all_changes (values_from (pos 0) h) h first_tally [] empty_streams refl refl refl)

-- "it keeps number and value": what follows changes neither the value of a number that is given, nor which they are
values_append : (c : ℤ) (xs ys : List Change) → (rest : Bytes) × (values_from c (xs ++ ys) ≡ values_from c xs ++ rest)
unfolding values_from
values_append c [] ys = (values_from c ys, refl)
values_append c (x ∷ xs) ys =
    let r = values_append (current_after x c) xs ys in
    (r.0, ap (◌++◌ (first_placed x c)) r.1 ∙ sym (append_assoc (first_placed x c) (values_from (current_after x c) xs) r.0))

pub value_kept : (xs ys : List Change) (k : ℕ) → k < given_in xs → value_in (xs ++ ys) k ≡ value_in xs k
unfolding value_in given_in values_of
value_kept xs ys k l =
    let r = values_append (pos 0) xs ys in
    ap (λ (w : Bytes). get_or w k 0) r.1 ∙ List·getD-append (values_from (pos 0) xs) r.0 0 k l

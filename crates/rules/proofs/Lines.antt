-- Where the index of lines was built from a text, its answers are those of counting through the text: 02, request 6 "as counting through the
-- text when it was made from it". Assumes nothing.
use Prim.Native.Nat.{ℕ, zero, suc, ◌+◌, ◌-◌, ◌*◌, ◌/◌, ◌%◌, ◌≤◌, ◌<◌}
use native.Mathlib.Omega.{arith}
use mathlib.Core.Path.{◌≡◌, refl, sym, ap, ap₂, ◌∙◌}
use mathlib.Core.Bool.{Bool, true, false, cond, and-eq-true_iff}
use mathlib.Core.List.{List, [], ◌∷◌, ◌++◌}
use Rattle.std.specs.Prelude.{Option, None, Some, Result, Ok, Err}
use lib.Count.{ones_in}
use lib.Dec.{leb, ltb}
use lib.ListN.{length, take, drop, get_or, length-append, length-drop, get_or-append}
use lib.Seq.{take-take, take-add, take_all, length-take-le}
use borrow.Author.Tests.{ltb-true, ltb-false, leb-true}
use Rattle.rules.specs.declared.IndexError.{IndexError}
use Rattle.rules.specs.declared.IndexError.TheVariants.{TooLong, Beyond, NoRoom}
use Rattle.rules.specs.Bytes.{Bytes}
use Rattle.rules.specs.Places.{plus_one}
use Rattle.rules.specs.Run.{most_lent}
use Rattle.rules.specs.Contract.{fronted}
use Rattle.rules.specs.Lines.{index_number, word_count, newlines, newline_bits, word_at, total_at, each, words_of, totals_of, has_room, judged_index, building, held_by, Indexed, line_in, line_of, last_below, select, behind_bit, start_in_word, start_in, start_of, counted_line, behind_newline, start_at, counted_start}
use Rattle.rules.proofs.Newlines.{ones_newlines, newlines-add, farther, bit-behind, behind_first, behind_second}

-- ---- a list of a function's values

pub length-each : (f : ℕ → ℕ) (k n : ℕ) → length (each f k n) ≡ n
unfolding each
length-each f k zero = refl
length-each f k (suc n) = ap suc (length-each f (suc k) n)

get_d_each : (f : ℕ → ℕ) (k n i : ℕ) → i < n → get_or (each f k n) i 0 ≡ f (k + i)
unfolding each
get_d_each f k zero i h = absurd (omega arith)
get_d_each f k (suc n) zero h = ap f (omega arith)
get_d_each f k (suc n) (suc i) h = get_d_each f (suc k) n i (omega arith) ∙ ap f (omega arith)

pub each_last : (f : ℕ → ℕ) (k n : ℕ) → each f k (suc n) ≡ each f k n ++ (f (k + n) ∷ [])
unfolding each
each_last f k zero = ap (λ (i : ℕ). f i ∷ []) (omega arith)
each_last f k (suc n) =
    ap (λ (l : List ℕ). f k ∷ l) (each_last f (suc k) n ∙ ap (λ (i : ℕ). each f (suc k) n ++ (f i ∷ [])) (omega arith))

-- ---- what stands in the lent slices once the index is built

module _ (f : ℕ → ℕ) (n : ℕ) (lent : List ℕ) (room : n ≤ length lent) where
  length-fronted : length (fronted (each f 0 n) lent) ≡ length lent
  unfolding fronted
  length-fronted =
      let e = length-each f 0 n in
      let d = length-drop (length (each f 0 n)) lent in
      length-append (each f 0 n) (drop (length (each f 0 n)) lent) ∙ (omega arith)

  at_fronted : (k : ℕ) → k < n → get_or (fronted (each f 0 n) lent) k 0 ≡ f k
  unfolding fronted
  at_fronted k h =
      let e = length-each f 0 n in
      get_or-append (each f 0 n) (drop (length (each f 0 n)) lent) 0 k (omega arith) ∙ get_d_each f 0 n k h ∙ ap f (omega arith)

-- ---- one law for both questions: refused alike, and where nothing is refused, what is answered of the built index

kept_built : (written lent : List ℕ) → held_by (Ok tt) written lent ≡ fronted written lent
unfolding held_by index_number
kept_built written lent = refl

kept_refused : (written lent : List ℕ) → held_by (Err NoRoom) written lent ≡ lent
unfolding held_by index_number
kept_refused written lent = refl

module _ (text : Bytes) (words totals : List ℕ) where
  abbrev built_words : List ℕ
  built_words = fronted (words_of text) words

  abbrev built_totals : List ℕ
  built_totals = fronted (totals_of text) totals

  abbrev count : ℕ
  count = word_count (length text)

  -- what is judged, by the two tests
  abbrev judged_by : Bool → Bool → Result ℕ IndexError → Result ℕ IndexError
  judged_by long fits a = cond long (Err TooLong) (cond fits a (Err NoRoom))

  answered : {r : Result (Unit {0}) IndexError} {w t : List ℕ} → Indexed text words totals r w t → (X : List ℕ → List ℕ → Result ℕ IndexError) (Y : Result ℕ IndexError)
      → (count ≤ length words → count ≤ length totals → X built_words built_totals ≡ Y)
      → judged_index (length text) w t (X w t) ≡ judged_index (length text) words totals Y
  unfolding judged_index has_room building words_of totals_of
  answered {r} {w} {t} h X Y same = go (ltb most_lent (length text)) (has_room (length text) (length words) (length totals)) refl refl h.answer
    where
      go : (long fits : Bool) → ltb most_lent (length text) ≡ long → has_room (length text) (length words) (length totals) ≡ fits → r ≡ building text words totals
          → judged_by (ltb most_lent (length text)) (has_room (length text) (length w) (length t)) (X w t) ≡ judged_by (ltb most_lent (length text)) (has_room (length text) (length words) (length totals)) Y
      go true fits e f a = rw e refl
      go false false e f a =
          let refused : r ≡ Err NoRoom = a ∙ rw (e, f) refl in
          let wi : w ≡ words = h.words_are ∙ ap (λ (x : Result (Unit {0}) IndexError). held_by x (words_of text) words) refused ∙ kept_refused (words_of text) words in
          let ti : t ≡ totals = h.totals_are ∙ ap (λ (x : Result (Unit {0}) IndexError). held_by x (totals_of text) totals) refused ∙ kept_refused (totals_of text) totals in
          rw (e, ap length wi, ap length ti, f) refl
      go false true e f a =
          let is : r ≡ Ok tt = a ∙ rw (e, f) refl in
          let wi : w ≡ built_words = h.words_are ∙ ap (λ (x : Result (Unit {0}) IndexError). held_by x (words_of text) words) is ∙ kept_built (words_of text) words in
          let ti : t ≡ built_totals = h.totals_are ∙ ap (λ (x : Result (Unit {0}) IndexError). held_by x (totals_of text) totals) is ∙ kept_built (totals_of text) totals in
          let b = (and-eq-true_iff (leb count (length words)) (leb count (length totals))).0 f in
          let wr = leb-true count (length words) b.0 in
          let tr = leb-true count (length totals) b.1 in
          rw (e, f, ap length wi ∙ length-fronted (word_at text) count words wr, ap length ti ∙ length-fronted (total_at text) count totals tr, f)
          (ap₂ X wi ti ∙ same wr tr)

  -- ---- what the built index answers

  module _ (wr : count ≤ length words) (tr : count ≤ length totals) where
    built_word : (k : ℕ) → k < count → get_or built_words k 0 ≡ word_at text k
    unfolding words_of
    built_word k h = at_fronted (word_at text) count words wr k h

    built_total : (k : ℕ) → k < count → get_or built_totals k 0 ≡ total_at text k
    unfolding totals_of
    built_total k h = at_fronted (total_at text) count totals tr k h

    line_built : (place : ℕ) → place ≤ length text → line_in built_words built_totals place ≡ suc (newlines (take place text))
    unfolding line_in word_count word_at total_at
    line_built place h =
        let k = place / 64 in
        let j = place % 64 in
        let whole : k * 64 + j ≡ place = omega arith in
        ap suc
        (ap₂ (λ (a b : ℕ). a + ones_in j b) (built_total k (omega arith)) (built_word k (omega arith))
        ∙ ap (λ (n : ℕ). newlines (take (k * 64) text) + n) (ones_newlines j (take 64 (drop (k * 64) text)) ∙ ap newlines (take-take j 64 (drop (k * 64) text) (omega arith)))
        ∙ sym (newlines-add (k * 64) j text)
        ∙ ap (λ (n : ℕ). newlines (take n text)) whole)

    -- the word's bit, and the place in the text that it stands for
    bit_at : (k : ℕ) (o : Option ℕ) → behind_bit k o ≡ start_at (farther (k * 64) (plus_one o))
    unfolding behind_bit start_at farther plus_one
    bit_at k None = refl
    bit_at k (Some i) = ap Ok (omega arith)

    -- in the bytes of the first n words
    start_from : (m n : ℕ) → n ≤ count → start_in_word built_words built_totals m (last_below (suc m) built_totals n) ≡ start_at (behind_newline m (take (n * 64) text))
    unfolding last_below start_in_word behind_newline start_at word_at total_at word_count
    start_from m zero h = refl
    start_from m (suc k) h =
        let next : k * 64 + 64 ≡ suc k * 64 = omega arith in
        go (ltb (get_or built_totals k 0) (suc m)) refl (start_from m k (omega arith)) ∙ ap (λ (n : ℕ). start_at (behind_newline m (take n text))) next
      where
        front : Bytes
        front = take (k * 64) text

        chunk : Bytes
        chunk = take 64 (drop (k * 64) text)

        before : k * 64 ≤ length text
        before = omega arith

        total_is : get_or built_totals k 0 ≡ newlines front
        total_is = built_total k (omega arith)

        word_is : get_or built_words k 0 ≡ newline_bits chunk
        word_is = built_word k (omega arith)

        go : (t : Bool) → ltb (get_or built_totals k 0) (suc m) ≡ t → start_in_word built_words built_totals m (last_below (suc m) built_totals k) ≡ start_at (behind_newline m front)
            → start_in_word built_words built_totals m (cond t (Some k) (last_below (suc m) built_totals k)) ≡ start_at (behind_newline m (take (k * 64 + 64) text))
        go true e r =
            let le : newlines front ≤ m = omega (arith, ltb-true (get_or built_totals k 0) (suc m) e, total_is) in
            ap₂ (λ (a b : ℕ). behind_bit k (select 64 (m - a) b)) total_is word_is
            ∙ bit_at k (select 64 (m - newlines front) (newline_bits chunk))
            ∙ ap (λ (o : Option ℕ). start_at (farther (k * 64) o)) (bit-behind 64 (m - newlines front) chunk ∙ ap (behind_newline (m - newlines front)) (take-take 64 64 (drop (k * 64) text) (omega arith)))
            ∙ ap (λ (n : ℕ). start_at (farther n (behind_newline (m - newlines front) chunk))) (sym (length-take-le (k * 64) text before))
            ∙ sym (ap start_at (ap (behind_newline m) (take-add (k * 64) 64 text) ∙ behind_second m front chunk le))
        go false e r =
            let lt : m < newlines front = omega (arith, ltb-false (get_or built_totals k 0) (suc m) e, total_is) in
            r ∙ sym (ap start_at (ap (behind_newline m) (take-add (k * 64) 64 text) ∙ behind_first m front chunk lt))

    start_built : (line : ℕ) → start_in count built_words built_totals line ≡ counted_start text line
    unfolding start_in counted_start word_count
    start_built zero = refl
    start_built (suc zero) = refl
    start_built (suc (suc m)) =
        start_from m count (omega arith)
        ∙ ap (λ (s : Bytes). start_at (behind_newline m s)) (take_all (count * 64) text (omega arith))

  -- ---- for every text, every lent room, place and line

  module _ {r : Result (Unit {0}) IndexError} {w t : List ℕ} (h : Indexed text words totals r w t) where
    -- "The line of a place is one more than the newlines before it"
    pub line_counted : (place : ℕ) → line_of (length text) w t place ≡ judged_index (length text) words totals (counted_line text place)
    unfolding line_of counted_line
    line_counted place =
        answered
        h
        (λ (a b : List ℕ). cond (leb place (length text)) (Ok (line_in a b place)) (Err Beyond))
        (counted_line text place)
        (λ wr tr. go wr tr (leb place (length text)) refl)
      where
        go : count ≤ length words → count ≤ length totals → (u : Bool) → leb place (length text) ≡ u
            → cond u (Ok (line_in built_words built_totals place)) (Err Beyond) ≡ cond u (Ok (suc (newlines (take place text)))) (Err Beyond)
        go wr tr true e = ap Ok (line_built wr tr place (leb-true place (length text) e))
        go wr tr false e = refl

    -- "The start of the n-th line too"
    pub start_counted : (line : ℕ) → start_of (length text) w t line ≡ judged_index (length text) words totals (counted_start text line)
    unfolding start_of
    start_counted line = answered h (λ (a b : List ℕ). start_in count a b line) (counted_start text line) (λ wr tr. start_built wr tr line)

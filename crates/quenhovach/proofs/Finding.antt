-- The line that is found by a sheet's words has the reading that a question of the sheet answers. Assumes nothing.
use Rattle.rules.proofs.Base.{ℕ, suc, zero, ◌<◌, ◌≤◌, ◌+◌, ◌*◌, ◌∙◌, refl, sym, ap, ap₂, ◌≡◌, true, false, Bool, ◌&&◌, Some, None, Option, List, [], ◌∷◌, ◌++◌, arith, ltb, ltb-true, ltb-false, length, take, drop, get_or, length-take, List·getD-append, get_or-append-add, get_or-take, drop_of_length-le, drop-cons, le_of_suc-le-suc}
use Rattle.rules.specs.declared.Value.{Value}
use Rattle.rules.specs.declared.Value.TheVariants as value
use Rattle.rules.specs.declared.Entry.{Entry}
use Rattle.rules.specs.declared.Sheet.{Sheet}
use Rattle.rules.specs.Bytes.{Bytes}
use Rattle.rules.specs.Sheets.{unused_line, name_in, is_named, first_named, question}
use Rattle.quenhovach.specs.Sheets.{value_words, line_words, lines_words, sheet_words, name_at, found_from, found_line, FindsReading}

-- a line has five words
five_words : (e : Entry) → length (line_words e) ≡ 5
unfolding line_words value_words
five_words e = go e.value
  where
    go : (v : Value) → length (e.name ∷ e.length ∷ value_words v) ≡ 5
    go (value.Number z) = refl
    go (value.Decimal x) = refl
    go (value.Word p n) = refl

-- the j-th word of the k-th line
word_at : (es : List Entry) (k j : ℕ) → k < length es → j < 5 → get_or (lines_words es) (k * 5 + j) 0 ≡ get_or (line_words (get_or es k unused_line)) j 0
unfolding lines_words
word_at [] k j h i = absurd (omega arith)
word_at (e ∷ es) zero j h i =
    let z : 0 * 5 + j ≡ j = omega arith in
    ap (λ n. get_or (line_words e ++ lines_words es) n 0) z ∙ List·getD-append (line_words e) (lines_words es) 0 j (omega (arith, i, five_words e))
word_at (e ∷ es) (suc k) j h i =
    let z : suc k * 5 + j ≡ length (line_words e) + (k * 5 + j) = omega (arith, five_words e) in
    ap (λ n. get_or (line_words e ++ lines_words es) n 0) z ∙ get_or-append-add (line_words e) (lines_words es) (k * 5 + j) 0 ∙ word_at es k j (le_of_suc-le-suc h) i

module _ (s : Sheet) (full : length s.lines ≡ 256) (text name : Bytes) where
  abbrev line : ℕ → Entry
  line k = get_or s.lines k unused_line

  -- the name of a line, by its words
  place_at : (k : ℕ) → k < 256 → get_or (sheet_words s) (1 + k * 5) 0 ≡ (line k).name
  unfolding sheet_words line_words
  place_at k h =
      let z : 1 + k * 5 ≡ suc (k * 5 + 0) = omega arith in
      ap (λ n. get_or (sheet_words s) n 0) z ∙ word_at s.lines k 0 (omega (arith, h, full)) (omega arith)

  length_at : (k : ℕ) → k < 256 → get_or (sheet_words s) (2 + k * 5) 0 ≡ (line k).length
  unfolding sheet_words line_words
  length_at k h =
      let z : 2 + k * 5 ≡ suc (k * 5 + 1) = omega arith in
      ap (λ n. get_or (sheet_words s) n 0) z ∙ word_at s.lines k 1 (omega (arith, h, full)) (omega arith)

  named_by_words : (k : ℕ) → k < 256 → is_named text name (name_at (sheet_words s) k) ≡ is_named text name (line k)
  unfolding name_at is_named name_in
  named_by_words k h = ap₂ (λ (p n : ℕ). is_named text name (record { name = p; length = n; value = unused_line.value })) (place_at k h) (length_at k h)

  -- the search among the lines from the k-th on, in words and in the sheet
  abbrev below : List Entry
  below = take s.count s.lines

  abbrev Found : ℕ → Option Value → Type 0
  Found n a = (n < 256 → a ≡ Some (line n).value) × (n ≡ 256 → a ≡ None)

  module _ (k : ℕ) (h : k < 256) where
    at_line : k < s.count → drop k below ≡ line k ∷ drop (suc k) below
    at_line c = drop-cons below k unused_line (rw (length-take s.count s.lines) (omega (arith, c, full, h))) ∙ ap (λ (e : Entry). e ∷ drop (suc k) below) (get_or-take s.count s.lines k unused_line c)

    hit : k < s.count → is_named text name (line k) ≡ true → first_named text name (drop k below) ≡ Some (line k).value
    unfolding first_named
    hit c e = rw (at_line c, first_named, e)

    miss : k < s.count → is_named text name (line k) ≡ false → first_named text name (drop k below) ≡ first_named text name (drop (suc k) below)
    unfolding first_named
    miss c e = rw (at_line c, first_named, e)

    beyond : s.count ≤ k → first_named text name (drop k below) ≡ first_named text name (drop (suc k) below)
    beyond c =
        ap (first_named text name)
        (drop_of_length-le below {i = k} (rw (length-take s.count s.lines) (omega (arith, c))) ∙ sym (drop_of_length-le below {i = suc k} (rw (length-take s.count s.lines) (omega (arith, c)))))

  search_from : (left k : ℕ) → k + left ≡ 256 → Found (found_from (sheet_words s) text name k left) (first_named text name (drop k below))
  unfolding found_from first_named sheet_words
  search_from zero k e = (λ h. absurd (omega arith), λ h. ap (first_named text name) (drop_of_length-le below {i = k} (rw (length-take s.count s.lines) (omega (arith, e, full)))))
  search_from (suc left) k e = by_count (search_from left (suc k) (omega (arith, e))) (ltb k s.count) refl (is_named text name (name_at (sheet_words s) k)) refl
    where
      h : k < 256
      h = omega (arith, e)

      later : Found (found_from (sheet_words s) text name (suc k) left) (first_named text name (drop (suc k) below)) → first_named text name (drop k below) ≡ first_named text name (drop (suc k) below) → Found (found_from (sheet_words s) text name (suc k) left) (first_named text name (drop k below))
      later rest q = (λ i. q ∙ rest.0 i, λ i. q ∙ rest.1 i)

      by_count : Found (found_from (sheet_words s) text name (suc k) left) (first_named text name (drop (suc k) below)) → (t : Bool) → ltb k s.count ≡ t → (b : Bool) → is_named text name (name_at (sheet_words s) k) ≡ b
          → Found (elim (t && b) [ true ↦ k | false ↦ found_from (sheet_words s) text name (suc k) left ]) (first_named text name (drop k below))
      by_count rest false c b n = later rest (beyond k h (ltb-false k s.count c))
      by_count rest true c true n = (λ i. hit k h (ltb-true k s.count c) (sym (named_by_words k h) ∙ n), λ i. absurd (omega (arith, i, h)))
      by_count rest true c false n = later rest (miss k h (ltb-true k s.count c) (sym (named_by_words k h) ∙ n))

  pub finds_reading : FindsReading s text name (found_line (sheet_words s) text name)
  unfolding found_line question
  finds_reading = let f = search_from 256 0 refl in record { found = f.0; absent = f.1 }

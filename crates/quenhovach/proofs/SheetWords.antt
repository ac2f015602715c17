-- Laws of a sheet's words. Assumes nothing.
use Rattle.rules.proofs.Base.{ℕ, suc, zero, ◌<◌, ◌≤◌, ◌+◌, ◌-◌, ◌*◌, ◌∙◌, refl, sym, ap, ap₂, ◌≡◌, true, false, ◌&&◌, List, [], ◌∷◌, ◌++◌, append_assoc, append-nil, arith, add-one, ltb, lt-ltb, le-ltb, length, take, get_or, set, replicate, length-set, take_all, take-suc, take-suc-set}
use Rattle.rules.specs.declared.Value.{Value}
use Rattle.rules.specs.declared.Value.TheVariants as value
use Rattle.rules.specs.declared.Entry.{Entry}
use Rattle.rules.specs.Bytes.{Bytes}
use Rattle.rules.specs.Sheets.{unused_line, is_named}
use Rattle.quenhovach.specs.Sheets.{value_words, line_words, lines_words, sheet_words, name_at, found_from, found_line}

-- ---- writing

-- one word more behind the words w, which stand at the front of l
module _ (l : List ℕ) (at : ℕ) (w : List ℕ) (t : take at l ≡ w) (h : at < length l) (a : ℕ) where
  one : take (at + 1) (set l at a) ≡ w ++ (a ∷ [])
  one = ap (λ k. take k (set l at a)) (add-one at) ∙ take-suc-set l at a h ∙ ap (λ v. v ++ (a ∷ [])) t

-- five words behind the words w
module _ (l : List ℕ) (at : ℕ) (w : List ℕ) (t : take at l ≡ w) (h : at + 5 ≤ length l) (a b c d e : ℕ) where
  abbrev first : List ℕ
  first = set l at a

  abbrev second : List ℕ
  second = set first (at + 1) b

  abbrev third : List ℕ
  third = set second (at + 2) c

  abbrev fourth : List ℕ
  fourth = set third (at + 3) d

  long2 : length second ≡ length l
  long2 = length-set first (at + 1) b ∙ length-set l at a

  long4 : length fourth ≡ length l
  long4 = length-set third (at + 3) d ∙ length-set second (at + 2) c ∙ long2

  five_long : length (set fourth (at + 4) e) ≡ length l
  five_long = length-set fourth (at + 4) e ∙ long4

  -- a place, and the next one
  one_at : (m : List ℕ) (k n : ℕ) (v : List ℕ) → take k m ≡ v → k + 1 ≡ n → k < length m → (x : ℕ) → take n (set m k x) ≡ v ++ (x ∷ [])
  one_at m k n v u q i x = ap (λ j. take j (set m k x)) (sym q) ∙ one m k v u i x

  five : take (at + 5) (set fourth (at + 4) e) ≡ w ++ (a ∷ b ∷ c ∷ d ∷ e ∷ [])
  five =
      one_at fourth (at + 4) (at + 5) _
      (one_at third (at + 3) (at + 4) _
      (one_at second (at + 2) (at + 3) _
      (one_at first (at + 1) (at + 2) _
      (one l at w t (omega (arith, h)) a)
      (omega arith) (omega (arith, h, length-set l at a)) b)
      (omega arith) (omega (arith, h, long2)) c)
      (omega arith) (omega (arith, h, length-set second (at + 2) c, long2)) d)
      (omega arith) (omega (arith, h, long4)) e
      ∙ joined
    where
      joined : ((((w ++ (a ∷ [])) ++ (b ∷ [])) ++ (c ∷ [])) ++ (d ∷ [])) ++ (e ∷ []) ≡ w ++ (a ∷ b ∷ c ∷ d ∷ e ∷ [])
      joined =
          append_assoc (((w ++ (a ∷ [])) ++ (b ∷ [])) ++ (c ∷ [])) (d ∷ []) (e ∷ [])
          ∙ append_assoc ((w ++ (a ∷ [])) ++ (b ∷ [])) (c ∷ []) (d ∷ e ∷ [])
          ∙ append_assoc (w ++ (a ∷ [])) (b ∷ []) (c ∷ d ∷ e ∷ [])
          ∙ append_assoc w (a ∷ []) (b ∷ c ∷ d ∷ e ∷ [])

-- a reading has three words
three : (v : Value) → value_words v ≡ get_or (value_words v) 0 0 ∷ get_or (value_words v) 1 0 ∷ get_or (value_words v) 2 0 ∷ []
unfolding value_words
three (value.Number z) = refl
three (value.Decimal x) = refl
three (value.Word p n) = refl

lines_words-append : (es fs : List Entry) → lines_words (es ++ fs) ≡ lines_words es ++ lines_words fs
unfolding lines_words
lines_words-append [] fs = refl
lines_words-append (e ∷ es) fs = ap (λ w. line_words e ++ w) (lines_words-append es fs) ∙ sym (append_assoc (line_words e) (lines_words es) (lines_words fs))

-- the words of the count and of the first i lines stand
pub record WordsOf (lines : List Entry) (count : ℕ) (words : List ℕ) (i at : ℕ) : Type 0 where
  pub long : length words ≡ 1281
  pub at_is : at ≡ 1 + i * 5
  pub some_lines : i ≤ 256
  pub stand : take at words ≡ count ∷ lines_words (take i lines)

pub words_first : (lines : List Entry) (count : ℕ) → WordsOf lines count (set (replicate 1281 0) 0 count) 0 1
unfolding lines_words
words_first lines count = record { long = refl; at_is = refl; some_lines = omega arith; stand = refl }

module _ (lines : List Entry) (count : ℕ) (full : length lines ≡ 256) where
  pub words_all : (words : List ℕ) (i at : ℕ) → WordsOf lines count words i at → 256 ≤ i → words ≡ sheet_words (record { lines = lines; count = count })
  unfolding sheet_words
  words_all words i at w h =
      sym (take_all at words (omega (arith, w.long, w.at_is, h)))
      ∙ w.stand
      ∙ ap (λ es. count ∷ lines_words es) (take_all i lines (omega (arith, full, h)))

  pub words_on : (words : List ℕ) (i at : ℕ) → WordsOf lines count words i at → i < 256 → (v : List ℕ) → v ≡ value_words (get_or lines i unused_line).value
      → WordsOf lines count (set (set (set (set (set words at (get_or lines i unused_line).name) (at + 1) (get_or lines i unused_line).length) (at + 2) (get_or v 0 0)) (at + 3) (get_or v 1 0)) (at + 4) (get_or v 2 0)) (i + 1) (at + 5)
  unfolding line_words lines_words
  words_on words i at w h v f =
      record {
        long = five_long words at (count ∷ lines_words (take i lines)) w.stand in_reach e.name e.length (get_or v 0 0) (get_or v 1 0) (get_or v 2 0) ∙ w.long;
        at_is = omega (arith, w.at_is);
        some_lines = omega (arith, h);
        stand = five words at (count ∷ lines_words (take i lines)) w.stand in_reach e.name e.length (get_or v 0 0) (get_or v 1 0) (get_or v 2 0) ∙ ap (λ r. count ∷ r) more;
      }
    where
      e : Entry
      e = get_or lines i unused_line

      in_reach : at + 5 ≤ length words
      in_reach = omega (arith, w.at_is, w.long, h)

      line_is : line_words e ≡ e.name ∷ e.length ∷ get_or v 0 0 ∷ get_or v 1 0 ∷ get_or v 2 0 ∷ []
      line_is = ap (λ r. e.name ∷ e.length ∷ r) (three e.value ∙ ap (λ (r : List ℕ). get_or r 0 0 ∷ get_or r 1 0 ∷ get_or r 2 0 ∷ []) (sym f))

      more : lines_words (take i lines) ++ (e.name ∷ e.length ∷ get_or v 0 0 ∷ get_or v 1 0 ∷ get_or v 2 0 ∷ []) ≡ lines_words (take (i + 1) lines)
      more =
          sym
          (ap (λ k. lines_words (take k lines)) (add-one i)
          ∙ ap lines_words (take-suc lines i unused_line (omega (arith, h, full)))
          ∙ lines_words-append (take i lines) (e ∷ [])
          ∙ ap (λ r. lines_words (take i lines) ++ r) (append-nil (line_words e) ∙ line_is))

-- ---- finding

-- the name of the i-th line, at its words
pub name_at_lem : (words : List ℕ) (text name : Bytes) (i at : ℕ) → at ≡ 1 + i * 5
    → is_named text name (name_at words i) ≡ is_named text name (record { name = get_or words at 0; length = get_or words (at + 1) 0; value = unused_line.value })
unfolding name_at
name_at_lem words text name i at e =
    let n : 2 + i * 5 ≡ at + 1 = omega (arith, e) in
    ap₂ (λ (p q : ℕ). is_named text name (record { name = get_or words p 0; length = get_or words q 0; value = unused_line.value })) (sym e) n

module _ (words : List ℕ) (text name : Bytes) where
  -- the search from the line i on
  abbrev pub Sought : ℕ → Type 0
  Sought i = found_from words text name i (256 - i) ≡ found_line words text name

  pub sought_first : Sought 0
  unfolding found_line
  sought_first = refl

  module _ (i : ℕ) (s : Sought i) where
    pub none_left : 256 ≤ i → 256 ≡ found_line words text name
    unfolding found_from
    none_left h = let e : 256 - i ≡ 0 = omega (arith, h) in sym (ap (found_from words text name i) e) ∙ s

    module _ (h : i < 256) where
      left : 256 - i ≡ suc (256 - (i + 1))
      left = omega (arith, h)

      step : elim (ltb i (get_or words 0 0) && is_named text name (name_at words i)) [ true ↦ i | false ↦ found_from words text name (suc i) (256 - (i + 1)) ] ≡ found_line words text name
      unfolding found_from
      step = sym (ap (found_from words text name i) left) ∙ s

      module _ (k : i < get_or words 0 0) where
        pub found_here : is_named text name (name_at words i) ≡ true → i ≡ found_line words text name
        found_here e = rw (lt-ltb i (get_or words 0 0) k, e) at step

        pub found_later : is_named text name (name_at words i) ≡ false → Sought (i + 1)
        found_later e = ap (λ j. found_from words text name j (256 - (i + 1))) (add-one i) ∙ (rw (lt-ltb i (get_or words 0 0) k, e) at step)

  -- no line at or behind the count has the name
  none_below : (left i : ℕ) → get_or words 0 0 ≤ i → found_from words text name i left ≡ 256
  unfolding found_from
  none_below zero i h = refl
  none_below (suc left) i h = rw (found_from, le-ltb i (get_or words 0 0) h) (none_below left (suc i) (omega (arith, h)))

  pub beyond_count : (i : ℕ) → Sought i → get_or words 0 0 ≤ i → 256 ≡ found_line words text name
  beyond_count i s h = sym (none_below (256 - i) i h) ∙ s

-- Laws of a text whose lines are read one after the other. Assumes nothing.
use Rattle.rules.proofs.Base.{◌≤◌, ◌<◌, ◌+◌, ◌-◌, ℕ, suc, ◌∙◌, refl, sym, ap, ap₂, ◌≡◌, true, false, Bool, not, Some, None, Option, Result, Ok, Err, List, [], ◌∷◌, ◌++◌, arith, add-one, eqb, lt-ltb, le-ltb, length, take, drop, set, replicate, length-set, length-take-le, length-drop, drop_of_length-le, drop-drop, drop-set-lt, take-suc-set, take-append-drop}
use Rattle.rules.specs.declared.Entry.{Entry}
use Rattle.rules.specs.declared.Value.{Value}
use Rattle.rules.specs.declared.SheetError.{SheetError}
use Rattle.rules.specs.declared.SheetError.TheVariants.{Malformed, Twice, TooMany}
use Rattle.std.proofs.Common.{is_some, IsErrAnd}
use Rattle.std.specs.Option.{ok_or}
use Rattle.std.proofs.lemmas.Result.{err_from_is_err_and}
use Rattle.rules.specs.Bytes.{Bytes}
use Rattle.rules.specs.Sheets.{front_length, in_first_line, lines_of, entry_at, name_in, first_named, question, unused_line, judged_lines, sheet_of, sheet_judged, sheet_read}
use Rattle.rules.proofs.Sheets.{Reads, name_within, entry_reads}
use Rattle.sheet.proofs.Fronts.{front_le, from_place}
use Rattle.sheet.specs.Lines.{is_in_line, until_newline}

-- the first line of a text that has a byte
lines_first : (s : Bytes) → 0 < length s → lines_of s ≡ take (until_newline s) s ∷ lines_of (drop (suc (until_newline s)) s)
unfolding lines_of in_first_line until_newline front_length is_in_line
lines_first [] h = absurd (omega arith)
lines_first (x ∷ xs) h = go (eqb x 10) xs (lines_first xs)
  where
    go : (t : Bool) (xs : Bytes) → (0 < length xs → lines_of xs ≡ take (until_newline xs) xs ∷ lines_of (drop (suc (until_newline xs)) xs))
        → elim t [ true ↦ [] ∷ lines_of xs | false ↦ in_first_line x (lines_of xs) ]
        ≡ take (elim (not t) [ true ↦ suc (until_newline xs) | false ↦ 0 ]) (x ∷ xs) ∷ lines_of (drop (elim (not t) [ true ↦ suc (until_newline xs) | false ↦ 0 ]) xs)
    go true xs ih = refl
    go false [] ih = refl
    go false (y ∷ ys) ih = ap (in_first_line x) (ih (omega arith))

pub until_within : (s : Bytes) → until_newline s ≤ length s
unfolding until_newline
until_within s = front_le is_in_line s

some_is : (o : Option Value) → is_some o ≡ true → (v : Value) × (o ≡ Some v)
some_is None e = let w : ◌≡◌ {A = ℕ} 0 1 = cc in absurd (omega arith)
some_is (Some v) e = (v, refl)

none_is : (o : Option Value) → is_some o ≡ false → o ≡ None
none_is None e = refl
none_is (Some v) e = let w : ◌≡◌ {A = ℕ} 0 1 = cc in absurd (omega arith)

-- a line, judged behind the lines es
module _ (text : Bytes) (es : List Entry) (place : ℕ) (l : Bytes) (ls : List Bytes) where
  full_up : 256 ≤ length es → judged_lines text es place (l ∷ ls) ≡ Err (TooMany (suc (length es)))
  unfolding judged_lines
  full_up h = rw (judged_lines, le-ltb (length es) 256 h)

  module _ (h : length es < 256) where
    bad_line : entry_at place l ≡ None → judged_lines text es place (l ∷ ls) ≡ Err (Malformed (suc (length es)))
    unfolding judged_lines
    bad_line e = rw (judged_lines, lt-ltb (length es) 256 h, e)

    module _ (entry : Entry) (e : entry_at place l ≡ Some entry) where
      same_name : (v : Value) → first_named text (name_in text entry) es ≡ Some v → judged_lines text es place (l ∷ ls) ≡ Err (Twice (suc (length es)))
      unfolding judged_lines
      same_name v f = rw (judged_lines, lt-ltb (length es) 256 h, e, f)

      next_line : first_named text (name_in text entry) es ≡ None → judged_lines text es place (l ∷ ls) ≡ judged_lines text (es ++ (entry ∷ [])) (place + suc (length l)) ls
      unfolding judged_lines
      next_line f = rw (judged_lines, lt-ltb (length es) 256 h, e, f)

-- the lines before a place were read; those of the sheet behind the count are not used
pub record Upto (text : Bytes) (lines : List Entry) (count place : ℕ) : Type 0 where
  pub full : length lines ≡ 256
  pub few : count ≤ 256
  pub unused : drop count lines ≡ replicate (256 - count) unused_line
  pub judged : judged_lines text [] 0 (lines_of text) ≡ judged_lines text (take count lines) place (lines_of (drop place text))

pub upto_first : (text : Bytes) → Upto text (replicate 256 unused_line) 0 0
upto_first text = record { full = refl; few = omega arith; unused = refl; judged = refl }

module _ (text : Bytes) (lines : List Entry) (count place : ℕ) (u : Upto text lines count place) where
  -- so many lines were read
  read_lines : length (take count lines) ≡ count
  read_lines = length-take-le count lines (omega (arith, u.full, u.few))

  -- the whole text was read
  pub all_read : length text ≤ place → Ok (record { lines = lines; count = count }) ≡ sheet_read text
  unfolding sheet_read sheet_judged judged_lines sheet_of lines_of
  all_read h = sym (ap sheet_judged (u.judged ∙ ap (λ s. judged_lines text (take count lines) place (lines_of s)) (drop_of_length-le text h)) ∙ ap Ok whole)
    where
      whole : sheet_of (take count lines) ≡ record { lines = lines; count = count }
      whole =
          ap₂ (λ (a : List Entry) (n : ℕ). record { lines = a; count = n })
          (ap (λ n. take count lines ++ replicate (256 - n) unused_line) read_lines ∙ ap (λ r. take count lines ++ r) (sym u.unused) ∙ take-append-drop count lines)
          read_lines

  module _ (h : place < length text) where
    abbrev left : Bytes
    left = drop place text

    abbrev line : Bytes
    line = take (until_newline left) left

    abbrev others : List Bytes
    others = lines_of (drop (suc (until_newline left)) left)

    at_line : judged_lines text [] 0 (lines_of text) ≡ judged_lines text (take count lines) place (line ∷ others)
    at_line = u.judged ∙ ap (judged_lines text (take count lines) place) (lines_first left (omega (arith, length-drop place text)))

    pub too_many_lem : 256 ≤ count → Err (TooMany 257) ≡ sheet_read text
    unfolding sheet_read sheet_judged
    too_many_lem k = sym (ap sheet_judged (at_line ∙ full_up text (take count lines) place line others (omega (arith, k, read_lines)) ∙ ap (λ (n : ℕ). Err (TooMany n)) (omega (arith, k, u.few, read_lines))))

    module _ (k : count < 256) where
      more : length (take count lines) < 256
      more = omega (arith, k, read_lines)

      number : suc (length (take count lines)) ≡ count + 1
      number = omega (arith, read_lines)

      malformed_line : entry_at place line ≡ None → Err (Malformed (count + 1)) ≡ sheet_read text
      unfolding sheet_read sheet_judged
      malformed_line e = sym (ap sheet_judged (at_line ∙ bad_line text (take count lines) place line others more e ∙ ap (λ (n : ℕ). Err (Malformed n)) number))

      module _ (entry : Entry) (e : entry_at place line ≡ Some entry) where
        given_twice : (v : Value) → first_named text (name_in text entry) (take count lines) ≡ Some v → Err (Twice (count + 1)) ≡ sheet_read text
        unfolding sheet_read sheet_judged
        given_twice v f = sym (ap sheet_judged (at_line ∙ same_name text (take count lines) place line others more entry e v f ∙ ap (λ (n : ℕ). Err (Twice n)) number))

        one_more : first_named text (name_in text entry) (take count lines) ≡ None → Upto text (set lines count entry) (count + 1) (place + until_newline left + 1)
        one_more f =
            record {
              full = length-set lines count entry ∙ u.full;
              few = omega (arith, k);
              unused = behind;
              judged = at_line ∙ next_line text (take count lines) place line others more entry e f ∙ onward;
            }
          where
            behind : drop (count + 1) (set lines count entry) ≡ replicate (256 - (count + 1)) unused_line
            behind =
                let n : 256 - count ≡ suc (256 - (count + 1)) = omega (arith, k) in
                drop-set-lt (count + 1) lines count entry (omega arith)
                ∙ sym (drop-drop 1 count lines)
                ∙ ap (drop 1) (u.unused ∙ ap (λ m. replicate m unused_line) n)

            long : length line ≡ until_newline left
            long = length-take-le (until_newline left) left (until_within left)

            next : place + suc (until_newline left) ≡ place + until_newline left + 1
            next = omega arith

            onward : judged_lines text (take count lines ++ (entry ∷ [])) (place + suc (length line)) others
                ≡ judged_lines text (take (count + 1) (set lines count entry)) (place + until_newline left + 1) (lines_of (drop (place + until_newline left + 1) text))
            onward =
                ap (λ es. judged_lines text es (place + suc (length line)) others) (sym (take-suc-set lines count entry (omega (arith, k, u.full))) ∙ ap (λ c. take c (set lines count entry)) (sym (add-one count)))
                ∙ ap (λ n. judged_lines text (take (count + 1) (set lines count entry)) (place + suc n) others) long
                ∙ ap (λ s. judged_lines text (take (count + 1) (set lines count entry)) (place + suc (until_newline left)) (lines_of s)) (drop-drop (suc (until_newline left)) place text)
                ∙ ap (λ p. judged_lines text (take (count + 1) (set lines count entry)) p (lines_of (drop p text))) next

-- a turn of the loop, as the code says it: n bytes up to the end of the line, and what was answered of the line and of its name
module _
    (text : Bytes) (lines : List Entry) (count place : ℕ) (u : Upto text lines count place) (h : place < length text)
    (n : ℕ) (un : n ≡ until_newline (take (length text - place) (drop place text)))
  where
    until_is : n ≡ until_newline (drop place text)
    until_is = un ∙ ap until_newline (from_place text place)

    pub line_within : place + n ≤ length text
    line_within = omega (arith, until_is, until_within (drop place text), length-drop place text, h)

    part_is : take (place + n - place) (drop place text) ≡ take (until_newline (drop place text)) (drop place text)
    part_is = let e : place + n - place ≡ n = omega arith in ap (λ k. take k (drop place text)) (e ∙ until_is)

    module _ (k : count < 256) (r : Option Entry) (e : r ≡ entry_at place (take (place + n - place) (drop place text))) where
      there : entry_at place (take (until_newline (drop place text)) (drop place text)) ≡ r
      there = sym (e ∙ ap (entry_at place) part_is)

      pub line_malformed : r ≡ None → Err (Malformed (count + 1)) ≡ sheet_read text
      line_malformed q = malformed_line text lines count place u h k (there ∙ q)

      module _ (entry : Entry) (q : r ≡ Some entry) where
        of_line : Reads place (take (until_newline (drop place text)) (drop place text)) entry
        of_line = entry_reads place (take (until_newline (drop place text)) (drop place text)) entry (there ∙ q)

        pub name_short : place + entry.length ≤ length text
        name_short =
            omega
            (arith, of_line.long, name_within (take (until_newline (drop place text)) (drop place text)), length-take-le (until_newline (drop place text)) (drop place text) (until_within (drop place text)), until_is, line_within)

        module _ {a : Option Value} (f : a ≡ question (record { lines = lines; count = count }) text (take (place + entry.length - place) (drop place text))) where
          asked : first_named text (name_in text entry) (take count lines) ≡ a
          unfolding question name_in
          asked = let e : place + entry.length - place ≡ entry.length = omega arith in ap (λ w. first_named text w (take count lines)) (ap₂ (λ m p. take m (drop p text)) (sym e) of_line.at) ∙ sym f

          pub line_twice : is_some a ≡ true → Err (Twice (count + 1)) ≡ sheet_read text
          line_twice g = let v = some_is a g in given_twice text lines count place u h k entry (there ∙ q) v.0 (asked ∙ v.1)

          pub line_read : is_some a ≡ false → Upto text (set lines count entry) (count + 1) (place + n + 1)
          line_read g = rw until_is (one_more text lines count place u h k entry (there ∙ q) (asked ∙ none_is a g))

-- ---- what `?` and `ok_or` told

pub passed : {T : Type 0} (r : Result T SheetError) (e : SheetError) → IsErrAnd r (λ x. x ≡ e) → r ≡ Err e
passed r e h = let p = err_from_is_err_and r h in p.1 ∙ ap Err p.2

pub absent : {T : Type 0} (o : Option T) (e x : SheetError) → ◌≡◌ {A = Result T SheetError} (Err x) (ok_or o e) → (o ≡ None) × (x ≡ e)
absent None e x h = let f : x ≡ e = cc in (refl, f)
absent (Some y) e x h = let w : ◌≡◌ {A = ℕ} 0 1 = cc in absurd (omega arith)

pub present : {T : Type 0} (o : Option T) (e : SheetError) (y : T) → ◌≡◌ {A = Result T SheetError} (Ok y) (ok_or o e) → o ≡ Some y
present None e y h = let w : ◌≡◌ {A = ℕ} 0 1 = cc in absurd (omega arith)
present (Some z) e y h = cc

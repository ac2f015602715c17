-- Laws of sheets: where the lines of a text stand, and what a question of a sheet that was read from its text answers. Assumes nothing.
use Rattle.rules.proofs.Base.{◌≤◌, ◌+◌, ℕ, ◌-◌, ◌<◌, suc, ◌∙◌, refl, sym, ap, ◌≡◌, subst, subst₂, true, Bool, false, ◌&&◌, Some, None, Option, Result, Ok, Err, List, [], ◌∷◌, ◌++◌, arith, add-zero, add-one, eqb, leb, ltb, le-leb, length, take, drop, length-drop, take-take, drop-drop, take_at, zero-add, drop_of_length-le, leb-true, leb-false, suc-le-suc, replicate}
use Rattle.rules.specs.declared.Value.{Value}
use Rattle.rules.specs.declared.Entry.{Entry}
use Rattle.rules.specs.declared.Sheet.{Sheet}
use Rattle.rules.specs.declared.SheetError.{SheetError}
use Rattle.rules.specs.declared.SheetError.TheVariants.{Malformed, Twice, TooMany}
use Rattle.rules.specs.Bytes.{Bytes, same_bytes, continues_name, name_length, is_name}
use Rattle.rules.specs.Sheets.{in_first_line, lines_of, value_at, entry_of, behind_name, entry_at, name_in, is_named, first_named, question, unused_line, most_lines, judged_lines, sheet_of, sheet_judged, sheet_read, line_name, line_value, line_named, line_start, Answered}
use Rattle.rules.proofs.SameBytes.{same_self}

-- ---- where lines stand

-- the first line of a text, and what stands behind it
pub record FirstLine (text l : Bytes) (ls : List Bytes) : Type 0 where
  pub within : length l ≤ length text
  pub is : take (length l) text ≡ l
  pub behind : lines_of (drop (suc (length l)) text) ≡ ls

no_lines : (text : Bytes) → lines_of text ≡ [] → text ≡ []
unfolding lines_of in_first_line
no_lines [] e = refl
no_lines (x ∷ xs) e = go (eqb x 10) (lines_of xs) e
  where
    go : (t : Bool) (ms : List Bytes) → ◌≡◌ {A = List Bytes} (elim t [ true ↦ [] ∷ ms | false ↦ in_first_line x ms ]) [] → ◌≡◌ {A = Bytes} (x ∷ xs) []
    go true ms k = let w : ◌≡◌ {A = ℕ} 0 1 = cc in absurd (omega arith)
    go false [] k = let w : ◌≡◌ {A = ℕ} 0 1 = cc in absurd (omega arith)
    go false (m ∷ ms) k = let w : ◌≡◌ {A = ℕ} 0 1 = cc in absurd (omega arith)

module _ (x : ℕ) (xs : Bytes) where
  line_ends : FirstLine (x ∷ xs) [] (lines_of xs)
  line_ends = record { within = omega arith; is = refl; behind = refl }

  line_alone : xs ≡ [] → FirstLine (x ∷ xs) (x ∷ []) []
  unfolding lines_of
  line_alone e = rw e (record { within = omega arith; is = refl; behind = refl })

  line_longer : {m : Bytes} {ms : List Bytes} → FirstLine xs m ms → FirstLine (x ∷ xs) (x ∷ m) ms
  line_longer r = record { within = suc-le-suc r.within; is = ap (λ l. x ∷ l) r.is; behind = r.behind }

pub first_line : (text : Bytes) (l : Bytes) (ls : List Bytes) → lines_of text ≡ l ∷ ls → FirstLine text l ls
unfolding lines_of in_first_line
first_line [] l ls e = let w : ◌≡◌ {A = ℕ} 0 1 = cc in absurd (omega arith)
first_line (x ∷ xs) l ls e = go (first_line xs) (eqb x 10) e
  where
    joined : ((m : Bytes) (ms : List Bytes) → lines_of xs ≡ m ∷ ms → FirstLine xs m ms) → (ms : List Bytes) → lines_of xs ≡ ms → in_first_line x ms ≡ l ∷ ls → FirstLine (x ∷ xs) l ls
    joined ih [] f k =
        let el : x ∷ [] ≡ l = cc in
        let es : [] ≡ ls = cc in
        subst₂ (FirstLine (x ∷ xs)) el es (line_alone x xs (no_lines xs f))
    joined ih (m ∷ ms) f k =
        let el : x ∷ m ≡ l = cc in
        let es : ms ≡ ls = cc in
        subst₂ (FirstLine (x ∷ xs)) el es (line_longer x xs (ih m ms f))

    go : ((m : Bytes) (ms : List Bytes) → lines_of xs ≡ m ∷ ms → FirstLine xs m ms) → (t : Bool) → elim t [ true ↦ [] ∷ lines_of xs | false ↦ in_first_line x (lines_of xs) ] ≡ l ∷ ls → FirstLine (x ∷ xs) l ls
    go ih true k =
        let el : [] ≡ l = cc in
        let es : lines_of xs ≡ ls = cc in
        subst₂ (FirstLine (x ∷ xs)) el es (line_ends x xs)
    go ih false k = joined ih (lines_of xs) refl k

-- ---- a line that was read

-- a line e of the sheet that is the line l at a place of the text
pub record Reads (place : ℕ) (l : Bytes) (e : Entry) : Type 0 where
  pub at : e.name ≡ place
  pub long : e.length ≡ name_length l
  pub value_is : value_at (suc (place + name_length l)) (drop (suc (name_length l)) l) ≡ Some e.value

pub name_within : (l : Bytes) → name_length l ≤ length l
unfolding name_length
name_within [] = omega arith
name_within (x ∷ xs) = go (continues_name x) (name_within xs)
  where
    go : (t : Bool) → name_length xs ≤ length xs → elim t [ true ↦ suc (name_length xs) | false ↦ 0 ] ≤ suc (length xs)
    go true h = suc-le-suc h
    go false h = omega arith

behind_byte : (l : Bytes) (n x : ℕ) (w : Bytes) → drop n l ≡ x ∷ w → drop (suc n) l ≡ w
behind_byte l n x w d = ap (λ k. drop k l) (sym (add-one n)) ∙ sym (drop-drop 1 n l) ∙ ap (drop 1) d

pub entry_reads : (place : ℕ) (l : Bytes) (e : Entry) → entry_at place l ≡ Some e → Reads place l e
unfolding entry_at behind_name entry_of
entry_reads place l e k = by_name (is_name (take (name_length l) l)) k
  where
    by_value : (o : Option Value) → entry_of place (name_length l) o ≡ Some e → value_at (suc (place + name_length l)) (drop (suc (name_length l)) l) ≡ o → Reads place l e
    by_value None q v = let w : ◌≡◌ {A = ℕ} 0 1 = cc in absurd (omega arith)
    by_value (Some y) q v =
        let f : record { name = place; length = name_length l; value = y } ≡ e = cc in
        record { at = sym (ap (λ (r : Entry). r.name) f); long = sym (ap (λ (r : Entry). r.length) f); value_is = v ∙ ap (λ (r : Entry). Some r.value) f }

    by_byte : (x : ℕ) (w : Bytes) → drop (name_length l) l ≡ x ∷ w → (o : Option Value) (t : Bool) → elim t [ true ↦ entry_of place (name_length l) o | false ↦ None ] ≡ Some e → value_at (suc (place + name_length l)) w ≡ o → Reads place l e
    by_byte x w d o true q v = by_value o q (ap (value_at (suc (place + name_length l))) (behind_byte l (name_length l) x w d) ∙ v)
    by_byte x w d o false q v = let w : ◌≡◌ {A = ℕ} 0 1 = cc in absurd (omega arith)

    by_rest : (w : Bytes) → drop (name_length l) l ≡ w → behind_name place (name_length l) w ≡ Some e → Reads place l e
    by_rest [] d q = let w : ◌≡◌ {A = ℕ} 0 1 = cc in absurd (omega arith)
    by_rest (x ∷ w) d q = by_byte x w d _ (eqb x 61) q refl

    by_name : (t : Bool) → elim t [ true ↦ behind_name place (name_length l) (drop (name_length l) l) | false ↦ None ] ≡ Some e → Reads place l e
    by_name true q = by_rest (drop (name_length l) l) refl q
    by_name false q = let w : ◌≡◌ {A = ℕ} 0 1 = cc in absurd (omega arith)

-- its name in the text, where the line stands there
module _ (text : Bytes) (place : ℕ) (l : Bytes) (h : place + length l ≤ length text) (t : take (length l) (drop place text) ≡ l) (e : Entry) (r : Reads place l e) where
  name_is : name_in text e ≡ line_name l
  unfolding name_in line_name
  name_is = rw (r.at, r.long) (sym (take-take (name_length l) (length l) (drop place text) (name_within l)) ∙ ap (take (name_length l)) t)

  named_is : (name : Bytes) → is_named text name e ≡ same_bytes (line_name l) name
  unfolding is_named
  named_is name = ap (λ b. b && same_bytes (name_in text e) name) inside ∙ ap (λ w. same_bytes w name) name_is
    where
      inside : leb (e.name + e.length) (length text) ≡ true
      inside = rw (r.at, r.long) (le-leb (place + name_length l) (length text) (omega (arith, name_within l)))

  value_of : Some e.value ≡ line_value place l
  unfolding line_value
  value_of = rw (line_value, r.value_is)

-- ---- lines that were judged good

-- the first of two answers that is one
unfoldable or_else : Option Value → Option Value → Option Value
or_else None b = b
or_else (Some v) b = Some v

or_absent : (a : Option Value) → or_else a None ≡ a
unfolding or_else
or_absent None = refl
or_absent (Some v) = refl

or_or : (a b c : Option Value) → or_else (or_else a b) c ≡ or_else a (or_else b c)
unfolding or_else
or_or None b c = refl
or_or (Some v) b c = refl

module _ (text name : Bytes) where
  named-append : (es fs : List Entry) → first_named text name (es ++ fs) ≡ or_else (first_named text name es) (first_named text name fs)
  unfolding first_named or_else
  named-append [] fs = refl
  named-append (e ∷ es) fs = go (is_named text name e) (named-append es fs)
    where
      go : (t : Bool) → first_named text name (es ++ fs) ≡ or_else (first_named text name es) (first_named text name fs)
          → elim t [ true ↦ Some e.value | false ↦ first_named text name (es ++ fs) ] ≡ or_else (elim t [ true ↦ Some e.value | false ↦ first_named text name es ]) (first_named text name fs)
      go true ih = refl
      go false ih = ih

-- the first of the lines that are left was read, and the others behind it
record Went (text : Bytes) (es : List Entry) (place : ℕ) (l : Bytes) (ls : List Bytes) (fs : List Entry) : Type 0 where
  pub line : Entry
  pub reads : Reads place l line
  pub first : first_named text (name_in text line) es ≡ None
  pub others : judged_lines text (es ++ (line ∷ [])) (place + suc (length l)) ls ≡ Ok fs

went : (text : Bytes) (es : List Entry) (place : ℕ) (l : Bytes) (ls : List Bytes) (fs : List Entry) → judged_lines text es place (l ∷ ls) ≡ Ok fs → Went text es place l ls fs
unfolding judged_lines
went text es place l ls fs h = by_count (ltb (length es) 256) _ h refl
  where
    by_name : (e : Entry) → entry_at place l ≡ Some e → (a : Option Value) → first_named text (name_in text e) es ≡ a → (bad : Result (List Entry) SheetError)
        → ◌≡◌ {A = Result (List Entry) SheetError} (elim a [ Some v ↦ bad | None ↦ judged_lines text (es ++ (e ∷ [])) (place + suc (length l)) ls ]) (Ok fs)
        → (bad ≡ Ok fs → ◌≡◌ {A = ℕ} 0 1) → Went text es place l ls fs
    by_name e k None a bad q n = record { line = e; reads = entry_reads place l e k; first = a; others = q }
    by_name e k (Some v) a bad q n = let w : ◌≡◌ {A = ℕ} 0 1 = n q in absurd (omega arith)

    given_twice : (bad : Result (List Entry) SheetError) → bad ≡ Err (Twice (suc (length es))) → bad ≡ Ok fs → ◌≡◌ {A = ℕ} 0 1
    given_twice bad t q = cc

    by_line : (o : Option Entry) → entry_at place l ≡ o → (bad : Result (List Entry) SheetError)
        → ◌≡◌ {A = Result (List Entry) SheetError} (elim o [ None ↦ Err (Malformed (suc (length es))) | Some e ↦ elim (first_named text (name_in text e) es) [ Some v ↦ bad | None ↦ judged_lines text (es ++ (e ∷ [])) (place + suc (length l)) ls ] ]) (Ok fs)
        → bad ≡ Err (Twice (suc (length es))) → Went text es place l ls fs
    by_line None k bad q t = let w : ◌≡◌ {A = ℕ} 0 1 = cc in absurd (omega arith)
    by_line (Some e) k bad q t = by_name e k (first_named text (name_in text e) es) refl bad q (given_twice bad t)

    by_count : (t : Bool) (bad : Result (List Entry) SheetError)
        → ◌≡◌ {A = Result (List Entry) SheetError} (elim t [ false ↦ Err (TooMany (suc (length es))) | true ↦ elim (entry_at place l) [ None ↦ Err (Malformed (suc (length es))) | Some e ↦ elim (first_named text (name_in text e) es) [ Some v ↦ bad | None ↦ judged_lines text (es ++ (e ∷ [])) (place + suc (length l)) ls ] ] ]) (Ok fs)
        → bad ≡ Err (Twice (suc (length es))) → Went text es place l ls fs
    by_count true bad q t = by_line (entry_at place l) refl bad q t
    by_count false bad q t = let w : ◌≡◌ {A = ℕ} 0 1 = cc in absurd (omega arith)

module _ (text : Bytes) where
  -- where the first of the lines from a place on stands, and the others
  module _ (place : ℕ) (l : Bytes) (ls : List Bytes) (g : lines_of (drop place text) ≡ l ∷ ls) where
    before_end : place < length text
    unfolding lines_of
    before_end = go (leb (length text) place) refl
      where
        none_there : drop place text ≡ [] → ◌≡◌ {A = List Bytes} [] (l ∷ ls)
        none_there d = sym (ap lines_of d) ∙ g

        go : (t : Bool) → leb (length text) place ≡ t → place < length text
        go true e = let k = none_there (drop_of_length-le text (leb-true (length text) place e)) in let w : ◌≡◌ {A = ℕ} 0 1 = cc in absurd (omega arith)
        go false e = leb-false (length text) place e

    first_there : FirstLine (drop place text) l ls
    first_there = first_line (drop place text) l ls g

    within_text : place + length l ≤ length text
    within_text = omega (arith, before_end, first_there.within, length-drop place text)

    others_there : lines_of (drop (place + suc (length l)) text) ≡ ls
    others_there = ap lines_of (sym (drop-drop (suc (length l)) place text)) ∙ first_there.behind

    module _ (es fs : List Entry) (h : judged_lines text es place (l ∷ ls) ≡ Ok fs) where
      abbrev w : Went text es place l ls fs
      w = went text es place l ls fs h

      line_named_lem : (name : Bytes) → is_named text name w.line ≡ same_bytes (line_name l) name
      line_named_lem name = named_is text place l within_text first_there.is w.line w.reads name

      line_value_lem : Some w.line.value ≡ line_value place l
      line_value_lem = value_of text place l within_text first_there.is w.line w.reads

      -- the search through the lines of the sheet goes on as that through the text
      goes_on : (name : Bytes) → or_else (first_named text name (w.line ∷ [])) (line_named name (place + suc (length l)) ls) ≡ line_named name place (l ∷ ls)
      unfolding first_named line_named or_else
      goes_on name = rw (first_named, line_named_lem name) (go (same_bytes (line_name l) name))
        where
          go : (t : Bool)
              → or_else (elim t [ true ↦ Some w.line.value | false ↦ None ]) (line_named name (place + suc (length l)) ls)
              ≡ elim t [ true ↦ line_value place l | false ↦ line_named name (place + suc (length l)) ls ]
          go true = line_value_lem
          go false = refl

  by_lines : (name : Bytes) (es : List Entry) (place : ℕ) (ls : List Bytes) (fs : List Entry) → lines_of (drop place text) ≡ ls → judged_lines text es place ls ≡ Ok fs
      → first_named text name fs ≡ or_else (first_named text name es) (line_named name place ls)
  unfolding judged_lines line_named
  by_lines name es place [] fs g h = let e : es ≡ fs = cc in ap (first_named text name) (sym e) ∙ sym (or_absent (first_named text name es))
  by_lines name es place (l ∷ ls) fs g h =
      by_lines name (es ++ ((w place l ls g es fs h).line ∷ [])) (place + suc (length l)) ls fs (others_there place l ls g) (w place l ls g es fs h).others
      ∙ ap (λ a. or_else a (line_named name (place + suc (length l)) ls)) (named-append text name es ((w place l ls g es fs h).line ∷ []))
      ∙ or_or (first_named text name es) (first_named text name ((w place l ls g es fs h).line ∷ [])) (line_named name (place + suc (length l)) ls)
      ∙ ap (or_else (first_named text name es)) (goes_on place l ls g es fs h name)

  of_line : (before after : List Bytes) (l : Bytes) (es : List Entry) (place : ℕ) (fs : List Entry) → lines_of (drop place text) ≡ before ++ (l ∷ after)
      → judged_lines text es place (before ++ (l ∷ after)) ≡ Ok fs → first_named text (line_name l) fs ≡ line_value (place + line_start before) l
  unfolding line_start first_named or_else
  of_line [] after l es place fs g h =
      by_lines (line_name l) (es ++ ((w place l after g es fs h).line ∷ [])) (place + suc (length l)) after fs (others_there place l after g) (w place l after g es fs h).others
      ∙ ap (λ a. or_else a (line_named (line_name l) (place + suc (length l)) after)) first
      ∙ line_value_lem place l after g es fs h
      ∙ ap (λ k. line_value k l) (sym (add-zero place))
    where
      unnamed : first_named text (line_name l) es ≡ None
      unnamed = ap (λ n. first_named text n es) (sym (name_is text place l (within_text place l after g) (first_there place l after g).is (w place l after g es fs h).line (w place l after g es fs h).reads)) ∙ (w place l after g es fs h).first

      first : first_named text (line_name l) (es ++ ((w place l after g es fs h).line ∷ [])) ≡ Some (w place l after g es fs h).line.value
      first = named-append text (line_name l) es ((w place l after g es fs h).line ∷ []) ∙ rw (unnamed, first_named, line_named_lem place l after g es fs h (line_name l), same_self (line_name l))
  of_line (b ∷ bs) after l es place fs g h =
      of_line bs after l (es ++ ((w place b (bs ++ (l ∷ after)) g es fs h).line ∷ [])) (place + suc (length b)) fs (others_there place b (bs ++ (l ∷ after)) g) (w place b (bs ++ (l ∷ after)) g es fs h).others
      ∙ ap (λ k. line_value k l) (omega arith)

-- all lines of a sheet are below its count
module _ (fs : List Entry) (text name : Bytes) where
  of_sheet : question (sheet_of fs) text name ≡ first_named text name fs
  unfolding question sheet_of
  of_sheet = ap (first_named text name) (take_at fs (replicate (most_lines - length fs) unused_line) (length fs) refl)

pub answered : (text : Bytes) (s : Sheet) → sheet_read text ≡ Ok s → Answered text s
unfolding sheet_read sheet_judged first_named or_else
answered text s = go (judged_lines text [] 0 (lines_of text)) refl
  where
    go : (j : Result (List Entry) SheetError) → judged_lines text [] 0 (lines_of text) ≡ j → sheet_judged j ≡ Ok s → Answered text s
    go (Ok fs) h e =
        let is : sheet_of fs ≡ s = cc in
        subst (Answered text) is
        record {
          by_name = λ name. of_sheet fs text name ∙ by_lines text name [] 0 (lines_of text) fs refl h;
          of_line = λ before after l g. of_sheet fs text (line_name l) ∙ of_line text before after l [] 0 fs g (ap (judged_lines text [] 0) (sym g) ∙ h) ∙ ap (λ k. line_value k l) (zero-add (line_start before));
        }
    go (Err r) h e = let w : ◌≡◌ {A = ℕ} 0 1 = cc in absurd (omega arith)

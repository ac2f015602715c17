-- The sheet: 02, request 4 "The sheet itself". What a text says when it is read as a sheet, what expanding and reading promises, and what a question by
-- name answers.
use Rattle.std.specs.Prelude.{ℕ, suc, ◌+◌, ◌-◌, ◌^◌, ◌≡◌, Bool, true, false, ◌&&◌, List, [], ◌∷◌, ◌++◌, leb, ltb, eqb, Float, pos, length, take, drop, replicate, Option, None, Some, Result, Ok, Err}
use Prim.Native.Char.{code}
use Rattle.std.specs.Float.{binary64}
use Rattle.std.specs.Float.Ieee.{of_int, div, neg}
use Rattle.rules.specs.declared.Value.{Value}
use Rattle.rules.specs.declared.Value.TheVariants as value
use Rattle.rules.specs.declared.Entry.{Entry}
use Rattle.rules.specs.declared.Sheet.{Sheet}
use Rattle.rules.specs.declared.SheetError.{SheetError}
use Rattle.rules.specs.declared.SheetError.TheVariants.{Malformed, Twice, TooMany, NotDone}
use Rattle.rules.specs.declared.SheetReport.{SheetReport}
use Rattle.rules.specs.Bytes.{Bytes, same_bytes, is_digit, name_length, is_name}
use Rattle.rules.specs.Answers.{answer_number, answer_detail}
use Rattle.rules.specs.Numerals.{natural, number}
use Rattle.rules.specs.Run.{Ended}
use Rattle.rules.specs.Contract.{Buffers, output_of, report_of, left_by, run_in}

-- how many bytes at the front pass a test
unfoldable pub front_length : (ℕ → Bool) → Bytes → ℕ
front_length test [] = 0
front_length test (x ∷ xs) = elim (test x) [ true ↦ suc (front_length test xs) | false ↦ 0 ]

-- ---- lines

-- the byte x in front of a text that has the lines ls, where x is no newline: it is the first of the first line, or of a line of its own
unfoldable pub in_first_line : ℕ → List Bytes → List Bytes
in_first_line x [] = (x ∷ []) ∷ []
in_first_line x (l ∷ ls) = (x ∷ l) ∷ ls

-- "A sheet is lines: .. newline", each without its newline. "Bytes after the last newline are a line too and need none"; so no byte is no line
unfoldable pub lines_of : Bytes → List Bytes
lines_of [] = []
lines_of (x ∷ xs) = elim (eqb x (code "\n")) [ true ↦ [] ∷ lines_of xs | false ↦ in_first_line x (lines_of xs) ]

-- ---- decimals

-- "its value, to the bit, is the digits as a whole number, in f64, divided once by ten to the count of digits after the point"
unfoldable pub quotient : ℕ → ℕ → Float
quotient digits places = div binary64 (of_int binary64 (pos digits)) (of_int binary64 (pos (10 ^ places)))

unfoldable pub quotient_of : ℕ → Option ℕ → Option Float
quotient_of places None = None
quotient_of places (Some digits) = Some (quotient digits places)

-- "one or more digits, a point, one or more digits, at most 15 digits in all": those before the point and those behind it
unfoldable pub fraction : Bytes → Bytes → Option Float
fraction [] part = None
fraction (x ∷ xs) [] = None
fraction (x ∷ xs) (y ∷ ys) =
    elim (leb (length ((x ∷ xs) ++ (y ∷ ys))) 15) [ true ↦ quotient_of (length (y ∷ ys)) (natural 10 ((x ∷ xs) ++ (y ∷ ys))) | false ↦ None ]

-- how many digits stand at the front
unfoldable pub digit_count : Bytes → ℕ
digit_count w = front_length is_digit w

-- what stands behind the digits: the point, and more
unfoldable pub pointed : Bytes → Bytes → Option Float
pointed whole [] = None
pointed whole (x ∷ part) = elim (eqb x (code ".")) [ true ↦ fraction whole part | false ↦ None ]

unfoldable pub unsigned_decimal : Bytes → Option Float
unsigned_decimal w = pointed (take (digit_count w) w) (drop (digit_count w) w)

unfoldable pub negated : Option Float → Option Float
negated None = None
negated (Some x) = Some (neg x)

-- "A decimal has an optional minus"; "then negated if there was a minus": so -0.0 has its sign
unfoldable pub decimal_value : Bytes → Option Float
decimal_value [] = None
decimal_value (x ∷ xs) = elim (eqb x (code "-")) [ true ↦ negated (unsigned_decimal xs) | false ↦ unsigned_decimal (x ∷ xs) ]

-- ---- readings

-- "or a word shaped like a name", of a word at a place
unfoldable pub word_value : ℕ → Bytes → Option Value
word_value place w = elim (is_name w) [ true ↦ Some (value.Word place (length w)) | false ↦ None ]

unfoldable pub decimal_or : Option Value → Option Float → Option Value
decimal_or other None = other
decimal_or other (Some x) = Some (value.Decimal x)

-- "A reading is a number as 01 has it, a decimal length or gain, or a word shaped like a name": the bytes w, which stand at a place of the text
unfoldable pub value_at : ℕ → Bytes → Option Value
value_at place w = elim (number w) [ None ↦ decimal_or (word_value place w) (decimal_value w) | Some z ↦ Some (value.Number z) ]

-- the line of a name of n bytes at a place, with its reading
unfoldable pub entry_of : ℕ → ℕ → Option Value → Option Entry
entry_of place n None = None
entry_of place n (Some v) = Some (record { name = place; length = n; value = v })

-- what stands behind a name of n bytes: `=` and the reading
unfoldable pub behind_name : ℕ → ℕ → Bytes → Option Entry
behind_name place n [] = None
behind_name place n (x ∷ w) = elim (eqb x (code "=")) [ true ↦ entry_of place n (value_at (suc (place + n)) w) | false ↦ None ]

-- "a name, `=`, a reading": the line l, which stands at a place of the text
unfoldable pub entry_at : ℕ → Bytes → Option Entry
entry_at place l = elim (is_name (take (name_length l) l)) [ true ↦ behind_name place (name_length l) (drop (name_length l) l) | false ↦ None ]

-- ---- a question by name

-- the bytes of a line's name, in any text
unfoldable pub name_in : Bytes → Entry → Bytes
name_in text e = take e.length (drop e.name text)

-- the name of a line lies in the text, and has these bytes
unfoldable pub is_named : Bytes → Bytes → Entry → Bool
is_named text name e = leb (e.name + e.length) (length text) && same_bytes (name_in text e) name

-- the reading of the first line with a name
unfoldable pub first_named : Bytes → Bytes → List Entry → Option Value
first_named text name [] = None
first_named text name (e ∷ es) = elim (is_named text name e) [ true ↦ Some e.value | false ↦ first_named text name es ]

-- "A question by name, of a sheet and its written text, returns its reading or `absent`": of any sheet and any text, by the lines below its count
unfoldable pub question : Sheet → Bytes → Bytes → Option Value
question s text name = first_named text name (take s.count s.lines)

-- ---- the lines of a text, judged

abbrev pub most_lines : ℕ
most_lines = 256

-- the lines ls of a text, the first of them at a place, behind those that gave es: "the first bad line counts, judged 22, 20, 21", "with the line number
-- as detail"
unfoldable pub judged_lines : Bytes → List Entry → ℕ → List Bytes → Result (List Entry) SheetError
judged_lines text es place [] = Ok es
judged_lines text es place (l ∷ ls) =
    elim (ltb (length es) most_lines) [
      | false ↦ Err (TooMany (suc (length es)))
      | true ↦ elim (entry_at place l) [
        | None ↦ Err (Malformed (suc (length es)))
        | Some e ↦ elim (first_named text (name_in text e) es) [
          | Some v ↦ Err (Twice (suc (length es)))
          | None ↦ judged_lines text (es ++ (e ∷ [])) (place + suc (length l)) ls
        ]
      ]
    ]

-- ---- the sheet

-- a line that is not used: no name, and the number 0
abbrev pub unused_line : Entry
unused_line = record { name = 0; length = 0; value = value.Number (pos 0) }

-- the sheet of so many lines; those behind them are not used
unfoldable pub sheet_of : List Entry → Sheet
sheet_of es = record { lines = es ++ replicate (most_lines - length es) unused_line; count = length es }

-- the lines that were judged good are a sheet
unfoldable pub sheet_judged : Result (List Entry) SheetError → Result Sheet SheetError
sheet_judged (Ok es) = Ok (sheet_of es)
sheet_judged (Err e) = Err e

-- a text, read as a sheet
unfoldable pub sheet_read : Bytes → Result Sheet SheetError
sheet_read text = sheet_judged (judged_lines text [] 0 (lines_of text))

-- a refusal has no line
unfoldable pub sheet_in : Result Sheet SheetError → Sheet
sheet_in (Ok s) = s
sheet_in (Err e) = sheet_of []

-- ---- the numbers of an answer

-- "20 malformed line, 21 name given twice, 22 a 257th line"
unfoldable pub sheet_number : {T : Type 0} → Result T SheetError → ℕ
sheet_number (Ok s) = 0
sheet_number (Err (Malformed line)) = 20
sheet_number (Err (Twice line)) = 21
sheet_number (Err (TooMany line)) = 22
sheet_number (Err (NotDone a)) = answer_number a

unfoldable pub sheet_detail : {T : Type 0} → Result T SheetError → ℕ
sheet_detail (Ok s) = 0
sheet_detail (Err (Malformed line)) = line
sheet_detail (Err (Twice line)) = line
sheet_detail (Err (TooMany line)) = line
sheet_detail (Err (NotDone a)) = answer_detail a

-- ---- expanding and reading

-- "A run that did not end done gives no sheet at all, only its answer"
unfoldable pub sheet_after : Ended → Result Sheet SheetError
sheet_after e = elim (eqb (answer_number e.answer) 0) [ true ↦ sheet_read (output_of e) | false ↦ Err (NotDone e.answer) ]

-- "all else .. as after done": steps, place and the two counts are those of the run
unfoldable pub sheet_report_of : Ended → SheetReport
sheet_report_of e =
    record {
      answer = sheet_after e;
      steps = (report_of e).steps;
      place = (report_of e).place;
      output = (report_of e).output;
      errors = (report_of e).errors;
    }

-- a text is expanded, with a set, and what is written is read as a sheet: r is the report, `after` what the buffers then hold, "the written text too, as
-- after done, unlike demand 1"
pub record SheetExpanded (text set : Bytes) (budget : ℕ) (before after : Buffers) (r : SheetReport) : Type 0 where
  pub report : r ≡ sheet_report_of (run_in text set before budget)
  pub buffers : after ≡ left_by (run_in text set before budget) before

-- ---- a question, by the lines of the text

-- the name of a line
unfoldable pub line_name : Bytes → Bytes
line_name l = take (name_length l) l

-- the reading of a line that stands at a place of the text: what is behind the name and `=`
unfoldable pub line_value : ℕ → Bytes → Option Value
line_value place l = value_at (suc (place + name_length l)) (drop (suc (name_length l)) l)

-- the reading of the line with a name, of lines from a place on
unfoldable pub line_named : Bytes → ℕ → List Bytes → Option Value
line_named name place [] = None
line_named name place (l ∷ ls) = elim (same_bytes (line_name l) name) [ true ↦ line_value place l | false ↦ line_named name (place + suc (length l)) ls ]

-- the place behind lines and their newlines
unfoldable pub line_start : List Bytes → ℕ
line_start [] = 0
line_start (l ∷ ls) = suc (length l) + line_start ls

-- a question of a sheet that was read from its text: `by_name` is the reading of the line with that name, and each line has a name of its own
-- (`of_line`), whatever lines stand before it and behind it
pub record Answered (text : Bytes) (s : Sheet) : Type 0 where
  pub by_name : (name : Bytes) → question s text name ≡ line_named name 0 (lines_of text)
  pub of_line : (before after : List Bytes) (l : Bytes) → lines_of text ≡ before ++ (l ∷ after) → question s text (line_name l) ≡ line_value (line_start before) l

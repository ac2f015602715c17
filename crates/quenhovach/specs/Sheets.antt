-- The sheet in numbers, as C has it.
use Rattle.std.specs.Prelude.{ℕ, zero, suc, ◌+◌, ◌*◌, ◌<◌, ◌≡◌, true, false, ◌&&◌, List, [], ◌∷◌, ◌++◌, ltb, get_or, Some, None}
use Rattle.std.specs.Float.{binary64}
use Rattle.std.specs.Float.Ieee.{to_bits}
use Rattle.rules.specs.declared.Value.{Value}
use Rattle.rules.specs.declared.Value.TheVariants as value
use Rattle.rules.specs.declared.Entry.{Entry}
use Rattle.rules.specs.declared.Sheet.{Sheet}
use Rattle.rules.specs.declared.SheetReport.{SheetReport}
use Rattle.rules.specs.Bytes.{Bytes}
use Rattle.rules.specs.Words.{wrapped}
use Rattle.rules.specs.Contract.{Buffers, left_by, run_in}
use Rattle.rules.specs.Sheets.{unused_line, is_named, question, most_lines, sheet_read, sheet_in, sheet_number, sheet_detail, sheet_report_of}

-- kind, value and length of a reading: the number's 32 bits, the decimal's 64, or a word's place and length
unfoldable pub value_words : Value → List ℕ
value_words (value.Number z) = 1 ∷ wrapped z ∷ 0 ∷ []
value_words (value.Decimal x) = 2 ∷ to_bits binary64 x ∷ 0 ∷ []
value_words (value.Word place n) = 3 ∷ place ∷ n ∷ []

-- a line: place and length of its name, and its reading
unfoldable pub line_words : Entry → List ℕ
line_words e = e.name ∷ e.length ∷ value_words e.value

unfoldable pub lines_words : List Entry → List ℕ
lines_words [] = []
lines_words (e ∷ es) = line_words e ++ lines_words es

-- a sheet: the count of its lines, then all of them, those that are not used too
unfoldable pub sheet_words : Sheet → List ℕ
sheet_words s = s.count ∷ lines_words s.lines

-- the six numbers of a report
unfoldable pub sheet_numbers : SheetReport → List ℕ
sheet_numbers r = sheet_number r.answer ∷ sheet_detail r.answer ∷ r.steps ∷ r.place ∷ r.output ∷ r.errors ∷ []

-- a text is expanded and read: n is what is given back, `report` the six numbers, `words` the sheet, `after` what the buffers then hold
pub record SheetInWords (text set : Bytes) (budget : ℕ) (before after : Buffers) (n : ℕ) (report words : List ℕ) : Type 0 where
  pub number_is : n ≡ sheet_number (sheet_report_of (run_in text set before budget)).answer
  pub report_is : report ≡ sheet_numbers (sheet_report_of (run_in text set before budget))
  pub words_are : words ≡ sheet_words (sheet_in (sheet_report_of (run_in text set before budget)).answer)
  pub buffers_are : after ≡ left_by (run_in text set before budget) before

-- a text is read: n is what is given back, `line` the detail
pub record ReadInWords (text : Bytes) (n : ℕ) (words : List ℕ) (line : ℕ) : Type 0 where
  pub number_is : n ≡ sheet_number (sheet_read text)
  pub words_are : words ≡ sheet_words (sheet_in (sheet_read text))
  pub line_is : line ≡ sheet_detail (sheet_read text)

-- place and length of the k-th line's name, by any words
unfoldable pub name_at : List ℕ → ℕ → Entry
name_at words k = record { name = get_or words (1 + k * 5) 0; length = get_or words (2 + k * 5) 0; value = unused_line.value }

-- the first of the lines from the k-th on, of `left` lines, that is below the count and has this name
unfoldable pub found_from : List ℕ → Bytes → Bytes → ℕ → ℕ → ℕ
found_from words text name k zero = most_lines
found_from words text name k (suc left) = elim (ltb k (get_or words 0 0) && is_named text name (name_at words k)) [ true ↦ k | false ↦ found_from words text name (suc k) left ]

-- the first line that is below the count and has this name, by any words and any text; 256 where there is none
unfoldable pub found_line : List ℕ → Bytes → Bytes → ℕ
found_line words text name = found_from words text name 0 most_lines

-- the words are those of a sheet: the line that is found has the reading that a question of the sheet answers, and where none is found it is absent
pub record FindsReading (s : Sheet) (text name : Bytes) (k : ℕ) : Type 0 where
  pub found : k < most_lines → question s text name ≡ Some (get_or s.lines k unused_line).value
  pub absent : k ≡ most_lines → question s text name ≡ None

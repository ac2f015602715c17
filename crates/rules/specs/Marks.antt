-- The quote and comment marks.
use Rattle.std.specs.Prelude.{ℕ, Bool, true, not, ◌&&◌, ◌||◌, [], ◌∷◌, ◌++◌, leb, eqb, length, take}
use Rattle.rules.specs.declared.Mark.{Mark}
use Rattle.rules.specs.declared.Marks.{Marks}
use Rattle.rules.specs.Bytes.{Bytes, is_letter, is_digit, is_underscore, is_blank, same_bytes, left_parenthesis, comma, right_parenthesis}

-- the four marks as texts; an empty begin-comment mark: comments are turned off
pub record MarkTexts : Type 0 where
  pub begin_quote : Bytes
  pub end_quote : Bytes
  pub begin_comment : Bytes
  pub end_comment : Bytes

-- the text of a mark as the code holds it: five bytes with a length
unfoldable pub mark_text : Mark → Bytes
mark_text m = take m.len m.bytes

unfoldable pub mark_texts : Marks → MarkTexts
mark_texts m =
    record {
      begin_quote = mark_text m.begin_quote;
      end_quote = mark_text m.end_quote;
      begin_comment = mark_text m.begin_comment;
      end_comment = mark_text m.end_comment;
    }

abbrev pub newline_mark : Bytes
newline_mark = 10 ∷ []

-- 01 "The quote marks are bytes 0x60 and 0x27"; 004: a comment begins with # and ends with a newline
unfoldable pub default_marks : MarkTexts
default_marks = record { begin_quote = 0x60 ∷ []; end_quote = 0x27 ∷ []; begin_comment = 35 ∷ []; end_comment = newline_mark }

-- 01 "No byte of it may be a letter, digit, underscore, parenthesis, comma, space, tab or newline"
unfoldable pub is_barred : ℕ → Bool
is_barred x = is_letter x || is_digit x || is_underscore x || eqb x left_parenthesis || eqb x right_parenthesis || eqb x comma || is_blank x

unfoldable pub none_barred : Bytes → Bool
none_barred [] = true
none_barred (x ∷ xs) = not (is_barred x) && none_barred xs

-- 01 "A mark is 1 to 5 bytes long", "An empty mark is refused"
unfoldable pub is_mark : Bytes → Bool
is_mark w = leb 1 (length w) && leb (length w) 5 && none_barred w

-- 01 "an end mark may also be a single newline"
unfoldable pub is_end_mark : Bytes → Bool
is_end_mark w = is_mark w || same_bytes w newline_mark

-- a text between the quote marks in force
unfoldable pub quoted : MarkTexts → Bytes → Bytes
quoted m w = m.begin_quote ++ (w ++ m.end_quote)

-- the marks with new quote marks, and with new comment marks
unfoldable pub with_quotes : Bytes → Bytes → MarkTexts → MarkTexts
with_quotes b e m = record { begin_quote = b; end_quote = e; begin_comment = m.begin_comment; end_comment = m.end_comment }

unfoldable pub with_comments : Bytes → Bytes → MarkTexts → MarkTexts
with_comments b e m = record { begin_quote = m.begin_quote; end_quote = m.end_quote; begin_comment = b; end_comment = e }

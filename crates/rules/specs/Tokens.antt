-- Reading a token off the text ahead: 01 "five kinds of token, tried in this order".
use Rattle.std.specs.Prelude.{ℕ, zero, suc, pred, ◌+◌, Bool, true, false, [], ◌∷◌, eqb, length, drop, Option, None, Some}
use Rattle.rules.specs.declared.Token.TheVariants as token
use Rattle.rules.specs.declared.Reading.{Reading}
use Rattle.rules.specs.declared.Reading.TheVariants.{Is, OpenQuote, OpenComment}
use Rattle.rules.specs.Bytes.{Bytes, same_bytes, begins_name, name_length}
use Rattle.rules.specs.Places.{plus_one}
use Rattle.rules.specs.Marks.{MarkTexts, newline_mark}

-- a text stands at the front
unfoldable pub begins_with : Bytes → Bytes → Bool
begins_with [] xs = true
begins_with (m ∷ ms) [] = false
begins_with (m ∷ ms) (x ∷ xs) = elim (eqb m x) [ true ↦ begins_with ms xs | false ↦ false ]

-- a mark stands at the front; an empty one never does
unfoldable pub at_mark : Bytes → Bytes → Bool
at_mark [] xs = false
at_mark (m ∷ ms) xs = begins_with (m ∷ ms) xs

-- where a text first stands
unfoldable pub first_place : Bytes → Bytes → Option ℕ
first_place m [] = elim (begins_with m []) [ true ↦ Some 0 | false ↦ None ]
first_place m (x ∷ xs) = elim (begins_with m (x ∷ xs)) [ true ↦ Some 0 | false ↦ plus_one (first_place m xs) ]

-- where a quote closes, or how many quotes are open at the end
pub data QuoteEnd : Type 0 where
  closes_at : ℕ → QuoteEnd
  left_open : ℕ → QuoteEnd

unfoldable pub end_plus_one : QuoteEnd → QuoteEnd
end_plus_one (closes_at n) = closes_at (suc n)
end_plus_one (left_open d) = left_open d

-- 01 "Inside, the end mark is tried first, then the begin mark, which nests": with `inner` quotes open inside the outermost one, and
-- after `skip` more bytes of a mark that was matched. (How many are open at the end is not in 01: document 02 will ask)
unfoldable pub quote_end : Bytes → Bytes → ℕ → ℕ → Bytes → QuoteEnd
quote_end begin end inner skip [] = left_open (suc inner)
quote_end begin end inner (suc k) (x ∷ xs) = end_plus_one (quote_end begin end inner k xs)
quote_end begin end inner zero (x ∷ xs) =
    elim (begins_with end (x ∷ xs)) [
      | true ↦ elim inner [ zero ↦ closes_at 0 | suc d ↦ end_plus_one (quote_end begin end d (pred (length end)) xs) ]
      | false ↦
          elim (begins_with begin (x ∷ xs)) [
            | true ↦ end_plus_one (quote_end begin end (suc inner) (pred (length begin)) xs)
            | false ↦ end_plus_one (quote_end begin end inner zero xs)
          ]
    ]

-- a comment that no end mark closes, with `ahead` bytes from its begin mark to the end of the text ahead: 02, request 3 "Where the
-- end-comment mark is a newline, the end of the text ahead closes the comment too, and nothing is added. Any other end mark still refuses
-- with detail 2"
unfoldable pub comment_to_end : Bytes → ℕ → Reading
comment_to_end end ahead = elim (same_bytes end newline_mark) [ true ↦ Is (token.Comment ahead) | false ↦ OpenComment ]

-- 2: from the begin-comment mark through the next end-comment mark, both kept; the end mark is sought from the place `i` on
unfoldable pub comment_read : Bytes → ℕ → ℕ → Option ℕ → Reading
comment_read end ahead i None = comment_to_end end ahead
comment_read end ahead i (Some n) = Is (token.Comment (i + (n + length end)))

unfoldable pub read_comment : MarkTexts → Bytes → Reading
read_comment m text =
    let b = length m.begin_comment in
    comment_read m.end_comment (length text) b (first_place m.end_comment (drop b text))

-- 3: from the begin-quote mark to its matching end mark; "Only the outermost marks go"
unfoldable pub quote_read : ℕ → ℕ → QuoteEnd → Reading
quote_read begin end (left_open d) = OpenQuote d
quote_read begin end (closes_at n) = Is (token.Quoted begin (begin + n) (begin + (n + end)))

unfoldable pub read_quoted : MarkTexts → Bytes → Reading
read_quoted m text =
    let b = length m.begin_quote in
    quote_read b (length m.end_quote) (quote_end m.begin_quote m.end_quote 0 0 (drop b text))

unfoldable pub read_token : MarkTexts → Bytes → Reading
read_token m [] = Is token.End
read_token m (x ∷ xs) =
    elim (at_mark m.begin_comment (x ∷ xs)) [
      | true ↦ read_comment m (x ∷ xs)
      | false ↦
          elim (at_mark m.begin_quote (x ∷ xs)) [
            | true ↦ read_quoted m (x ∷ xs)
            | false ↦ elim (begins_name x) [ true ↦ Is (token.Name (name_length (x ∷ xs))) | false ↦ Is (token.Byte x) ]
          ]
    ]

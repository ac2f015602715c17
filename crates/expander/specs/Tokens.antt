-- What reading a token asks of the marks, and what it gives.
use Rattle.std.specs.Prelude.{◌≡◌, ℕ, zero, suc, ◌+◌, ◌-◌, ◌<◌, ◌≤◌, true, false, length, take, drop, nat_lt, slice_index}
use Rattle.rules.specs.declared.Mark.{Mark}
use Rattle.rules.specs.declared.Marks.{Marks}
use Rattle.rules.specs.declared.Token.TheVariants as token
use Rattle.rules.specs.declared.Reading.{Reading}
use Rattle.rules.specs.declared.Reading.TheVariants.{Is, OpenQuote, OpenComment}
use Rattle.rules.specs.Bytes.{Bytes, begins_name, name_length}
use Rattle.rules.specs.Marks.{mark_text}
use Rattle.rules.specs.Tokens.{first_place, QuoteEnd, closes_at, left_open, quote_end, comment_read}
use Rattle.hashing.specs.Hashing.{hashed}
use Rattle.expander.specs.declared.tokens.Open.{Open}

-- a mark of 1 to 5 bytes
pub record FullMark (m : Mark) : Type 0 where
  pub least : 1 ≤ m.len
  pub most : m.len ≤ 5

-- the marks of a state: only the begin-comment mark may be empty
pub record GoodMarks (m : Marks) : Type 0 where
  pub begin_quote : FullMark m.begin_quote
  pub end_quote : FullMark m.end_quote
  pub begin_comment : m.begin_comment.len ≤ 5
  pub end_comment : FullMark m.end_comment

-- r is the length of a mark
pub record MarkLength (m : Mark) (r : ℕ) : Type 0 where
  pub whole : r ≡ length (mark_text m)
  pub len : r ≡ m.len

-- r is the first byte of a mark, which has one
pub record FirstByte (m : Mark) (r : ℕ) : Type 0 where
  pub byte : r ≡ slice_index (mark_text m) 0
  pub full : 1 ≤ length (mark_text m)

-- a comment that ends at the place i, left open if that is beyond the n bytes ahead
unfoldable pub comment_ending_at : ℕ → ℕ → Reading
comment_ending_at n i = elim (nat_lt n i) [ true ↦ OpenComment | false ↦ Is (token.Comment i) ]

-- what a comment comes to, from a place inside it on
unfoldable pub comment_from : Bytes → Bytes → ℕ → Reading
comment_from end text i = comment_read end (length text) i (first_place end (drop i text))

-- a quoted text whose marks have b and e bytes, by where it closes, counted from the place i
unfoldable pub closed_from : ℕ → ℕ → ℕ → QuoteEnd → Reading
closed_from b e i (left_open d) = OpenQuote d
closed_from b e i (closes_at n) = Is (token.Quoted b (i + n) (i + (n + e)))

-- what a quoted text comes to, from the place i on with so many quotes open, the outermost one among them; with none, i is behind its
-- end mark
unfoldable pub quoted_from : Bytes → Bytes → Bytes → ℕ → ℕ → Reading
quoted_from begin end text zero i = Is (token.Quoted (length begin) (i - length end) i)
quoted_from begin end text (suc inner) i = closed_from (length begin) (length end) i (quote_end begin end inner 0 (drop i text))

-- so many quotes are open at a place inside a quoted text
pub record Inside (begin end : Mark) (text : Bytes) (i depth : ℕ) : Type 0 where
  pub begin_mark : FullMark begin
  pub end_mark : FullMark end
  pub within : i ≤ length text
  pub some : 1 ≤ depth
  pub deep : depth ≤ i

-- what was open at the place i, behind what stands there
pub record Passed (begin end text : Bytes) (i depth : ℕ) (o : Open) : Type 0 where
  pub same : quoted_from begin end text o.depth o.place ≡ quoted_from begin end text depth i
  pub on : i < o.place
  pub within : o.place ≤ length text + 1
  pub deep : o.depth ≤ o.place
  pub closed : o.depth ≡ 0 → length end ≤ o.place

-- what a text that begins with no mark comes to: a name or a single byte
unfoldable pub plain_read : Bytes → Reading
plain_read text = elim (begins_name (slice_index text 0)) [ true ↦ Is (token.Name (name_length text)) | false ↦ Is (token.Byte (slice_index text 0)) ]

-- the places of a token lie in the text ahead
pub record Within (text : Bytes) (r : Reading) : Type 0 where
  pub end : r ≡ Is token.End → length text ≡ 0
  pub comment : (end : ℕ) → r ≡ Is (token.Comment end) → end ≤ length text
  pub quoted : (begins ends end : ℕ) → r ≡ Is (token.Quoted begins ends end) → (begins ≤ ends) × (ends ≤ end) × (end ≤ length text)
  pub name : (end : ℕ) → r ≡ Is (token.Name end) → (1 ≤ end) × (end ≤ length text)
  pub byte : (x : ℕ) → r ≡ Is (token.Byte x) → (1 ≤ length text) × (x ≡ slice_index text 0)

-- the hash of a name, taken while it was read
pub record NameHashed (text : Bytes) (r : Reading) (hash : ℕ) : Type 0 where
  pub name : (end : ℕ) → r ≡ Is (token.Name end) → hash ≡ hashed 0 (take end text)

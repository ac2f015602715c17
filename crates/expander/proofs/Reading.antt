-- Laws of a token, by what stands ahead. Assumes nothing.
use Rattle.rules.proofs.Base.{◌≤◌, ℕ, ◌∙◌, refl, sym, ap, ◌≡◌, true, false, [], ◌∷◌, arith, length, drop, get_or}
use Rattle.rules.specs.declared.Token.TheVariants as token
use Rattle.rules.specs.declared.Reading.TheVariants.{Is}
use Rattle.rules.specs.Bytes.{Bytes, begins_name, name_length}
use Rattle.rules.specs.Marks.{MarkTexts}
use Rattle.rules.specs.Tokens.{at_mark, QuoteEnd, closes_at, left_open, quote_end, quote_read, read_comment, read_quoted, read_token}
use Rattle.expander.specs.Tokens.{comment_from, closed_from, quoted_from, plain_read}

-- a name or a single byte, which begins with x
module _ (text : Bytes) (x : ℕ) (e : x ≡ get_or text 0 0) where
  pub plain_name : begins_name x ≡ true → (n : ℕ) → n ≡ name_length text → Is (token.Name n) ≡ plain_read text
  unfolding plain_read
  plain_name t n k = let f : begins_name (get_or text 0 0) ≡ true = ap begins_name (sym e) ∙ t in rw (f, plain_read) (ap (λ (i : ℕ). Is (token.Name i)) k)

  pub plain_byte : begins_name x ≡ false → Is (token.Byte x) ≡ plain_read text
  unfolding plain_read
  plain_byte t = let f : begins_name (get_or text 0 0) ≡ false = ap begins_name (sym e) ∙ t in rw (f, plain_read) (ap (λ (b : ℕ). Is (token.Byte b)) e)

closed_read : (b e : ℕ) (q : QuoteEnd) → closed_from b e b q ≡ quote_read b e q
unfolding closed_from quote_read
closed_read b e (left_open d) = refl
closed_read b e (closes_at n) = refl

-- the token ahead
module _ (m : MarkTexts) where
  pub token_end : (text : Bytes) → length text ≡ 0 → Is token.End ≡ read_token m text
  unfolding read_token
  token_end [] h = refl
  token_end (x ∷ xs) h = absurd (omega arith)

  pub token_comment : (text : Bytes) → 1 ≤ length text → at_mark m.begin_comment text ≡ true → comment_from m.end_comment text (length m.begin_comment) ≡ read_token m text
  unfolding read_token read_comment comment_from
  token_comment [] h e = absurd (omega arith)
  token_comment (x ∷ xs) h e = rw (e, read_token)

  pub token_quoted : (text : Bytes) → 1 ≤ length text → at_mark m.begin_comment text ≡ false → at_mark m.begin_quote text ≡ true → quoted_from m.begin_quote m.end_quote text 1 (length m.begin_quote) ≡ read_token m text
  unfolding read_token read_quoted quoted_from
  token_quoted [] h e f = absurd (omega arith)
  token_quoted (x ∷ xs) h e f =
      rw (e, f, read_token) (closed_read (length m.begin_quote) (length m.end_quote) (quote_end m.begin_quote m.end_quote 0 0 (drop (length m.begin_quote) (x ∷ xs))))

  pub token_plain : (text : Bytes) → 1 ≤ length text → at_mark m.begin_comment text ≡ false → at_mark m.begin_quote text ≡ false → plain_read text ≡ read_token m text
  unfolding read_token plain_read
  token_plain [] h e f = absurd (omega arith)
  token_plain (x ∷ xs) h e f = rw (e, f, read_token)

-- A comment that the end of the text ahead closes: 02, request 3. Assumes nothing.
use Prim.Native.Nat.{ℕ, suc, ◌+◌, ◌≤◌}
use native.Mathlib.Omega.{arith}
use mathlib.Core.Path.{◌≡◌, refl, sym, ap, subst, ◌∙◌}
use mathlib.Core.Bool.{Bool, true, false, true≢false}
use mathlib.Core.List.{[], ◌∷◌, ◌++◌}
use Rattle.std.specs.Prelude.{Option, None, Some}
use Rattle.std.proofs.lemmas.Option.{none-some}
use lib.Dec.{eqb}
use lib.ListN.{length, drop, length-append}
use lib.Seq.{drop-append_seam}
use borrow.Author.Tests.{eq-eqb}
use Rattle.rules.specs.declared.Token.TheVariants as token
use Rattle.rules.specs.declared.Reading.{Reading}
use Rattle.rules.specs.declared.Reading.TheVariants.{Is, OpenQuote, OpenComment}
use Rattle.rules.specs.Bytes.{Bytes, same_bytes, begins_name, name_length}
use Rattle.rules.specs.Marks.{MarkTexts, newline_mark}
use Rattle.rules.specs.Tokens.{begins_with, at_mark, first_place, QuoteEnd, closes_at, left_open, quote_end, comment_to_end, comment_read, read_comment, quote_read, read_quoted, read_token}
use Rattle.rules.specs.Places.{plus_one}

-- ---- where a newline ends comments, none is left open

abbrev NotOpen : Reading → Type 0
NotOpen (Is t) = Unit {0}
NotOpen (OpenQuote d) = Unit {0}
NotOpen OpenComment = ⊥

comment_ends : (ahead i : ℕ) (o : Option ℕ) → NotOpen (comment_read newline_mark ahead i o)
unfolding comment_read comment_to_end same_bytes
comment_ends ahead i None = tt
comment_ends ahead i (Some n) = tt

quote_no_comment : (begin end : ℕ) (q : QuoteEnd) → NotOpen (quote_read begin end q)
unfolding quote_read
quote_no_comment begin end (closes_at n) = tt
quote_no_comment begin end (left_open d) = tt

module _ (m : MarkTexts) (newline : m.end_comment ≡ newline_mark) where
  ends : (text : Bytes) → NotOpen (read_comment m text)
  unfolding read_comment
  ends text =
      let b = length m.begin_comment in
      subst (λ (end : Bytes). NotOpen (comment_read end (length text) b (first_place end (drop b text)))) (sym newline) (comment_ends (length text) b (first_place newline_mark (drop b text)))

  not_open : (text : Bytes) → NotOpen (read_token m text)
  unfolding read_token read_quoted
  not_open [] = tt
  not_open (x ∷ xs) = go (at_mark m.begin_comment (x ∷ xs)) (at_mark m.begin_quote (x ∷ xs)) (begins_name x)
    where
      go : (t u v : Bool)
          → NotOpen (elim t [ true ↦ read_comment m (x ∷ xs) | false ↦ elim u [ true ↦ read_quoted m (x ∷ xs) | false ↦ elim v [ true ↦ Is (token.Name (name_length (x ∷ xs))) | false ↦ Is (token.Byte x) ] ] ])
      go true u v = ends (x ∷ xs)
      go false true v = quote_no_comment (length m.begin_quote) (length m.end_quote) (quote_end m.begin_quote m.end_quote 0 0 (drop (length m.begin_quote) (x ∷ xs)))
      go false false true = tt
      go false false false = tt

  -- 02 "Where the end-comment mark is a newline, the end of the text ahead closes the comment too"
  pub never_open : (text : Bytes) → read_token m text ≡ OpenComment → ⊥
  never_open text e = subst NotOpen e (not_open text)

-- ---- nothing is added

at_front : (w s : Bytes) → 1 ≤ length w → at_mark w (w ++ s) ≡ true
unfolding at_mark begins_with
at_front [] s h = absurd (omega arith)
at_front (x ∷ xs) s h = front (x ∷ xs)
  where
    front : (w : Bytes) → begins_with w (w ++ s) ≡ true
    front [] = refl
    front (y ∷ ys) = rw (eq-eqb y y refl, begins_with) (front ys)

comment_first : (m : MarkTexts) (text : Bytes) → at_mark m.begin_comment text ≡ true → read_token m text ≡ read_comment m text
unfolding read_token at_mark begins_with
comment_first m [] e = absurd (true≢false (sym e ∙ no_mark m.begin_comment))
  where
    no_mark : (w : Bytes) → at_mark w [] ≡ false
    no_mark [] = refl
    no_mark (x ∷ xs) = refl
comment_first m (x ∷ xs) e = rw (e, read_token)

plus_one_none : (o : Option ℕ) → plus_one o ≡ None → o ≡ None
unfolding plus_one
plus_one_none None e = refl
plus_one_none (Some n) e = absurd (none-some (suc n) (sym e))

newline_last : (s : Bytes) → first_place newline_mark s ≡ None → first_place newline_mark (s ++ newline_mark) ≡ Some (length s)
unfolding first_place begins_with plus_one
newline_last [] e = refl
newline_last (x ∷ xs) e = go (eqb 10 x) e (λ q. newline_last xs (plus_one_none (first_place newline_mark xs) q))
  where
    here : Bool → Bool
    here t = elim t [ true ↦ true | false ↦ false ]

    -- where a newline first stands, by the test of the byte x and where one stands behind it
    placed : Bool → Option ℕ → Option ℕ
    placed t o = elim (here t) [ true ↦ Some 0 | false ↦ plus_one o ]

    go : (t : Bool) → placed t (first_place newline_mark xs) ≡ None
        → (plus_one (first_place newline_mark xs) ≡ None → first_place newline_mark (xs ++ newline_mark) ≡ Some (length xs))
        → placed t (first_place newline_mark (xs ++ newline_mark)) ≡ Some (suc (length xs))
    go true q on = absurd (none-some 0 (sym q))
    go false q on = ap plus_one (on q)

-- a comment that is all that is ahead
module _ (m : MarkTexts) (full : 1 ≤ length m.begin_comment) (remark : Bytes) where
  unended : first_place m.end_comment remark ≡ None → read_token m (m.begin_comment ++ remark) ≡ comment_to_end m.end_comment (length (m.begin_comment ++ remark))
  unfolding read_comment comment_read
  unended e = comment_first m (m.begin_comment ++ remark) (at_front m.begin_comment remark full) ∙ rw (drop-append_seam m.begin_comment remark, e) refl

  -- 02 "Any other end mark still refuses with detail 2"
  pub other_mark_open : same_bytes m.end_comment newline_mark ≡ false → first_place m.end_comment remark ≡ None → read_token m (m.begin_comment ++ remark) ≡ OpenComment
  unfolding comment_to_end
  other_mark_open other e = unended e ∙ rw (other, comment_to_end)

  -- without its newline and with it: 02 "nothing is added"
  module _ (newline : m.end_comment ≡ newline_mark) (plain : first_place newline_mark remark ≡ None) where
    pub without_newline : read_token m (m.begin_comment ++ remark) ≡ Is (token.Comment (length (m.begin_comment ++ remark)))
    unfolding comment_to_end same_bytes
    without_newline = unended (ap (λ (end : Bytes). first_place end remark) newline ∙ plain) ∙ rw newline refl

    pub with_newline : read_token m (m.begin_comment ++ (remark ++ newline_mark)) ≡ Is (token.Comment (length (m.begin_comment ++ remark) + 1))
    unfolding read_comment comment_read
    with_newline =
        comment_first m (m.begin_comment ++ (remark ++ newline_mark)) (at_front m.begin_comment (remark ++ newline_mark) full)
        ∙ rw (newline, drop-append_seam m.begin_comment (remark ++ newline_mark), newline_last remark plain) (ap (λ (n : ℕ). Is (token.Comment n)) count)
      where
        count : length m.begin_comment + (length remark + 1) ≡ length (m.begin_comment ++ remark) + 1
        count = omega (arith, length-append m.begin_comment remark)

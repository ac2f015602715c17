-- The places of a token lie in the text ahead. Assumes nothing.
use Rattle.rules.proofs.Base.{◌≤◌, ◌+◌, ℕ, ◌-◌, suc, zero, refl, sym, ◌≡◌, subst, true, Bool, false, Some, None, Option, [], ◌∷◌, arith, length, drop, get_or, length-drop}
use Rattle.rules.specs.declared.Token.{Token}
use Rattle.rules.specs.declared.Token.TheVariants as token
use Rattle.rules.specs.declared.Reading.{Reading}
use Rattle.rules.specs.declared.Reading.TheVariants.{Is, OpenQuote, OpenComment}
use Rattle.rules.specs.Bytes.{Bytes, same_bytes, begins_name, name_length}
use Rattle.rules.specs.Marks.{MarkTexts, newline_mark}
use Rattle.rules.specs.Tokens.{begins_with, at_mark, first_place, QuoteEnd, closes_at, left_open, end_plus_one, quote_end, comment_to_end, comment_read, read_token}
use Rattle.rules.specs.Places.{plus_one}
use Rattle.expander.specs.Tokens.{comment_from, closed_from, quoted_from, plain_read, Within}
use Rattle.expander.proofs.Prefixes.{name_within, name_some}
use Rattle.expander.proofs.MarkPlaces.{begins_long, at_long}
use Rattle.expander.proofs.Comments.{first_here, first_later, first_none}
use Rattle.expander.proofs.Quotes.{quote_closes, quote_less, quote_more, quote_same}
use Rattle.expander.proofs.Reading.{token_end, token_comment, token_quoted, token_plain, plain_name, plain_byte}

-- the same by cases
abbrev TokenIn : Bytes → Token → Type 0
TokenIn text token.End = length text ≡ 0
TokenIn text (token.Comment e) = e ≤ length text
TokenIn text (token.Quoted b e n) = (b ≤ e) × (e ≤ n) × (n ≤ length text)
TokenIn text (token.Name e) = (1 ≤ e) × (e ≤ length text)
TokenIn text (token.Byte x) = (1 ≤ length text) × (x ≡ get_or text 0 0)

abbrev ReadingIn : Bytes → Reading → Type 0
ReadingIn text (Is t) = TokenIn text t
ReadingIn text (OpenQuote n) = Unit {0}
ReadingIn text OpenComment = Unit {0}

by_cases : (text : Bytes) (r : Reading) → ReadingIn text r → Within text r
by_cases text r h =
    record {
      end = λ q. subst (ReadingIn text) q h;
      comment = λ e q. subst (ReadingIn text) q h;
      quoted = λ b e n q. subst (ReadingIn text) q h;
      name = λ e q. subst (ReadingIn text) q h;
      byte = λ x q. subst (ReadingIn text) q h;
    }

-- n bytes that stand at a place fit into l
abbrev PlaceIn : ℕ → ℕ → Option ℕ → Type 0
PlaceIn n l None = Unit {0}
PlaceIn n l (Some k) = k + n ≤ l

plus_one_in : (n l : ℕ) (o : Option ℕ) → PlaceIn n l o → PlaceIn n (suc l) (plus_one o)
unfolding plus_one
plus_one_in n l None h = tt
plus_one_in n l (Some k) h = omega arith

first_in_lem : (m s : Bytes) → PlaceIn (length m) (length s) (first_place m s)
first_in_lem m [] = go (begins_with m []) refl
  where
    go : (t : Bool) → begins_with m [] ≡ t → PlaceIn (length m) 0 (first_place m [])
    go true e = rw (first_here m [] e) (omega (arith, begins_long m [] e))
    go false e = rw (first_none m e) tt
first_in_lem m (x ∷ xs) = go (begins_with m (x ∷ xs)) refl (first_in_lem m xs)
  where
    go : (t : Bool) → begins_with m (x ∷ xs) ≡ t → PlaceIn (length m) (length xs) (first_place m xs) → PlaceIn (length m) (suc (length xs)) (first_place m (x ∷ xs))
    go true e h = rw (first_here m (x ∷ xs) e) (omega (arith, begins_long m (x ∷ xs) e))
    go false e h = rw (first_later m x xs e) (plus_one_in (length m) (length xs) (first_place m xs) h)

pub first_within : (m s : Bytes) (n : ℕ) → first_place m s ≡ Some n → n + length m ≤ length s
first_within m s n e = subst (PlaceIn (length m) (length s)) e (first_in_lem m s)

abbrev EndIn : ℕ → ℕ → QuoteEnd → Type 0
EndIn n l (left_open d) = Unit {0}
EndIn n l (closes_at k) = k + n ≤ l

on_in : (n l : ℕ) (q : QuoteEnd) → EndIn n l q → EndIn n (suc l) (end_plus_one q)
unfolding end_plus_one
on_in n l (left_open d) h = tt
on_in n l (closes_at k) h = omega arith

quote_in : (begin end : Bytes) (d k : ℕ) (s : Bytes) → EndIn (length end) (length s) (quote_end begin end d k s)
unfolding quote_end
quote_in begin end d k [] = tt
quote_in begin end d (suc k) (x ∷ xs) = on_in (length end) (length xs) (quote_end begin end d k xs) (quote_in begin end d k xs)
quote_in begin end d zero (x ∷ xs) = go d (begins_with end (x ∷ xs)) refl (begins_with begin (x ∷ xs)) refl (λ i j. on_in (length end) (length xs) (quote_end begin end i j xs) (quote_in begin end i j xs))
  where
    go : (d : ℕ) (t : Bool) → begins_with end (x ∷ xs) ≡ t → (u : Bool) → begins_with begin (x ∷ xs) ≡ u
        → ((i j : ℕ) → EndIn (length end) (suc (length xs)) (end_plus_one (quote_end begin end i j xs))) → EndIn (length end) (suc (length xs)) (quote_end begin end d 0 (x ∷ xs))
    go zero true e u f h = rw (quote_closes begin end x xs e) (omega (arith, begins_long end (x ∷ xs) e))
    go (suc d) true e u f h = rw (quote_less begin end x xs d e) (h d _)
    go d false e true f h = rw (quote_more begin end x xs d e f) (h (suc d) _)
    go d false e false f h = rw (quote_same begin end x xs d e f) (h d 0)

-- a comment that no end mark closes
to_end_in : (end text : Bytes) → ReadingIn text (comment_to_end end (length text))
unfolding comment_to_end
to_end_in end text = go (same_bytes end newline_mark)
  where
    go : (t : Bool) → ReadingIn text (elim t [ true ↦ Is (token.Comment (length text)) | false ↦ OpenComment ])
    go true = omega arith
    go false = tt

-- the tokens behind a begin mark of b bytes, and those with none
comment_in : (end text : Bytes) (b : ℕ) → b ≤ length text → ReadingIn text (comment_from end text b)
unfolding comment_from comment_read
comment_in end text b h =
    let s = drop b text in
    go (first_place end s) (subst (λ (l : ℕ). PlaceIn (length end) l (first_place end s)) (length-drop b text) (first_in_lem end s))
  where
    go : (o : Option ℕ) → PlaceIn (length end) (length text - b) o → ReadingIn text (comment_read end (length text) b o)
    go None k = to_end_in end text
    go (Some i) k = omega arith

quoted_in : (begin end text : Bytes) → length begin ≤ length text → ReadingIn text (quoted_from begin end text 1 (length begin))
unfolding quoted_from closed_from
quoted_in begin end text h =
    let s = drop (length begin) text in
    go (quote_end begin end 0 0 s) (subst (λ (l : ℕ). EndIn (length end) l (quote_end begin end 0 0 s)) (length-drop (length begin) text) (quote_in begin end 0 0 s))
  where
    go : (q : QuoteEnd) → EndIn (length end) (length text - length begin) q → ReadingIn text (closed_from (length begin) (length end) (length begin) q)
    go (left_open d) k = tt
    go (closes_at i) k = (omega arith, omega arith, omega arith)

plain_in : (text : Bytes) → 1 ≤ length text → ReadingIn text (plain_read text)
plain_in text h = go (begins_name (get_or text 0 0)) refl
  where
    go : (t : Bool) → begins_name (get_or text 0 0) ≡ t → ReadingIn text (plain_read text)
    go true e = subst (ReadingIn text) (plain_name text (get_or text 0 0) refl e (name_length text) refl) (name_some text h e, name_within text)
    go false e = subst (ReadingIn text) (plain_byte text (get_or text 0 0) refl e) (h, refl)

token_in : (m : MarkTexts) (text : Bytes) → ReadingIn text (read_token m text)
token_in m [] = subst (ReadingIn []) (token_end m [] refl) refl
token_in m (x ∷ xs) = go (at_mark m.begin_comment (x ∷ xs)) (at_mark m.begin_quote (x ∷ xs)) refl refl (omega arith)
  where
    go : (t u : Bool) → at_mark m.begin_comment (x ∷ xs) ≡ t → at_mark m.begin_quote (x ∷ xs) ≡ u → 1 ≤ length (x ∷ xs) → ReadingIn (x ∷ xs) (read_token m (x ∷ xs))
    go true u e f h =
        subst (ReadingIn (x ∷ xs)) (token_comment m (x ∷ xs) h e) (comment_in m.end_comment (x ∷ xs) (length m.begin_comment) (at_long m.begin_comment (x ∷ xs) e))
    go false true e f h =
        subst (ReadingIn (x ∷ xs)) (token_quoted m (x ∷ xs) h e f) (quoted_in m.begin_quote m.end_quote (x ∷ xs) (at_long m.begin_quote (x ∷ xs) f))
    go false false e f h = subst (ReadingIn (x ∷ xs)) (token_plain m (x ∷ xs) h e f) (plain_in (x ∷ xs) h)

pub token_within : (m : MarkTexts) (text : Bytes) (r : Reading) → r ≡ read_token m text → (r ≡ read_token m text) × Within text r
token_within m text r e = (e, by_cases text r (subst (ReadingIn text) (sym e) (token_in m text)))

-- Laws of the scan for the end of a quoted text. Assumes nothing.
use Rattle.rules.proofs.Base.{◌≤◌, ◌+◌, ℕ, ◌-◌, suc, zero, pred, ◌∙◌, refl, sym, ap, ◌≡◌, true, Bool, false, true≢false, [], ◌∷◌, add-one, arith, length, drop, get_or, drop_of_length-le, drop-drop}
use Rattle.rules.specs.declared.Mark.{Mark}
use Rattle.rules.specs.declared.Token.TheVariants as token
use Rattle.rules.specs.declared.Reading.{Reading}
use Rattle.rules.specs.declared.Reading.TheVariants.{Is, OpenQuote}
use Rattle.rules.specs.Bytes.{Bytes}
use Rattle.rules.specs.Marks.{mark_text}
use Rattle.rules.specs.Tokens.{begins_with, at_mark, QuoteEnd, closes_at, left_open, end_plus_one, quote_end}
use Rattle.expander.specs.Ahead.{is_other, plain_length, NextEither}
use Rattle.expander.specs.Tokens.{closed_from, quoted_from, Inside, Passed}
use Rattle.expander.proofs.Prefixes.{skip_plain, other_first, other_second}
use Rattle.expander.proofs.MarkPlaces.{begins_short, at_begins, other_byte, full_mark, mark_room}

-- a quoted text whose marks have b and e bytes, a place further on
module _ (begin end : Bytes) (b e : ℕ) where
  closed_later : (i : ℕ) (q : QuoteEnd) → closed_from b e i (end_plus_one q) ≡ closed_from b e (suc i) q
  unfolding closed_from end_plus_one
  closed_later i (left_open d) = refl
  closed_later i (closes_at n) =
      let y : i + suc n ≡ suc i + n = omega arith in
      let z : i + (suc n + e) ≡ suc i + (n + e) = omega arith in
      rw (y, z)

  -- behind what is passed over
  closed_skip : (d k i : ℕ) (s : Bytes) → closed_from b e i (quote_end begin end d k s) ≡ closed_from b e (i + k) (quote_end begin end d 0 (drop k s))
  unfolding quote_end closed_from
  closed_skip d zero i s = let z : i ≡ i + 0 = omega arith in ap (λ (n : ℕ). closed_from b e n (quote_end begin end d 0 s)) z
  closed_skip d (suc k) i [] = refl
  closed_skip d (suc k) i (x ∷ xs) =
      let z : suc i + k ≡ i + suc k = omega arith in
      closed_later i (quote_end begin end d k xs)
      ∙ closed_skip d k (suc i) xs
      ∙ ap (λ (n : ℕ). closed_from b e n (quote_end begin end d 0 (drop k xs))) z

  closed_mark : (m : Bytes) → 1 ≤ length m → (d i x : ℕ) (xs : Bytes)
      → closed_from b e i (end_plus_one (quote_end begin end d (pred (length m)) xs)) ≡ closed_from b e (i + length m) (quote_end begin end d 0 (drop (length m) (x ∷ xs)))
  unfolding quote_end
  closed_mark [] h d i x xs = absurd (omega arith)
  closed_mark (y ∷ ys) h d i x xs = closed_skip d (suc (length ys)) i (x ∷ xs)

-- a step of the scan, by the mark that stands there
module _ (begin end : Bytes) (x : ℕ) (xs : Bytes) where
  pub quote_closes : begins_with end (x ∷ xs) ≡ true → quote_end begin end 0 0 (x ∷ xs) ≡ closes_at 0
  unfolding quote_end
  quote_closes e = rw (e, quote_end)

  pub quote_less : (d : ℕ) → begins_with end (x ∷ xs) ≡ true → quote_end begin end (suc d) 0 (x ∷ xs) ≡ end_plus_one (quote_end begin end d (pred (length end)) xs)
  unfolding quote_end
  quote_less d e = rw (e, quote_end)

  module _ (d : ℕ) (n : begins_with end (x ∷ xs) ≡ false) where
    pub quote_more : begins_with begin (x ∷ xs) ≡ true → quote_end begin end d 0 (x ∷ xs) ≡ end_plus_one (quote_end begin end (suc d) (pred (length begin)) xs)
    unfolding quote_end
    quote_more e = rw (n, e, quote_end)

    pub quote_same : begins_with begin (x ∷ xs) ≡ false → quote_end begin end d 0 (x ∷ xs) ≡ end_plus_one (quote_end begin end d 0 xs)
    unfolding quote_end
    quote_same e = rw (n, e, quote_end)

-- the same at any text, whether there is a byte or not
abbrev reading : Bytes → Bytes → ℕ → ℕ → Bytes → Reading
reading begin end d i s = closed_from (length begin) (length end) i (quote_end begin end d 0 s)

module _ (begin end : Bytes) (i : ℕ) where
  last_closes : (s : Bytes) → 1 ≤ length end → begins_with end s ≡ true → Is (token.Quoted (length begin) (i + length end - length end) (i + length end)) ≡ reading begin end 0 i s
  unfolding closed_from
  last_closes [] h e = absurd (true≢false (sym e ∙ begins_short end [] h))
  last_closes (x ∷ xs) h e =
      let y : i + length end - length end ≡ i + 0 = omega arith in
      let z : i + length end ≡ i + (0 + length end) = omega arith in
      rw (quote_closes begin end x xs e, y, z)

  inner_closes : (d : ℕ) (s : Bytes) → 1 ≤ length end → begins_with end s ≡ true → reading begin end d (i + length end) (drop (length end) s) ≡ reading begin end (suc d) i s
  inner_closes d [] h e = absurd (true≢false (sym e ∙ begins_short end [] h))
  inner_closes d (x ∷ xs) h e = sym (ap (closed_from (length begin) (length end) i) (quote_less begin end x xs d e) ∙ closed_mark begin end (length begin) (length end) end h d i x xs)

  opens : (d : ℕ) (s : Bytes) → 1 ≤ length begin → begins_with end s ≡ false → begins_with begin s ≡ true → reading begin end (suc d) (i + length begin) (drop (length begin) s) ≡ reading begin end d i s
  opens d [] h n e = absurd (true≢false (sym e ∙ begins_short begin [] h))
  opens d (x ∷ xs) h n e = sym (ap (closed_from (length begin) (length end) i) (quote_more begin end x xs d n e) ∙ closed_mark begin end (length begin) (length end) begin h (suc d) i x xs)

  goes_on : (d : ℕ) (s : Bytes) → begins_with end s ≡ false → begins_with begin s ≡ false → reading begin end d (i + 1) (drop 1 s) ≡ reading begin end d i s
  unfolding quote_end closed_from
  goes_on d [] n e = refl
  goes_on d (x ∷ xs) n e = sym (ap (closed_from (length begin) (length end) i) (quote_same begin end x xs d n e) ∙ closed_later begin end (length begin) (length end) i (quote_end begin end d 0 xs) ∙ ap (λ (n : ℕ). reading begin end d n xs) (sym (add-one i)))

-- what a quoted text comes to, from a place on
module _ (begin end text : Bytes) (i : ℕ) where
  quoted_next : (d k : ℕ) → quoted_from begin end text (suc d) (i + k) ≡ reading begin end d (i + k) (drop k (drop i text))
  unfolding quoted_from
  quoted_next d k = ap (reading begin end d (i + k)) (sym (drop-drop k i text))

  pub quoted-closed : (d b e : ℕ) → d ≡ 0 → b ≡ length begin → e ≡ length end → Is (token.Quoted b (i - e) i) ≡ quoted_from begin end text d i
  unfolding quoted_from
  quoted-closed d b e p eb ee = rw (p, eb, ee)

  pub quoted_over : (depth : ℕ) → 1 ≤ depth → length text ≤ i → OpenQuote depth ≡ quoted_from begin end text depth i
  unfolding quoted_from closed_from quote_end
  quoted_over zero h l = absurd (omega arith)
  quoted_over (suc d) h l = rw (drop_of_length-le text l)

  module _ (hb : 1 ≤ length begin) (he : 1 ≤ length end) where
    pub quoted_skips : (depth a b at : ℕ) → 1 ≤ depth → a ≡ get_or begin 0 0 → b ≡ get_or end 0 0 → NextEither text i a b at → quoted_from begin end text depth at ≡ quoted_from begin end text depth i
    unfolding quoted_from plain_length
    quoted_skips zero a b at p ea eb h = absurd (omega arith)
    quoted_skips (suc d) a b at p ea eb h =
        ap (quoted_from begin end text (suc d)) h.place
        ∙ quoted_next d (plain_length a b (drop i text))
        ∙ sym (skip_plain (is_other a b) (reading begin end d) on (drop i text) i)
      where
        on : (j x : ℕ) (xs : Bytes) → is_other a b x ≡ true → reading begin end d j (x ∷ xs) ≡ reading begin end d (suc j) xs
        on j x xs o =
            ap (closed_from (length begin) (length end) j)
            (quote_same begin end x xs d (other_byte end (x ∷ xs) he (λ q. other_second a b x o (sym q ∙ sym eb))) (other_byte begin (x ∷ xs) hb (λ q. other_first a b x o (sym q ∙ sym ea))))
            ∙ closed_later begin end (length begin) (length end) j (quote_end begin end d 0 xs)

    pub quoted_less : (depth : ℕ) → 1 ≤ depth → begins_with end (drop i text) ≡ true → quoted_from begin end text (depth - 1) (i + length end) ≡ quoted_from begin end text depth i
    unfolding quoted_from
    quoted_less zero p e = absurd (omega arith)
    quoted_less (suc zero) p e = last_closes begin end i (drop i text) he e
    quoted_less (suc (suc d)) p e =
        let z : suc (suc d) - 1 ≡ suc d = omega arith in
        ap (λ (n : ℕ). quoted_from begin end text n (i + length end)) z ∙ quoted_next d (length end) ∙ inner_closes begin end i d (drop i text) he e

    pub quoted_more : (depth : ℕ) → 1 ≤ depth → begins_with end (drop i text) ≡ false → begins_with begin (drop i text) ≡ true
        → quoted_from begin end text (depth + 1) (i + length begin) ≡ quoted_from begin end text depth i
    unfolding quoted_from
    quoted_more zero p n e = absurd (omega arith)
    quoted_more (suc d) p n e =
        ap (λ (k : ℕ). quoted_from begin end text k (i + length begin)) (add-one (suc d)) ∙ quoted_next (suc d) (length begin) ∙ opens begin end i d (drop i text) hb n e

    pub quoted_same : (depth : ℕ) → 1 ≤ depth → begins_with end (drop i text) ≡ false → begins_with begin (drop i text) ≡ false
        → quoted_from begin end text depth (i + 1) ≡ quoted_from begin end text depth i
    unfolding quoted_from
    quoted_same zero p n e = absurd (omega arith)
    quoted_same (suc d) p n e = quoted_next d 1 ∙ goes_on begin end i d (drop i text) n e

-- what is open behind the mark or the byte at a place
module _ (begin end : Mark) (text : Bytes) (i depth : ℕ) (b5 : length begin.bytes ≡ 5) (e5 : length end.bytes ≡ 5) (h : Inside begin end text i depth) where
  has_begin : 1 ≤ length (mark_text begin)
  has_begin = full_mark begin b5 h.begin_mark

  has_end : 1 ≤ length (mark_text end)
  has_end = full_mark end e5 h.end_mark

  begins : (m : Bytes) (t : Bool) → 1 ≤ length m → at_mark m (drop i text) ≡ t → begins_with m (drop i text) ≡ t
  begins m t k e = sym (at_begins m (drop i text) k) ∙ e

  pub end_passed : (n : ℕ) → n ≡ length (mark_text end) → at_mark (mark_text end) (drop i text) ≡ true
      → Passed (mark_text begin) (mark_text end) text i depth (record { depth = depth - 1; place = i + n })
  end_passed n e m =
      let t = begins (mark_text end) true has_end m in
      record {
        same = ap (λ (k : ℕ). quoted_from (mark_text begin) (mark_text end) text (depth - 1) (i + k)) e ∙ quoted_less (mark_text begin) (mark_text end) text i has_begin has_end depth h.some t;
        on = omega (arith, has_end);
        within = omega (arith, mark_room (mark_text end) text i h.within t);
        deep = omega arith;
        closed = λ z. omega arith;
      }

  pub begin_passed : (n : ℕ) → n ≡ length (mark_text begin) → at_mark (mark_text end) (drop i text) ≡ false → at_mark (mark_text begin) (drop i text) ≡ true
      → Passed (mark_text begin) (mark_text end) text i depth (record { depth = depth + 1; place = i + n })
  begin_passed n e f m =
      let u = begins (mark_text begin) true has_begin m in
      record {
        same =
            ap (λ (k : ℕ). quoted_from (mark_text begin) (mark_text end) text (depth + 1) (i + k)) e
            ∙ quoted_more (mark_text begin) (mark_text end) text i has_begin has_end depth h.some (begins (mark_text end) false has_end f) u;
        on = omega (arith, has_begin);
        within = omega (arith, mark_room (mark_text begin) text i h.within u);
        deep = omega (arith, has_begin);
        closed = λ z. absurd (omega arith);
      }

  pub byte_passed : at_mark (mark_text end) (drop i text) ≡ false → at_mark (mark_text begin) (drop i text) ≡ false → Passed (mark_text begin) (mark_text end) text i depth (record { depth = depth; place = i + 1 })
  byte_passed f g =
      record {
        same = quoted_same (mark_text begin) (mark_text end) text i has_begin has_end depth h.some (begins (mark_text end) false has_end f) (begins (mark_text begin) false has_begin g);
        on = omega arith;
        within = omega arith;
        deep = omega arith;
        closed = λ z. absurd (omega arith);
      }

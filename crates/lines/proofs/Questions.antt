-- What the two questions answer once nothing is refused. Assumes nothing.
use Rattle.rules.proofs.Base.{◌≤◌, ◌+◌, ℕ, ◌-◌, ◌<◌, suc, ◌*◌, ◌/◌, ◌%◌, ◌∙◌, refl, sym, ap, ap₂, ◌≡◌, cond, Some, None, Option, List, Result, Ok, Err, add-one, arith, leb, length, take, get_or, le-leb, lt-leb}
use lib.Count.{ones_in}
use Rattle.std.proofs.Common.{SomeIff}
use Rattle.std.specs.Option.{ok_or}
use Rattle.rules.specs.declared.IndexError.{IndexError}
use Rattle.rules.specs.declared.IndexError.TheVariants.{Beyond, NoLine}
use Rattle.rules.specs.Lines.{word_count, line_in, line_of, judged_index, last_below, select, behind_bit, start_in_word, start_in, start_of}
use Rattle.lines.proofs.Judged.{Admitted, judged, refused}
use Rattle.lines.proofs.WordLaws.{bit_inside}
use Rattle.lines.proofs.Seeking.{last_of_front, last_inside}

module _ (n : ℕ) (words totals : List ℕ) (place : ℕ) where
  abbrev line : Result ℕ IndexError
  line = cond (leb place n) (Ok (line_in words totals place)) (Err Beyond)

  pub line_refused : {e : IndexError} → ◌≡◌ {A = Result (Unit {0}) IndexError} (Err e) (judged_index n words totals (Ok tt)) → Err e ≡ line_of n words totals place
  unfolding line_of
  line_refused r = refused n words totals line r

  module _ (h : Admitted n words totals) where
    pub line_beyond : n < place → Err Beyond ≡ line_of n words totals place
    unfolding line_of
    line_beyond b = rw (lt-leb place n b) (judged n words totals (Err Beyond) h)

    -- the total of the place's word and the rank of the place in it
    pub line_found : {r : ℕ} → r ≡ ones_in (place % 64) (get_or words (place / 64) 0) → place ≤ n → Ok (get_or totals (place / 64) 0 + r + 1) ≡ line_of n words totals place
    unfolding line_of line_in
    line_found {r} is b =
        ap Ok (add-one (get_or totals (place / 64) 0 + r) ∙ ap (λ (m : ℕ). suc (get_or totals (place / 64) 0 + m)) is)
        ∙ rw (le-leb place n b) (judged n words totals (Ok (line_in words totals place)) h)

module _ (n : ℕ) (words totals : List ℕ) (line : ℕ) where
  abbrev start : Result ℕ IndexError
  start = start_in (word_count n) words totals line

  pub start_refused : {e : IndexError} → ◌≡◌ {A = Result (Unit {0}) IndexError} (Err e) (judged_index n words totals (Ok tt)) → Err e ≡ start_of n words totals line
  unfolding start_of
  start_refused r = refused n words totals start r

  module _ (h : Admitted n words totals) where
    found : start ≡ start_of n words totals line
    unfolding start_of
    found = judged n words totals start h

    pub start_zero : line ≡ 0 → Err NoLine ≡ start_of n words totals line
    unfolding start_in
    start_zero z = ap (start_in (word_count n) words totals) (sym z) ∙ found

    pub start_one : line ≡ 1 → Ok 0 ≡ start_of n words totals line
    unfolding start_in
    start_one z = ap (start_in (word_count n) words totals) (sym z) ∙ found

-- ---- what `checked_sub` and `ok_or` told

pub absent : {T : Type 0} (o : Option T) (e x : IndexError) → ◌≡◌ {A = Result T IndexError} (Err x) (ok_or o e) → (o ≡ None) × (x ≡ e)
absent None e x h = let f : x ≡ e = cc in (refl, f)
absent (Some y) e x h = let w : ◌≡◌ {A = ℕ} 0 1 = cc in absurd (omega arith)

pub present : {T : Type 0} (o : Option T) (e : IndexError) (y : T) → ◌≡◌ {A = Result T IndexError} (Ok y) (ok_or o e) → o ≡ Some y
present None e y h = let w : ◌≡◌ {A = ℕ} 0 1 = cc in absurd (omega arith)
present (Some z) e y h = cc

pub no_line : (o : Option ℕ) (line : ℕ) (x : IndexError) → SomeIff o (1 ≤ line) (line - 1) → ◌≡◌ {A = Result ℕ IndexError} (Err x) (ok_or o NoLine) → (line ≡ 0) × (x ≡ NoLine)
no_line None line x s h = let p : line ≡ 0 = omega (arith, s) in (p, (absent {T = ℕ} None NoLine x h).1)
no_line (Some y) line x s h = let w : ◌≡◌ {A = ℕ} 0 1 = cc in absurd (omega arith)

pub newline_is : (o : Option ℕ) (line y : ℕ) → SomeIff o (1 ≤ line) (line - 1) → ◌≡◌ {A = Result ℕ IndexError} (Ok y) (ok_or o NoLine) → (1 ≤ line) × (y ≡ line - 1)
newline_is None line y s h = let w : ◌≡◌ {A = ℕ} 0 1 = cc in absurd (omega arith)
newline_is (Some z) line y s h = let e : y ≡ z = cc in (s.0, e ∙ s.1)

-- ---- the word and the bit of a line's newline

-- what is known once the word was sought: o is the last one whose total is below the newline's number
pub record Sought (n : ℕ) (words totals : List ℕ) (line newline : ℕ) (o : Option ℕ) : Type 0 where
  pub admitted : Admitted n words totals
  pub more : 2 ≤ line
  pub number : newline ≡ line - 1
  pub last : o ≡ last_below (line - 1) totals (n / 64 + 1)

module _ {n : ℕ} {words totals : List ℕ} {line newline : ℕ} where
  pub in_all : (t : Option ℕ) {o : Option ℕ} → Admitted n words totals → SomeIff t (1 ≤ line) (line - 1) → ◌≡◌ {A = Result ℕ IndexError} (Ok newline) (ok_or t NoLine) → (newline ≡ 0 → ⊥)
      → o ≡ last_below newline (take (n / 64 + 1) totals) (length (take (n / 64 + 1) totals)) → Sought n words totals line newline o
  in_all t {o} h s f z e =
      let is = newline_is t line newline s f in
      record {
        admitted = h;
        more = omega (arith, is, z);
        number = is.1;
        last = e ∙ last_of_front newline totals (n / 64 + 1) (omega (arith, h.room.1)) ∙ ap (λ (m : ℕ). last_below m totals (n / 64 + 1)) is.1;
      }

  module _ {o : Option ℕ} (s : Sought n words totals line newline o) where
    sought : start_in_word words totals (line - 2) o ≡ start_of n words totals line
    unfolding start_in word_count
    sought =
        let m : suc (suc (line - 2)) ≡ line = omega (arith, s.more) in
        let one : line - 1 ≡ suc (line - 2) = omega (arith, s.more) in
        ap (start_in_word words totals (line - 2)) s.last
        ∙ ap₂ (λ (b k : ℕ). start_in_word words totals (line - 2) (last_below b totals k)) one (add-one (n / 64))
        ∙ ap (start_in (suc (n / 64)) words totals) m
        ∙ found n words totals line s.admitted

    pub no_word : o ≡ None → Err NoLine ≡ start_of n words totals line
    unfolding start_in_word
    no_word z = ap (start_in_word words totals (line - 2)) (sym z) ∙ sought

    -- it is the k-th
    module _ {k : ℕ} (is : o ≡ Some k) where
      pub word_inside : (k < n / 64 + 1) × (get_or totals k 0 < newline)
      word_inside = let i = last_inside (line - 1) totals (n / 64 + 1) k (sym s.last ∙ is) in (i.0, omega (arith, i.1, s.number))

      module _ {b : Option ℕ} (f : b ≡ select 64 (newline - get_or totals k 0 - 1) (get_or words k 0)) where
        here : behind_bit k b ≡ start_of n words totals line
        unfolding start_in_word
        here =
            let m : newline - get_or totals k 0 - 1 ≡ line - 2 - get_or totals k 0 = omega (arith, s.number) in
            ap (behind_bit k) (f ∙ ap (λ (j : ℕ). select 64 j (get_or words k 0)) m)
            ∙ ap (start_in_word words totals (line - 2)) (sym is)
            ∙ sought

        pub no_bit_left : b ≡ None → Err NoLine ≡ start_of n words totals line
        unfolding behind_bit
        no_bit_left z = ap (behind_bit k) (sym z) ∙ here

        module _ {i : ℕ} (z : b ≡ Some i) where
          pub bit_found : Ok (k * 64 + i + 1) ≡ start_of n words totals line
          unfolding behind_bit
          bit_found = ap Ok (add-one (k * 64 + i)) ∙ ap (behind_bit k) (sym z) ∙ here

          pub place_inside : k * 64 + i + 1 ≤ 65600
          place_inside = omega (arith, s.admitted.short, word_inside, bit_inside (newline - get_or totals k 0 - 1) (get_or words k 0) i (sym f ∙ z))

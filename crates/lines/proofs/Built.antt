-- Building the index of a text, word by word. Assumes nothing.
use Rattle.rules.proofs.Base.{◌≤◌, ◌+◌, ℕ, ◌-◌, ◌<◌, suc, ◌*◌, ◌/◌, ◌∙◌, refl, sym, ap, ◌≡◌, ap₂, List, Result, Ok, Err, ◌++◌, add-one, arith, length, drop, take, get_or, length-drop, set, length-set, length-take, drop-cons, take_all, set_at, append_snoc}
use lib.Count.{ones}
use Rattle.rules.specs.declared.IndexError.{IndexError}
use Rattle.rules.specs.declared.IndexError.TheVariants.{TooLong, Beyond, NoLine, NoRoom}
use Rattle.rules.specs.Bytes.{Bytes}
use Rattle.rules.specs.Contract.{fronted}
use Rattle.rules.specs.Lines.{index_number, word_count, newlines, newline_bits, word_at, total_at, each, words_of, totals_of, judged_index, building, held_by, Indexed}
use Rattle.rules.proofs.Newlines.{newlines-add, newlines_le}
use Rattle.rules.proofs.Lines.{length-each, each_last}
use Rattle.lines.proofs.Judged.{Admitted, judged}
use Rattle.lines.proofs.WordLaws.{ones_bits}

-- the first k stand in a slice, and what is lent behind them is as it was
pub record Filled (f : ℕ → ℕ) (lent now : List ℕ) (k : ℕ) : Type 0 where
  pub long : length now ≡ length lent
  pub is : now ≡ each f 0 k ++ drop k lent

module _ (f : ℕ → ℕ) (lent : List ℕ) where
  fill_start : Filled f lent lent 0
  unfolding each
  fill_start = record { long = refl; is = refl }

  fill_on : {now : List ℕ} {k v : ℕ} → Filled f lent now k → k < length lent → v ≡ f k → Filled f lent (set now k v) (k + 1)
  fill_on {now} {k} {v} h r e =
      record {
        long = length-set now k v ∙ h.long;
        is =
            ap₂ (λ (l : List ℕ) (a : ℕ). set l k a) (h.is ∙ ap (λ (l : List ℕ). each f 0 k ++ l) (drop-cons lent k 0 r)) (e ∙ ap f (omega arith))
            ∙ set_at (each f 0 k) (get_or lent k 0) (drop (suc k) lent) (f (0 + k)) k (length-each f 0 k)
            ∙ sym (append_snoc (each f 0 k) (f (0 + k)) (drop (suc k) lent))
            ∙ ap (λ (l : List ℕ). l ++ drop (suc k) lent) (sym (each_last f 0 k))
            ∙ ap (λ (n : ℕ). each f 0 n ++ drop n lent) (sym (add-one k));
      }

  fill_done : {now : List ℕ} {k : ℕ} → Filled f lent now k → now ≡ fronted (each f 0 k) lent
  unfolding fronted
  fill_done {now} {k} h = h.is ∙ ap (λ (n : ℕ). each f 0 k ++ drop n lent) (sym (length-each f 0 k))

-- the first k words and totals stand, and the newlines before the next word are counted
pub record Building (text : Bytes) (words totals w t : List ℕ) (total k : ℕ) : Type 0 where
  pub admitted : Admitted (length text) words totals
  pub within : k ≤ length text / 64 + 1
  pub words_are : Filled (word_at text) words w k
  pub totals_are : Filled (total_at text) totals t k
  pub total_is : total ≡ total_at text k

-- a refusal leaves what is lent
held_refused : (e : IndexError) (written lent : List ℕ) → held_by (Err e) written lent ≡ lent
unfolding held_by index_number
held_refused TooLong written lent = refl
held_refused Beyond written lent = refl
held_refused NoLine written lent = refl
held_refused NoRoom written lent = refl

module _ {text : Bytes} {words totals : List ℕ} where
  pub build_refused : {r : Result (Unit {0}) IndexError} (e : IndexError) → r ≡ Err e → r ≡ judged_index (length text) words totals (Ok tt) → Indexed text words totals r words totals
  unfolding building
  build_refused {r} e is a =
      record {
        answer = a;
        words_are = sym (ap (λ (x : Result (Unit {0}) IndexError). held_by x (words_of text) words) is ∙ held_refused e (words_of text) words);
        totals_are = sym (ap (λ (x : Result (Unit {0}) IndexError). held_by x (totals_of text) totals) is ∙ held_refused e (totals_of text) totals);
      }

  pub build_start : Admitted (length text) words totals → Building text words totals words totals 0 0
  unfolding total_at newlines
  build_start h =
      record {
        admitted = h;
        within = omega arith;
        words_are = fill_start (word_at text) words;
        totals_are = fill_start (total_at text) totals;
        total_is = refl;
      }

  module _ {w t : List ℕ} {total k : ℕ} (b : Building text words totals w t total k) where
    room : (length text / 64 < length words) × (length text / 64 < length totals)
    room = b.admitted.room

    module _ (more : k ≤ length text / 64) where
      pub word_fits : k < length w
      word_fits = omega (arith, room.0, b.words_are.long)

      pub total_fits : k < length t
      total_fits = omega (arith, room.1, b.totals_are.long)

      -- the word of the text from there on, as it is lent
      module _ {word : ℕ} (given : word ≡ newline_bits (take 64 (take (length text - k * 64) (drop (k * 64) text)))) where
        e : word ≡ newline_bits (take 64 (drop (k * 64) text))
        e = given ∙ ap (λ (l : Bytes). newline_bits (take 64 l)) (take_all (length text - k * 64) (drop (k * 64) text) (omega (arith, length-drop (k * 64) text)))

        total_next : total + ones word ≡ total_at text (k + 1)
        unfolding total_at
        total_next =
            let n : k * 64 + 64 ≡ (k + 1) * 64 = omega arith in
            ap₂ (λ (a c : ℕ). a + c) b.total_is (ap ones e ∙ ones_bits (take 64 (drop (k * 64) text)))
            ∙ sym (newlines-add (k * 64) 64 text)
            ∙ ap (λ (m : ℕ). newlines (take m text)) n

        pub total_le : total + ones word ≤ 65536
        unfolding total_at
        total_le = omega (arith, total_next, newlines_le (take ((k + 1) * 64) text), length-take ((k + 1) * 64) text, b.admitted.short)

        pub build_on : Building text words totals (set w k word) (set t k total) (total + ones word) (k + 1)
        unfolding word_at
        build_on =
            record {
              admitted = b.admitted;
              within = omega arith;
              words_are = fill_on (word_at text) words b.words_are (omega (arith, room.0)) e;
              totals_are = fill_on (total_at text) totals b.totals_are (omega (arith, room.1)) b.total_is;
              total_is = total_next;
            }

    pub build_done : length text / 64 < k → Indexed text words totals (Ok tt) w t
    unfolding building held_by index_number words_of totals_of word_count
    build_done h =
        let last : k ≡ suc (length text / 64) = omega (arith, b.within) in
        record {
          answer = judged (length text) words totals (Ok tt) b.admitted;
          words_are = fill_done (word_at text) words b.words_are ∙ ap (λ (n : ℕ). fronted (each (word_at text) 0 n) words) last;
          totals_are = fill_done (total_at text) totals b.totals_are ∙ ap (λ (n : ℕ). fronted (each (total_at text) 0 n) totals) last;
        }

-- What the calls of the index of lines from C make of what its functions promise. Assumes nothing.
use Rattle.rules.proofs.Base.{ℕ, ◌∙◌, refl, ap, ◌≡◌, subst, List, Result, length}
use Rattle.rules.specs.Bytes.{Bytes}
use Rattle.rules.specs.declared.IndexError.{IndexError}
use Rattle.rules.specs.Lines.{index_number, index_value, judged_index, building, held_by, words_of, totals_of, Indexed, line_of, start_of, counted_line, counted_start}
use Rattle.rules.proofs.Lines.{line_counted, start_counted}
use Rattle.quenhovach.specs.Looked.{IndexedInNumbers, InNumbers}

module _ {text : Bytes} {words totals w t : List ℕ} where
  pub indexed : {r : Result (Unit {0}) IndexError} {n : ℕ} → Indexed text words totals r w t → n ≡ index_number r → IndexedInNumbers text words totals n w t
  indexed h e =
      record {
        number_is = e ∙ ap index_number h.answer;
        words_are = h.words_are ∙ ap (λ (r : Result (Unit {0}) IndexError). held_by r (words_of text) words) h.answer;
        totals_are = h.totals_are ∙ ap (λ (r : Result (Unit {0}) IndexError). held_by r (totals_of text) totals) h.answer;
      }

pub looked : {a b : Result ℕ IndexError} {n v : ℕ} → a ≡ b → n ≡ index_number a → v ≡ index_value a → InNumbers b n v
looked e f g = record { number_is = f ∙ ap index_number e; value_is = g ∙ ap index_value e }

-- ---- two calls: of an index that a call built, the numbers are those of counting through the text, or of what refused it

module _ {text : Bytes} {words totals w t : List ℕ} {r : ℕ} (h : IndexedInNumbers text words totals r w t) where
  built : Indexed text words totals (building text words totals) w t
  built = record { answer = refl; words_are = h.words_are; totals_are = h.totals_are }

  pub line_in_numbers : (place : ℕ) {n v : ℕ} → InNumbers (line_of (length text) w t place) n v → InNumbers (judged_index (length text) words totals (counted_line text place)) n v
  line_in_numbers place {n} {v} x = subst (λ (a : Result ℕ IndexError). InNumbers a n v) (line_counted text words totals built place) x

  pub start_in_numbers : (line : ℕ) {n v : ℕ} → InNumbers (start_of (length text) w t line) n v → InNumbers (judged_index (length text) words totals (counted_start text line)) n v
  start_in_numbers line {n} {v} x = subst (λ (a : Result ℕ IndexError). InNumbers a n v) (start_counted text words totals built line) x

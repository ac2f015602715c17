-- What the calls of the index of lines from C promise: the number that is given back, and the number that is written.
use Rattle.std.specs.Prelude.{ℕ, ◌≡◌, List, Result}
use Rattle.rules.specs.Bytes.{Bytes}
use Rattle.rules.specs.declared.IndexError.{IndexError}
use Rattle.rules.specs.Lines.{index_number, index_value, building, held_by, words_of, totals_of}

-- the index of a text is built: n is given back, w and t are what the lent words and totals then hold
pub record IndexedInNumbers (text : Bytes) (words totals : List ℕ) (n : ℕ) (w t : List ℕ) : Type 0 where
  pub number_is : n ≡ index_number (building text words totals)
  pub words_are : w ≡ held_by (building text words totals) (words_of text) words
  pub totals_are : t ≡ held_by (building text words totals) (totals_of text) totals

-- a question's answer: n is given back, v is written
pub record InNumbers (a : Result ℕ IndexError) (n v : ℕ) : Type 0 where
  pub number_is : n ≡ index_number a
  pub value_is : v ≡ index_value a

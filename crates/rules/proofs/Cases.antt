-- The worked texts that 01 marks P, the traps, and texts of 02's requests come out as they should: each list by one computed statement.
use mathlib.Core.Path.{◌≡◌, refl}
use Rattle.rules.specs.Cases.{first_wrong, worked_cases, trap_cases, word_cases, comment_cases, copy_cases}
use Rattle.rules.proofs.Book.{book}

-- no P case is wrong
pub worked_cases_hold : first_wrong 1 worked_cases ≡ 0
unfolding book
worked_cases_hold = refl

pub trap_cases_hold : first_wrong 1 trap_cases ≡ 0
unfolding book
trap_cases_hold = refl

pub word_cases_hold : first_wrong 1 word_cases ≡ 0
unfolding book
word_cases_hold = refl

pub comment_cases_hold : first_wrong 1 comment_cases ≡ 0
unfolding book
comment_cases_hold = refl

pub copy_cases_hold : first_wrong 1 copy_cases ≡ 0
unfolding book
copy_cases_hold = refl

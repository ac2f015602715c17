-- Runs are monotone in room and budget: the letter's third demand, "room never shapes text", of two runs.
use Rattle.std.specs.Prelude.{ℕ, suc, ◌≤◌, ◌≡◌, true, false, cond, List, eqb, get_or}
use Rattle.rules.specs.declared.Answer.{Answer}
use Rattle.rules.specs.Answers.{answer_number, answer_detail, is_stopped}
use Rattle.rules.specs.Run.{Setting, lengths, most_lent, Ended}

-- "none above 65,536 bytes"
pub record Lendable (a : Setting) : Type 0 where
  pub pending : a.pending ≤ most_lent
  pub calls : a.calls ≤ most_lent
  pub definitions : a.definitions ≤ most_lent
  pub streams : a.streams ≤ most_lent
  pub wrap : a.wrap ≤ most_lent
  pub errors : a.errors ≤ most_lent
  pub output : a.output ≤ most_lent

-- "the second nowhere smaller than the first"
pub record NowhereSmaller (a b : Setting) : Type 0 where
  pub pending : a.pending ≤ b.pending
  pub calls : a.calls ≤ b.calls
  pub definitions : a.definitions ≤ b.definitions
  pub streams : a.streams ≤ b.streams
  pub wrap : a.wrap ≤ b.wrap
  pub errors : a.errors ≤ b.errors
  pub output : a.output ≤ b.output
  pub budget : a.budget ≤ b.budget

-- the length of the buffer that a detail numbers, from 1
unfoldable pub length_numbered : List ℕ → ℕ → ℕ
length_numbered ls ℕ.zero = 0
length_numbered ls (suc k) = get_or ls k 0

-- 01 "What stopped a run is, with room, the length of the buffer that the detail numbers, and with spent the budget": by number and detail;
-- with another answer nothing
unfoldable pub stopper : List ℕ → ℕ → ℕ → ℕ → ℕ
stopper ls budget number detail = cond (eqb number 3) budget (cond (eqb number 4) (length_numbered ls detail) 0)

unfoldable pub stopped_by : Setting → Answer → ℕ
stopped_by a r = stopper (lengths a) a.budget (answer_number r) (answer_detail r)

-- how one text's run r under the setting a and its run t under b, nowhere smaller, must agree: the letter's three sentences
pub record Monotone (a b : Setting) (r t : Ended) : Type 0 where
  pub same : is_stopped r.answer ≡ false → t ≡ r
  pub further : is_stopped r.answer ≡ true → r.steps ≤ t.steps
  pub again : is_stopped r.answer ≡ true → stopped_by a r.answer ≡ stopped_by b r.answer → t ≡ r

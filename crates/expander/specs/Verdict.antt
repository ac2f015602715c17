-- What a step comes to once room is judged.
use Rattle.std.specs.Prelude.{ℕ, suc, List, Option, None, Some}
use Rattle.rules.specs.declared.Answer.{Answer}
use Rattle.rules.specs.declared.Answer.TheVariants as answer
use Rattle.rules.specs.Answers.{fault_answer, ending_answer}
use Rattle.rules.specs.State.{State, Outcome, next, stop, refused}
use Rattle.rules.specs.Run.{held, overfull, Ended, ended_with, run_from}

-- the run goes on from a state, ends with one, or the step is refused
pub data Verdict : Type 0 where
  going : State → Verdict
  over : Answer → State → Verdict
  denied : Answer → Verdict

-- a buffer would be overfull, or none
unfoldable pub roomed : Option ℕ → Verdict → Verdict
roomed None v = v
roomed (Some b) v = denied (answer.Room (suc b))

unfoldable pub verdict : List ℕ → Outcome → Verdict
verdict ls (next t) = roomed (overfull (held t) ls) (going t)
verdict ls (stop e t) = roomed (overfull (held t) ls) (over (ending_answer e) t)
verdict ls (refused f) = denied (fault_answer f)

-- the end of a run from the verdict on its next step: n more steps may follow, k are completed, s is the standing state
unfoldable pub followed : List ℕ → ℕ → ℕ → State → Verdict → Ended
followed ls n k s (going t) = run_from ls n (suc k) t
followed ls n k s (over a t) = ended_with a (suc k) t
followed ls n k s (denied a) = ended_with a k s

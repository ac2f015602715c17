-- The ways in which a run goes on or ends, for the loop that runs it: one law each.
use Prim.Native.Nat.{ℕ, zero, suc, ◌+◌, ◌≤◌}
use mathlib.Core.Path.{◌≡◌, refl}
use mathlib.Core.Bool.{Bool, true, false}
use mathlib.Core.List.{List, [], ◌∷◌}
use Rattle.std.specs.Prelude.{Option, None, Some}
use native.Mathlib.Omega.{arith}
use lib.ListN.{length}
use Rattle.rules.specs.declared.Answer.TheVariants as answer
use Rattle.rules.specs.Answers.{answer_number, Ending, done, exit, ending_answer, Fault, unclosed_quote, unclosed_comment, unclosed_call, no_name, no_number, no_expression, divisor, bad_mark, no_text, gone, deep, no_item, no_definition, fault_answer}
use Rattle.rules.specs.State.{State, Outcome, next, stop, refused, Start, start_state}
use Rattle.rules.specs.Sets.{Item, set_items}
use Rattle.rules.specs.Step.{step}
use Rattle.rules.specs.Run.{Setting, lengths, held, overfull, Ended, ended_with, judged, continued, run_from, all_lendable, started, admitted, run}

-- the text or a buffer is too long
pub run_lend : (b : Start) (a : Setting) → all_lendable (length b.text ∷ lengths a) ≡ false → run b a ≡ ended_with answer.Lend 0 (start_state [] b)
unfolding run admitted
run_lend b a e = rw (e, run)

-- they are not: what follows is up to the set
pub run_starts : (b : Start) (a : Setting) → all_lendable (length b.text ∷ lengths a) ≡ true → run b a ≡ started (set_items b.set) b a
unfolding run admitted
run_starts b a e = rw (e, run)

-- a step is due and the budget is completed
pub run_spent : (ls : List ℕ) (k : ℕ) (s : State) → run_from ls 0 k s ≡ ended_with answer.Spent k s
unfolding run_from
run_spent ls k s = refl

module _ (ls : List ℕ) (n k : ℕ) (s : State) where
  -- the step is refused
  pub run_refused : (f : Fault) → step s ≡ refused f → run_from ls (suc n) k s ≡ ended_with (fault_answer f) k s
  unfolding run_from continued
  run_refused f e = rw (e, run_from)

  -- the step is completed and the run goes on
  pub run_on : (t : State) → step s ≡ next t → overfull (held t) ls ≡ None → run_from ls (suc n) k s ≡ run_from ls n (suc k) t
  unfolding run_from continued judged
  run_on t e f = rw (e, f, run_from)

  -- the step would overfill a buffer
  pub run_room : (t : State) (b : ℕ) → step s ≡ next t → overfull (held t) ls ≡ Some b → run_from ls (suc n) k s ≡ ended_with (answer.Room (suc b)) k s
  unfolding run_from continued judged
  run_room t b e f = rw (e, f, run_from)

  -- the step ends the run
  pub run_ends :
      (x : Ending) (t : State) → step s ≡ stop x t → overfull (held t) ls ≡ None → run_from ls (suc n) k s ≡ ended_with (ending_answer x) (suc k) t
  unfolding run_from continued judged
  run_ends x t e f = rw (e, f, run_from)

  -- the step would end the run, and overfill a buffer
  pub run_ends_room :
      (x : Ending) (t : State) (b : ℕ) → step s ≡ stop x t → overfull (held t) ls ≡ Some b
      → run_from ls (suc n) k s ≡ ended_with (answer.Room (suc b)) k s
  unfolding run_from continued judged
  run_ends_room x t b e f = rw (e, f, run_from)

-- refusals of a step have the numbers from 5 on
pub fault_number : (f : Fault) → 5 ≤ answer_number (fault_answer f)
unfolding answer_number fault_answer
fault_number unclosed_quote = omega arith
fault_number unclosed_comment = omega arith
fault_number unclosed_call = omega arith
fault_number no_name = omega arith
fault_number no_number = omega arith
fault_number no_expression = omega arith
fault_number divisor = omega arith
fault_number bad_mark = omega arith
fault_number no_text = omega arith
fault_number gone = omega arith
fault_number deep = omega arith
fault_number no_item = omega arith
fault_number no_definition = omega arith

-- 01 "spent: a step is due and the budget's number is completed": an answer 3 has completed exactly the budget
ending_not_spent : (x : Ending) → answer_number (ending_answer x) ≡ 3 → ⊥
unfolding answer_number ending_answer
ending_not_spent done e = omega arith
ending_not_spent (exit k) e = omega arith

-- an answer 3 after n steps
abbrev SpentAt : ℕ → Ended → Type 0
SpentAt n e = answer_number e.answer ≡ 3 → e.steps ≡ n

judged_spent : (n : ℕ) (go : State → Ended) (k : ℕ) (s t : State) (o : Option ℕ) → SpentAt n (go t) → SpentAt n (judged go k s t o)
unfolding judged ended_with answer_number
judged_spent n go k s t None h e = h e
judged_spent n go k s t (Some b) h e = omega arith

continued_spent :
    (n : ℕ) (ls : List ℕ) (go : State → Ended) (k : ℕ) (s : State) (o : Outcome) → ((t : State) → SpentAt n (go t)) → SpentAt n (continued ls go k s o)
unfolding continued ended_with
continued_spent n ls go k s (refused f) h e = absurd (omega (arith, fault_number f))
continued_spent n ls go k s (stop x t) h e =
    judged_spent n (ended_with (ending_answer x) (suc k)) k s t (overfull (held t) ls) (λ q. absurd (ending_not_spent x q)) e
continued_spent n ls go k s (next t) h e = judged_spent n go k s t (overfull (held t) ls) (h t) e

from_spent : (ls : List ℕ) (n k : ℕ) (s : State) → SpentAt (k + n) (run_from ls n k s)
unfolding run_from ended_with
from_spent ls zero k s e = omega arith
from_spent ls (suc n) k s e =
    continued_spent (k + suc n) ls (λ t. run_from ls n (suc k) t) k s (step s) (λ t q. omega (arith, from_spent ls n (suc k) t q)) e

started_spent : (x : Option (List Item)) (b : Start) (a : Setting) → SpentAt a.budget (started x b a)
unfolding started ended_with answer_number
started_spent None b a e = omega arith
started_spent (Some is) b a e = omega (arith, from_spent (lengths a) a.budget 0 (start_state is b) e)

admitted_spent : (x : Bool) (b : Start) (a : Setting) → SpentAt a.budget (admitted x b a)
unfolding admitted ended_with answer_number
admitted_spent true b a e = started_spent (set_items b.set) b a e
admitted_spent false b a e = omega arith

pub spent_budget : (b : Start) (a : Setting) → answer_number (run b a).answer ≡ 3 → (run b a).steps ≡ a.budget
unfolding run
spent_budget b a e = admitted_spent (all_lendable (length b.text ∷ lengths a)) b a e

-- A run follows the verdicts on its steps.
use Rattle.rules.proofs.Base.{◌≤◌, ℕ, ◌<◌, suc, refl, ap, ◌≡◌, Some, None, Option, List, ◌∷◌, le-leb, lt-leb}
use Rattle.rules.specs.declared.Answer.TheVariants as answer
use Rattle.rules.specs.Answers.{Ending, ending_answer, Fault, fault_answer}
use Rattle.rules.specs.State.{State, Outcome, next, stop, refused}
use Rattle.rules.specs.Step.{step}
use Rattle.rules.specs.Places.{plus_one}
use Rattle.rules.specs.Run.{held, overfull, Ended, ended_with, judged, continued, run_from}
use Rattle.expander.specs.Verdict.{Verdict, going, over, denied, roomed, verdict, followed}

-- one law for the loop
pub run_follows : (ls : List ℕ) (n k : ℕ) (s : State) → run_from ls (suc n) k s ≡ followed ls n k s (verdict ls (step s))
unfolding run_from continued judged verdict roomed followed
run_follows ls n k s = continues (step s)
  where
    judges : (go : State → Ended) (v : Verdict) (t : State) (o : Option ℕ) → go t ≡ followed ls n k s v → judged go k s t o ≡ followed ls n k s (roomed o v)
    judges go v t None e = e
    judges go v t (Some b) e = refl

    continues : (o : Outcome) → continued ls (λ t. run_from ls n (suc k) t) k s o ≡ followed ls n k s (verdict ls o)
    continues (next t) = judges (λ x. run_from ls n (suc k) x) (going t) t (overfull (held t) ls) refl
    continues (stop e t) = judges (ended_with (ending_answer e) (suc k)) (over (ending_answer e) t) t (overfull (held t) ls) refl
    continues (refused f) = refl

-- the outcome of a step, judged: nothing is overfull, or a buffer is
pub verdict_next : (ls : List ℕ) (t : State) → overfull (held t) ls ≡ None → verdict ls (next t) ≡ going t
unfolding verdict roomed
verdict_next ls t e = rw (e, verdict)

pub verdict_stop : (ls : List ℕ) (e : Ending) (t : State) → overfull (held t) ls ≡ None → verdict ls (stop e t) ≡ over (ending_answer e) t
unfolding verdict roomed
verdict_stop ls e t q = rw (q, verdict)

pub verdict_room : (ls : List ℕ) (t : State) (b : ℕ) → overfull (held t) ls ≡ Some b → verdict ls (next t) ≡ denied (answer.Room (suc b))
unfolding verdict roomed
verdict_room ls t b e = rw (e, verdict)

pub verdict_stop_room : (ls : List ℕ) (x : Ending) (t : State) (b : ℕ) → overfull (held t) ls ≡ Some b → verdict ls (stop x t) ≡ denied (answer.Room (suc b))
unfolding verdict roomed
verdict_stop_room ls x t b e = rw (e, verdict)

pub verdict_refused : (ls : List ℕ) (f : Fault) → verdict ls (refused f) ≡ denied (fault_answer f)
unfolding verdict
verdict_refused ls f = refl

-- the first buffer that is overfull, found from the front
pub fits_then : (h : ℕ) (hs : List ℕ) (l : ℕ) (ls : List ℕ) (o : Option ℕ) → h ≤ l → overfull hs ls ≡ o → overfull (h ∷ hs) (l ∷ ls) ≡ plus_one o
unfolding overfull
fits_then h hs l ls o p e = rw (le-leb h l p, overfull) (ap plus_one e)

pub overflows : (h : ℕ) (hs : List ℕ) (l : ℕ) (ls : List ℕ) → l < h → overfull (h ∷ hs) (l ∷ ls) ≡ Some 0
unfolding overfull
overflows h hs l ls p = rw (lt-leb h l p, overfull)

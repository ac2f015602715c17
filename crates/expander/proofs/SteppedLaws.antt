-- What a step gives, as the code hands it back: the run goes on, or the step is refused.
use Rattle.rules.proofs.Base.{◌+◌, ℕ, ◌≡◌, Some, sym, subst}
use Rattle.rules.specs.declared.Answer.TheVariants as answer
use Rattle.rules.specs.Answers.{Fault, fault_answer}
use Rattle.rules.specs.State.{State, Outcome, next, refused}
use Rattle.rules.specs.Run.{Setting, lengths, held, overfull}
use Rattle.expander.specs.declared.machine.Machine.{Machine}
use Rattle.expander.specs.declared.machine.Stepped.{Stepped}
use Rattle.expander.specs.declared.machine.Progress.TheVariants as progress
use Rattle.expander.specs.Machine.{Memory, Represents, Refines, stepped}
use Rattle.expander.proofs.MachineLaws.{refines_next, refines_refused, refines_room}

-- by another way to say the outcome, what the code hands back, or both
pub refines_as : {a : Setting} {before b : Memory} {t : Stepped} {o p : Outcome} → o ≡ p → Refines a before p b t → Refines a before o b t
refines_as {a} {before} {b} {t} e g = subst (λ (o : Outcome). Refines a before o b t) (sym e) g

pub refines_with : {a : Setting} {o : Outcome} {before b : Memory} {t u : Stepped} → t ≡ u → Refines a before o b u → Refines a before o b t
refines_with {a} {o} {before} {b} e g = subst (λ (x : Stepped). Refines a before o b x) (sym e) g

pub refines_by : {a : Setting} {o o' : Outcome} {before b : Memory} {t t' : Stepped} → o ≡ o' → t ≡ t' → Refines a before o' b t' → Refines a before o b t
refines_by e f g = rw (e, f) g

module _ {a : Setting} {b : Memory} {m : Machine} {o : Outcome} {t : Stepped} where
  pub stepped_on : {before : Memory} {u : State} → Represents a b m u → o ≡ next u → t ≡ stepped progress.On m → Refines a before o b t
  stepped_on r e f = rw (e, f) (refines_next r)

  pub stepped_refused : (f : Fault) → o ≡ refused f → t ≡ stepped (progress.Refused (fault_answer f)) m → Refines a b o b t
  stepped_refused f e g = rw (e, g) (refines_refused f)

  pub stepped_full : (u : State) (k : ℕ) → overfull (held u) (lengths a) ≡ Some k → o ≡ next u → t ≡ stepped (progress.Refused (answer.Room (k + 1))) m → Refines a b o b t
  stepped_full u k h e f = rw (e, f) (refines_room u k h)

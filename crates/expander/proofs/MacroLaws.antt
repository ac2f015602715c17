-- Laws of the predefined macros: what a function gives and asks that is lent parts.
use Rattle.rules.proofs.Base.{◌∙◌, sym, ap, ◌≡◌, List}
use Rattle.rules.specs.declared.Answer.TheVariants as answer
use Rattle.rules.specs.Bytes.{Bytes}
use Rattle.rules.specs.Answers.{gone, fault_answer}
use Rattle.rules.specs.State.{State, Outcome, refused}
use Rattle.rules.specs.Run.{Setting}
use Rattle.expander.specs.declared.machine.Machine.{Machine}
use Rattle.expander.specs.declared.machine.Stepped.{Stepped}
use Rattle.expander.specs.declared.machine.Progress.TheVariants as progress
use Rattle.expander.specs.Machine.{Memory, Represents, Refines, Valid, ValidAt, stepped}
use Rattle.expander.proofs.MachineLaws.{refines_refused}
use Rattle.expander.proofs.SteppedLaws.{refines_as, refines_with}

pub refines_gone : {a : Setting} {b : Memory} {m : Machine} {t : Stepped} → t ≡ stepped (progress.Refused answer.Gone) m → Refines a b (refused gone) b t
unfolding fault_answer
refines_gone e = refines_with e (refines_refused gone)

-- what a function asks that is lent a part: the other buffers hold what they hold
pub valid_at : {part : Memory → Memory} {m : Machine} (b : Memory) {a : Setting} {s : State} → Represents a (part b) m s → Valid part m
valid_at b {a} {s} h = record { others = b; setting = a; state = s; represents = h }

-- and of the machine, whose other parts are what they are
pub valid_of : {part : Memory → Memory} {made : Machine → Machine} (b : Memory) (m : Machine) {a : Setting} {s : State} → Represents a (part b) (made m) s → ValidAt part made
valid_of b m h = record { machine = m; valid = valid_at b h }

-- the same from what was asked for more parts
pub valid_less :
    {lent part : Memory → Memory} {made less : Machine → Machine} (p : ValidAt lent made)
    → Represents p.valid.setting (part (lent p.valid.others)) (less (made p.machine)) p.valid.state → ValidAt part less
valid_less {lent} {made} p h = valid_of (lent p.valid.others) (made p.machine) h

-- the macro that a number stands for, by what it is called
pub refines_told :
    {M : Type 0} (call : M → List Bytes → State → Outcome) {a : Setting} {before b : Memory} {t : Stepped} {r x y : M} → r ≡ x → r ≡ y → (args : List Bytes) (s : State)
    → Refines a before (call x args s) b t → Refines a before (call y args s) b t
refines_told {M} call e f args s g = refines_as (ap (λ (z : M). call z args s) (sym f ∙ e)) g

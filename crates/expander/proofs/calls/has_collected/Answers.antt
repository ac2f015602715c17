-- `expander::calls::has_collected` meets its contract. Assumes nothing.
use Rattle.rules.proofs.Base.{ℕ, ◌∙◌, refl, ap, ◌≡◌, Bool, true, false, not, eqb}
use Rattle.expander.specs.Calls.{bit}
use Rattle.expander.proofs.CallsLaws.{top_collected}
use Rattle.expander.proofs.calls.has_collected.Goals as goal

-- the test of the word that was written
is_set : (b : Bool) → not (eqb (bit b) 0) ≡ b
unfolding bit
is_set true = refl
is_set false = refl

pub returns : goal.returns
returns c = λ bytes ends x xs m. ap (λ (n : ℕ). not (eqb n 0)) (c.word.ensures ∙ top_collected m) ∙ is_set x.collected

-- `quenhovach::sheets::numbers_of` meets its contract. Assumes nothing.
use Rattle.rules.proofs.Base.{ap₂, ℕ, ◌∷◌, []}
use Rattle.quenhovach.specs.Sheets.{sheet_numbers}
use Rattle.quenhovach.proofs.sheets.numbers_of.Goals as goal

pub returns : goal.returns
unfolding sheet_numbers
returns c = let r = c.args.r.now in ap₂ (λ (n d : ℕ). n ∷ d ∷ r.steps ∷ r.place ∷ r.output ∷ r.errors ∷ []) c.number_of.ensures c.detail_of.ensures

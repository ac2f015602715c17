-- `matching::put` meets its contract: the entry is a byte, or it keeps the byte. Assumes nothing.
use Rattle.rules.proofs.Base.{◌∙◌, sym, ap, ◌∷◌, [], ℕ}
use Rattle.matching.proofs.Partners.{entry_put}
use Rattle.matching.proofs.put.Goals as goal

pub returns : goal.returns
returns c = entry_put c.args.b c.args.t c.try_from.result c.try_from.ensures c.requires ∙ ap (λ (n : ℕ). n ∷ []) (sym c.unwrap_or.ensures)

-- `expander::lists::bare_marks` meets its contract. Assumes nothing.
use Rattle.rules.proofs.Base.{refl, rules}
use Rattle.expander.proofs.ListLaws.{bare_each}
use Rattle.expander.proofs.lists.bare_marks.Goals as goal

pub returns : goal.returns
returns c = (search rules, bare_each _ refl refl)

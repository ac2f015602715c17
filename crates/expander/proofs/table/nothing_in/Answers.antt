-- `expander::table::nothing_in` meets its contract: the word of the bucket is 0. Assumes nothing.
use Rattle.rules.proofs.Base.{eqb-true}
use Rattle.expander.proofs.BucketSearch.{means_nothing}
use Rattle.expander.proofs.table.nothing_in.Goals as goal

pub returns : goal.returns
returns c = λ q bytes p own t w h e. means_nothing w h e c.requires.1 (eqb-true _ _ q)

-- `expander::table::none_in` meets its contract: no definition is there, or the bucket has no head. Assumes nothing.
use Rattle.rules.proofs.Base.{◌∙◌, sym, eqb-true}
use Rattle.expander.proofs.BucketSearch.{none_counted, none_headed}
use Rattle.expander.proofs.table.none_in.Goals as goal

pub returns-then-packed-eq0 : goal.returns-then-packed-eq0
returns-then-packed-eq0 c = λ _ bytes ds w h e. none_counted ds w h c.if-packed-eq0.true

pub returns : goal.returns
returns c = λ t bytes ds w h e. none_headed ds w h.chained e (sym c.head_at.ensures ∙ eqb-true _ _ t)

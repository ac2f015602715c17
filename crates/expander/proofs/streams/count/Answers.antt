-- `expander::streams::count` meets its contract: the owners that are i, counted. Assumes nothing.
use Rattle.rules.proofs.Base.{ℕ, ◌∙◌, eqb, take, rules}
use Rattle.std.proofs.Common.{tests}
use Rattle.std.proofs.lemmas.Iterator.{YieldsList-from_slice}
use Rattle.std.proofs.lemmas.Iterator.Consumers.{YieldsList-at, YieldsList-from_filter, count_from_yields_List}
use Rattle.expander.proofs.OwnedBytes.{owned_filtered}
use Rattle.expander.proofs.streams.count.Goals as goal

pub returns : goal.returns
returns c =
    let a = c.args in
    let owners = take a.used a.owners.now in
    count_from_yields_List c.filter.result _ c.count.ensures.ran (YieldsList-from_filter _ (λ (o : ℕ). eqb o a.i) (YieldsList-at c.filter.ensures.source (YieldsList-from_slice owners (cc))) c.filter.ensures.closure (λ x b q k. search (rules, tests)))
    ∙ owned_filtered a.i owners

-- `expander::marks::none_barred` meets its contract. Assumes nothing.
use Rattle.rules.proofs.Base.{ℕ, ◌∙◌, not, rules}
use Rattle.rules.specs.Marks.{is_barred}
use Rattle.std.proofs.Common.{tests}
use Rattle.std.proofs.lemmas.Iterator.{YieldsList-from_slice}
use Rattle.std.proofs.lemmas.Iterator.Search.{all_from_yields_List}
use Rattle.expander.proofs.MarkTests.{none_barred_all}
use Rattle.expander.proofs.marks.none_barred.Goals as goal

pub returns : goal.returns
returns c =
    all_from_yields_List (λ (x : ℕ). not (is_barred x)) _ _ c.all.result c.all.ensures.ran (YieldsList-from_slice c.args.w.now cc) (λ x b q k. search (rules, tests))
    ∙ none_barred_all c.args.w.now

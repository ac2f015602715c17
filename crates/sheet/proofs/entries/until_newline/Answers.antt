-- `sheet::entries::until_newline` meets its contract. Assumes nothing.
use Rattle.rules.proofs.Base.{◌∙◌}
use Rattle.std.proofs.Common.{rules, tests}
use Rattle.std.proofs.lemmas.Iterator.{YieldsList-from_slice}
use Rattle.std.proofs.lemmas.Iterator.Consumers.{count_from_yields_List}
use Rattle.std.proofs.lemmas.Iterator.Search.{YieldsList-from_take_while}
use Rattle.std.proofs.lemmas.List.Folds.{length-prefix_len}
use Rattle.sheet.specs.Lines.{is_in_line, until_newline}
use Rattle.sheet.proofs.Fronts.{front_is}
use Rattle.sheet.proofs.entries.until_newline.Goals as goal

pub returns : goal.returns
unfolding until_newline is_in_line
returns c =
    count_from_yields_List c.take_while.result _ c.count.ensures.ran
    (YieldsList-from_take_while _ is_in_line (YieldsList-from_slice c.args.s.now cc) c.take_while.ensures.closure c.take_while.ensures.done (λ x b q k. search (rules, tests)))
    ∙ length-prefix_len is_in_line c.args.s.now
    ∙ front_is is_in_line c.args.s.now

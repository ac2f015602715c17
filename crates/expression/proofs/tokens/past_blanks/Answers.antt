-- `tokens::past_blanks` meets its contract. Assumes nothing.
use Rattle.rules.proofs.Base.{◌+◌, ◌∙◌, ap}
use Rattle.std.proofs.Common.{rules, tests}
use Rattle.std.proofs.lemmas.Iterator.{YieldsList-from_slice}
use Rattle.std.proofs.lemmas.Iterator.Consumers.{count_from_yields_List}
use Rattle.std.proofs.lemmas.Iterator.Search.{YieldsList-from_take_while}
use Rattle.std.proofs.lemmas.List.Folds.{length-prefix_len}
use Rattle.rules.specs.Bytes.{is_blank}
use Rattle.rules.specs.Expression.{past_blanks}
use Rattle.expression.proofs.Parts.{part, part_drop}
use Rattle.expression.proofs.Scan.{blanks_front}
use Rattle.expression.proofs.tokens.past_blanks.Goals as goal

pub returns-clause-is : goal.returns-clause-is
unfolding past_blanks
returns-clause-is c =
    let s = c.args.s.now in
    let at = c.args.at in
    ap (λ n. at + n)
    (count_from_yields_List c.take_while.result _ c.count.ensures.ran
    (YieldsList-from_take_while _ is_blank (YieldsList-from_slice (part s at) cc) c.take_while.ensures.closure c.take_while.ensures.done (λ x b q k. search (rules, tests)))
    ∙ length-prefix_len is_blank (part s at)
    ∙ blanks_front (part s at)) ∙ rw (part_drop s at)

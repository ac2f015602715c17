-- `expander::number_results::eval` meets its contract. Assumes nothing.
use Rattle.rules.proofs.Base.{◌∙◌, ◌≡◌, ap, sym, pos}
use Rattle.std.proofs.lemmas.Result.{err_from_is_err_and}
use Rattle.rules.specs.Answers.{fault_answer}
use Rattle.rules.specs.Arguments.{arg, number_or}
use Rattle.rules.specs.Expression.{evaluation}
use Rattle.expander.specs.Arguments.{args_of}
use Rattle.expander.specs.Results.{answered, number_text}
use Rattle.expander.proofs.PartResultLaws.{shows_none}
use Rattle.expander.proofs.NumberResultLaws.{eval_unreadable, eval_read, no_radix, no_least, both_read, radix_good}
use Rattle.expander.proofs.number_results.eval.Goals as goal
use Rattle.expander.proofs.number_results.eval.Goals.{After-evaluate-value}

-- what the first argument comes to
value : (c : After-evaluate-value) → c.evaluate-value.result ≡ evaluation (arg 1 (args_of c.args.x))
value c = c.evaluate-value.ensures ∙ ap evaluation c.argument.ensures

pub returns-then-is_unreadable : goal.returns-then-is_unreadable
unfolding answered number_text fault_answer
returns-then-is_unreadable c =
    sym (ap answered (eval_unreadable (args_of c.args.x) (value (goal.at.returns-then-is_unreadable c).After-evaluate-value) (sym c.is_unreadable.ensures ∙ c.if-is_unreadable.true)))

pub returns-in_err-radix : goal.returns-in_err-radix
unfolding number_text
returns-in_err-radix c =
    let p = err_from_is_err_and c.from_residual.result c.from_residual.ensures.1 in
    let e = c.in_err-radix.ensures in
    let v = eval_read (args_of c.args.x) (value (goal.at.returns-in_err-radix c).After-evaluate-value) (sym c.is_unreadable.ensures ∙ c.if-is_unreadable.false) in
    rw (p.1, p.2) (shows_none e.value e.ok_part (v ∙ no_radix _ (args_of c.args.x) (sym c.natural_or.ensures ∙ e.ok_part)))

pub returns-in_err-least : goal.returns-in_err-least
unfolding number_text
returns-in_err-least c =
    let p = err_from_is_err_and c.from_residual-in_err-least.result c.from_residual-in_err-least.ensures.1 in
    let e = c.in_err-least.ensures in
    let v = eval_read (args_of c.args.x) (value (goal.at.returns-in_err-least c).After-evaluate-value) (sym c.is_unreadable.ensures ∙ c.if-is_unreadable.false) in
    let r = sym c.natural_or.ensures ∙ c.in_ok-radix.ensures.ok_part in
    rw (p.1, p.2) (shows_none e.value e.ok_part (v ∙ no_least _ (args_of c.args.x) _ r (sym c.natural_or-2.ensures ∙ e.ok_part)))

pub shown-requires : goal.shown-requires
shown-requires c = radix_good (number_or (pos 10) 2 (args_of c.args.x)) _ (sym c.natural_or.ensures ∙ c.in_ok-radix.ensures.ok_part)

pub returns : goal.returns
returns c =
    let v = eval_read (args_of c.args.x) (value (goal.at.returns c).After-evaluate-value) (sym c.is_unreadable.ensures ∙ c.if-is_unreadable.false) in
    let r = sym c.natural_or.ensures ∙ c.in_ok-radix.ensures.ok_part in
    let l = sym c.natural_or-2.ensures ∙ c.in_ok-least.ensures.ok_part in
    c.shown.ensures ∙ sym (ap answered (v ∙ both_read _ (args_of c.args.x) _ r _ l))

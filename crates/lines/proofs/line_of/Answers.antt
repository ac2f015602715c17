-- `lines::line_of` meets its contract: what it refuses, in its order, and else the total and the rank. Assumes nothing.
use Rattle.rules.proofs.Base.{◌+◌, ◌∙◌, ap₂, arith, ℕ, Ok}
use Rattle.lines.proofs.Judged.{Admitted, admitted, passed}
use Rattle.lines.proofs.Questions.{line_refused, line_beyond, line_found}
use Rattle.lines.proofs.line_of.Goals as goal
use Rattle.lines.proofs.line_of.Goals.{In_ok-admit}

admit : (c : In_ok-admit) → Admitted c.args.length c.args.words.now c.args.totals.now
admit c = admitted c.args.length c.args.words.now c.args.totals.now c.in_ok-admit.ensures

pub returns-in_err-admit : goal.returns-in_err-admit
returns-in_err-admit c =
    passed c.from_residual.result c.in_err-admit.field-0.0 c.from_residual.ensures.1
    ∙ line_refused c.args.length c.args.words.now c.args.totals.now c.args.place c.in_err-admit.ensures

pub returns-then-length-place : goal.returns-then-length-place
returns-then-length-place c =
    line_beyond c.args.length c.args.words.now c.args.totals.now c.args.place (admit (goal.at.returns-then-length-place c).In_ok-admit) c.if-length-place.true

pub bounds-totals-k : goal.bounds-totals-k
bounds-totals-k c = omega (arith, (admit (goal.at.bounds-totals-k c).In_ok-admit).room.1)

pub bounds-words-k : goal.bounds-words-k
bounds-words-k c = omega (arith, (admit (goal.at.bounds-words-k c).In_ok-admit).room.0)

pub returns : goal.returns
returns c =
    ap₂ (λ (a b : ℕ). Ok (a + b + 1)) c.from.ensures c.from-2.ensures
    ∙ line_found c.args.length c.args.words.now c.args.totals.now c.args.place (admit (goal.at.returns c).In_ok-admit) c.rank.ensures c.if-length-place.false

-- `sheet::is_named` meets its contract. Assumes nothing.
use Rattle.rules.proofs.Base.{◌∙◌, sym, arith}
use Rattle.sheet.proofs.Questions.{outside, inside}
use Rattle.sheet.proofs.is_named.Goals as goal
use Rattle.sheet.proofs.is_named.Goals.{then-text-place-via-then-text-place, then-text-place-via-else-text-place+then-text-place-2}

pub returns-then-text-place : goal.returns-then-text-place
returns-then-text-place c =
    let a = c.args in
    elim c.then-text-place.branch [
      | then-text-place-via-then-text-place w ↦ outside a.text.now a.name.now a.place a.length _ (omega arith)
      | then-text-place-via-else-text-place+then-text-place-2 w ↦ outside a.text.now a.name.now a.place a.length _ (omega arith)
    ]

pub returns : goal.returns
returns c =
    let a = c.args in
    c.same.ensures ∙ sym (inside a.text.now a.name.now a.place a.length _ (omega arith))

-- `expander::buffers::push` meets its contract: s is written into the part before the pending text. Assumes nothing.
use Rattle.rules.proofs.Base.{◌+◌, ℕ, ◌-◌, ◌∙◌, refl, ap, ◌≡◌, ◌++◌, arith, length, drop}
use Rattle.expander.proofs.FilledLaws.{filled_from}
use Rattle.expander.proofs.buffers.push.Goals as goal

pub returns : goal.returns
returns c =
    let a = c.args in
    let s = a.s.now in
    let e : a.from - length s + length s ≡ a.from = omega arith in
    (refl, filled_from c.fill_slice.ensures ∙ ap (λ (i : ℕ). s ++ drop i a.buffer.now) e)

-- `expander::buffers::copy_front` meets its contract: src is written over the front. Assumes nothing.
use Rattle.rules.proofs.Base.{◌+◌, ℕ, ◌∙◌, ap, ◌≡◌, ◌++◌, arith, length, drop}
use Rattle.rules.specs.Contract.{fronted}
use Rattle.expander.proofs.buffers.copy_front.Goals as goal

pub returns : goal.returns
unfolding fronted
returns c =
    let a = c.args in
    let e : 0 + length a.src.now ≡ length a.src.now = omega arith in
    c.fill_slice.ensures.is ∙ ap (λ (i : ℕ). a.src.now ++ drop i a.dst.now) e

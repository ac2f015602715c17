-- `expander::macros::given` meets its contract: the source is set and the run goes on, or the answer is handed on. Assumes nothing.
use Rattle.rules.proofs.Base.{◌∙◌, sym, ap, ℕ}
use Rattle.std.specs.Prelude.{Result}
use Rattle.rules.specs.declared.Answer.{Answer}
use Rattle.expander.specs.declared.machine.Machine.{Machine}
use Rattle.expander.specs.declared.machine.Progress.TheVariants as progress
use Rattle.expander.specs.Giving.{pushed_step}
use Rattle.expander.specs.declared.source.Position.{Position}
use Rattle.expander.specs.Machine.{source_set, stepped}
use Rattle.expander.proofs.macros.given.Goals as goal

pub returns-in-Err : goal.returns-in-Err
unfolding pushed_step
returns-in-Err c = let s = c.args in c.refused.ensures ∙ ap (λ (g : Result ℕ Answer). pushed_step s.m g) (sym c.in-Err.is)

pub returns-in-Ok : goal.returns-in-Ok
unfolding pushed_step
returns-in-Ok c =
    let s = c.args in
    c.on.ensures ∙ ap (λ (m : Machine). stepped progress.On m) (c.with_source.ensures ∙ ap (λ (p : Position). source_set p s.m) c.pushed.ensures) ∙ ap (λ (g : Result ℕ Answer). pushed_step s.m g) (sym c.in-Ok.is)

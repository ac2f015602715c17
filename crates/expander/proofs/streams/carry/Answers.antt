-- `expander::streams::carry` meets its contract: taken out, closed up, appended. Assumes nothing.
use Rattle.rules.proofs.Base.{◌-◌, [], set}
use Rattle.expander.proofs.Waiting.{carried}
use Rattle.expander.proofs.streams.carry.Goals as goal

pub returns : goal.returns
returns c =
    λ ws s t d m.
    let a = c.args in
    let x = c.extract in
    let y = c.compact-kept in
    let z = c.append in
    carried m a.i a.j y.result x.new.dst s t d x.ensures y.ensures.0 z.ensures.0 (z.ensures.1 (set ws (a.i - 1) []) t (y.ensures.1 ws s m))

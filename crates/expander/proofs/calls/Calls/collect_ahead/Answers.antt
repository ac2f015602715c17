-- `expander::calls::Calls::collect_ahead` meets its contract. Assumes nothing.
use Rattle.rules.proofs.Base.{◌≡◌, arith, drop, take}
use Rattle.expander.specs.Source.{bytes_of}
use Rattle.expander.proofs.SinksLaws.{ahead_taken}
use Rattle.expander.proofs.CallsLaws.{depth_in, same_depth}
use Rattle.expander.proofs.calls.Calls.collect_ahead.Goals as goal

pub returns : goal.returns
returns c =
    let a = c.args in
    let p = c.requires in
    λ x xs m.
    let d : c.depth-depth.result ≡ x.depth = c.depth-depth.ensures a.bytes.now a.ends.now x xs m in
    let f = c.collected.ensures a.bytes.now _ (take a.n (drop a.start (bytes_of a.ahead))) x xs m
    (ahead_taken (bytes_of a.ahead) a.start a.n p.1) c.fill.ensures (omega (arith, d, depth_in m)) in
    same_depth (take a.n (drop a.start (bytes_of a.ahead))) _ x f d

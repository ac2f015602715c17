-- `expander::source::Ahead::fill` meets its contract. Assumes nothing.
use Rattle.rules.proofs.Base.{◌++◌, arith, drop, length-append, length-drop}
use Rattle.expander.proofs.FilledLaws.{fills_front}
use Rattle.expander.proofs.source.Ahead.fill.Goals as goal

pub returns : goal.returns
returns c =
    let a = c.args in
    let p = c.requires in
    fills_front a.buffer.now _ a.at a.n p.1 (drop a.start (a.self.front.now ++ a.self.rest.now))
    (omega (arith, length-drop a.start (a.self.front.now ++ a.self.rest.now), length-append a.self.front.now a.self.rest.now)) c.copy_to.ensures

-- `expander::source::Ahead::line_length` meets its contract. Assumes nothing.
use Rattle.rules.proofs.Base.{◌++◌, arith}
use Rattle.expander.proofs.Prefixes.{line_found, line_whole}
use Rattle.expander.proofs.source.Ahead.line_length.Goals as goal

pub returns-then-at-n : goal.returns-then-at-n
returns-then-at-n c =
    let a = c.args in
    line_found (a.self.front.now ++ a.self.rest.now) _ c.next_either-at.ensures (omega arith)

pub returns-else-at-n : goal.returns-else-at-n
returns-else-at-n c =
    let a = c.args in
    line_whole (a.self.front.now ++ a.self.rest.now) _ c.next_either-at.ensures (omega arith)

-- `expander::dnl::dnl` meets its contract. Assumes nothing.
use Rattle.rules.proofs.Base.{arith}
use Rattle.expander.proofs.TextLaws.{line_ahead, line_most, line_taken}
use Rattle.expander.proofs.dnl.dnl.Goals as goal

pub advanced-to-requires : goal.advanced-to-requires
advanced-to-requires c =
    let s = c.requires in
    let h = s.represents.source in
    let q = s.represents.limits in
    (h.from_in, q.pending_most, omega (arith, h.taken_in, q.text), line_most h (line_ahead h c.ahead.ensures c.line_length-n.ensures) q.text q.pending_most)

pub returns : goal.returns
returns c =
    let p = c.args in
    λ a s b args r.
    line_taken r args (line_ahead r.source c.ahead.ensures c.line_length-n.ensures)
    (c.advanced-to.ensures p.text.now s.source r.source) c.with_source.ensures c.on.ensures

-- `matching::first_place` meets its contract: a law of the answer for each way out. Assumes nothing.
use Rattle.rules.proofs.Base.{◌∙◌, ap, arith}
use Rattle.std.specs.Prelude.{Ok}
use Rattle.matching.proofs.Places.{placed_nowhere, placed_empty, placed_first, placed_long}
use Rattle.matching.proofs.first_place.Goals as goal

pub returns-then-text-needle : goal.returns-then-text-needle
returns-then-text-needle c =
    let a = c.args in
    placed_nowhere a.needle.now a.text.now c.if-text-needle.true

pub returns-then-needle-eq0 : goal.returns-then-needle-eq0
returns-then-needle-eq0 c =
    let a = c.args in
    placed_empty a.needle.now a.text.now c.if-text-needle.false c.if-needle-eq0.true

pub returns-then-needle-le-SHORT : goal.returns-then-needle-le-SHORT
returns-then-needle-le-SHORT c =
    let a = c.args in
    ap Ok c.place.ensures ∙ placed_first a.needle.now a.text.now (omega arith) (omega arith)

pub returns-then-needle-le-LONGEST : goal.returns-then-needle-le-LONGEST
returns-then-needle-le-LONGEST c =
    let a = c.args in
    ap Ok c.place-then-needle-le-LONGEST.ensures ∙ placed_first a.needle.now a.text.now (omega arith) (omega arith)

pub returns : goal.returns
returns c =
    let a = c.args in
    placed_long a.needle.now a.text.now (omega arith) (omega arith)

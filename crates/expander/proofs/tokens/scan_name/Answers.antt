-- `expander::tokens::scan_name` meets its contract. Assumes nothing.
use Rattle.rules.proofs.Base.{ap, inl, inr, arith}
use Rattle.std.proofs.Common.{Bor}
use Rattle.rules.specs.Bytes.{Bytes}
use Rattle.expander.proofs.Scanning.{BeginsIn, scan_rest, scan_one, scan_over, front_within, rest_within}
use Rattle.expander.proofs.tokens.scan_name.Goals as goal
use Rattle.expander.proofs.tokens.scan_name.Goals.{Joined-front-eq0, then-front-eq0, else-front-eq0}

abbrev bytes : Bor Bytes → Bytes
bytes x = x.now

-- the slice in which the name begins
begins_in : (c : Joined-front-eq0) → BeginsIn c.args.ahead.front.now c.args.ahead.rest.now c.if-front-eq0.s.now
begins_in c = elim c.if-front-eq0.branch [ then-front-eq0 w ↦ inl (w.if-front-eq0.true, ap bytes w.s-is) | else-front-eq0 w ↦ inr (w.if-front-eq0.false, ap bytes w.s-is) ]

pub returns-then-n-s : goal.returns-then-n-s
returns-then-n-s c =
    let a = c.args in
    scan_one a.ahead.front.now a.ahead.rest.now c.requires.0 c.requires.1 (begins_in (goal.at.returns-then-n-s c).Joined-front-eq0) c.hash_on.ensures c.scan_name-n.ensures c.if-n-s.true

pub returns-then-front-eq0-2 : goal.returns-then-front-eq0-2
returns-then-front-eq0-2 c =
    let a = c.args in
    scan_rest a.ahead.front.now a.ahead.rest.now c.requires.0 c.requires.1 (begins_in (goal.at.returns-then-front-eq0-2 c).Joined-front-eq0) c.hash_on.ensures c.scan_name-n.ensures c.if-front-eq0-2.true

pub overflow_add-result : goal.overflow_add-result
overflow_add-result c =
    let a = c.args in
    omega (arith, front_within a.ahead.front.now a.ahead.rest.now c.requires.0 c.requires.1 (begins_in (goal.at.overflow_add-result c).Joined-front-eq0) c.hash_on.ensures c.scan_name-n.ensures c.if-front-eq0-2.false, rest_within a.ahead.rest.now c.scan_name-k.ensures)

pub returns : goal.returns
returns c =
    let a = c.args in
    scan_over a.ahead.front.now a.ahead.rest.now c.requires.0 c.requires.1 (begins_in (goal.at.returns c).Joined-front-eq0) c.hash_on.ensures c.scan_name-n.ensures c.if-front-eq0-2.false c.if-n-s.false c.scan_name-k.ensures

-- `hashing::scan_name` meets its contract: the loop keeps that what a scan from the place i on finds is what is asked for. Assumes nothing.
use Rattle.rules.proofs.Base.{◌∙◌, refl, sym, arith}
use Rattle.hashing.proofs.Laws.{name_off, name_end, scan_on, scan_ends}
use Rattle.hashing.proofs.scan_name.Goals as goal

pub loop-i-init : goal.loop-i-init
loop-i-init c = (λ r x. x, omega arith)

pub loop-i-preserved : goal.loop-i-preserved
loop-i-preserved c =
    let l = c.loop-i in
    (λ r found. l.invariant.0 r (scan_on c.args.s.now l.i l.h c.loop-i-test.true (sym c.continues_name.ensures ∙ c.if-not-continues_name.false) (rw (sym c.hash_on-h.ensures) found)), omega arith)

pub returns-then-not-continues_name : goal.returns-then-not-continues_name
returns-then-not-continues_name c =
    let s = c.args.s.now in
    let l = c.loop-i in
    l.invariant.0 _ (scan_ends s l.i l.h (name_off s l.i c.loop-i-test.true (sym c.continues_name.ensures ∙ c.if-not-continues_name.true)) refl refl)

pub returns : goal.returns
returns c =
    let s = c.args.s.now in
    let l = c.loop-i in
    l.invariant.0 _ (scan_ends s l.i l.h (name_end s l.i c.loop-i-test.false) (omega (arith, c.max.ensures)) refl)

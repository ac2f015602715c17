-- `numerals::read_natural` meets its contract: the loop keeps that the whole is what the rest writes behind v. Assumes nothing.
use Rattle.rules.proofs.Base.{◌∙◌, sym, eqb-true, eqb-false, rules}
use Rattle.numerals.proofs.Reading.{reads_first, reads_none, reads_on, reads_off, reads_end}
use Rattle.numerals.proofs.read_natural.Goals as goal

pub returns-then-is_empty : goal.returns-then-is_empty
returns-then-is_empty c = reads_none c.args.radix c.args.s.now (eqb-true _ _ (sym c.is_empty.ensures ∙ c.if-is_empty.true))

pub loop-b-init : goal.loop-b-init
loop-b-init c = record { small = search rules; reads = reads_first c.args.radix c.args.s.now (eqb-false _ _ (sym c.is_empty.ensures ∙ c.if-is_empty.false)) }

pub returns-in_err-v : goal.returns-in_err-v
returns-in_err-v c =
    let a = c.args in
    let l = c.loop-b in
    c.from_residual.ensures ∙ reads_off a.radix a.s.now l.v l.b-index l.invariant.reads c.loop-b-test.true c.one_more.ensures c.in_err-v.was

pub loop-b-preserved : goal.loop-b-preserved
loop-b-preserved c =
    let a = c.args in
    let l = c.loop-b in
    record { small = search rules; reads = reads_on a.radix a.s.now l.v l.b-index l.invariant.reads c.loop-b-test.true c.one_more.ensures c.in_ok-v.was }

pub returns : goal.returns
returns c =
    let a = c.args in
    let l = c.loop-b in
    reads_end a.radix a.s.now l.v l.b-index l.invariant.reads (search rules) l.invariant.small

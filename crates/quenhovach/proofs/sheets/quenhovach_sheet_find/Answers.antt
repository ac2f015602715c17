-- `quenhovach::sheets::quenhovach_sheet_find` meets its contract: the loop keeps that the answer is sought from the line i on. Assumes nothing.
use Rattle.rules.proofs.Base.{◌∙◌, refl, sym, arith}
use Rattle.quenhovach.proofs.SheetWords.{sought_first, none_left, found_here, found_later, beyond_count, name_at_lem}
use Rattle.quenhovach.proofs.sheets.quenhovach_sheet_find.Goals as goal

pub loop-i-init : goal.loop-i-init
loop-i-init c = sought_first c.args.words.now c.args.text.now c.args.name.now

pub returns-then-words-i : goal.returns-then-words-i
returns-then-words-i c = beyond_count c.args.words.now c.args.text.now c.args.name.now c.loop-i.i c.loop-i.invariant c.if-words-i.true

pub returns-then-is_named : goal.returns-then-is_named
returns-then-is_named c =
    let l = c.loop-i in
    found_here c.args.words.now c.args.text.now c.args.name.now l.i l.invariant (omega arith) c.if-words-i.false
    (name_at_lem c.args.words.now c.args.text.now c.args.name.now l.i _ refl ∙ sym c.is_named.ensures ∙ c.if-is_named.true)

pub loop-i-preserved : goal.loop-i-preserved
loop-i-preserved c =
    let l = c.loop-i in
    found_later c.args.words.now c.args.text.now c.args.name.now l.i l.invariant (omega arith) c.if-words-i.false
    (name_at_lem c.args.words.now c.args.text.now c.args.name.now l.i _ refl ∙ sym c.is_named.ensures ∙ c.if-is_named.false)

pub returns : goal.returns
returns c = none_left c.args.words.now c.args.text.now c.args.name.now c.loop-i.i c.loop-i.invariant (omega arith)

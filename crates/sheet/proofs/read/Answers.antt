-- `sheet::read` meets its contract: the loop keeps that the lines before the place were read. Assumes nothing.
use Rattle.rules.proofs.Base.{◌≤◌, ◌+◌, ◌∙◌, sym, ap, subst, Err, length, arith}
use Rattle.rules.specs.declared.Sheet.{Sheet}
use Rattle.rules.specs.Sheets.{sheet_of}
use Rattle.sheet.proofs.SheetLaws.{Upto, upto_first, all_read, too_many_lem, line_within, line_malformed, name_short, line_twice, line_read, passed, absent, present}
use Rattle.sheet.proofs.read.Goals as goal
use Rattle.sheet.proofs.read.Goals.{After-until_newline, After-line_at, In_ok-line}

-- the line ends within the text
ends : (c : After-until_newline) → c.loop-place.place + c.until_newline.result ≤ length c.args.text.now
ends c = line_within c.args.text.now c.loop-place.sheet.lines c.loop-place.sheet.count c.loop-place.place c.loop-place.invariant c.loop-place-test.true c.until_newline.result c.until_newline.ensures

-- its name too
short : (c : In_ok-line) → c.loop-place.place + c.in_ok-line.line.length ≤ length c.args.text.now
short c =
    name_short c.args.text.now c.loop-place.sheet.lines c.loop-place.sheet.count c.loop-place.place c.loop-place.invariant c.loop-place-test.true c.until_newline.result c.until_newline.ensures c.if-count-ge-MOST_LINES.false c.line_at.result c.line_at.ensures
    c.in_ok-line.line (present c.line_at.result _ c.in_ok-line.line c.in_ok-line.ensures.value)

pub loop-place-init : goal.loop-place-init
unfolding sheet_of
loop-place-init c = subst (λ (s : Sheet). Upto c.args.text.now s.lines s.count 0) (sym c.empty-sheet.ensures) (upto_first c.args.text.now)

pub returns-then-count-ge-MOST_LINES : goal.returns-then-count-ge-MOST_LINES
returns-then-count-ge-MOST_LINES c =
    let l = c.loop-place in
    too_many_lem c.args.text.now l.sheet.lines l.sheet.count l.place l.invariant c.loop-place-test.true c.if-count-ge-MOST_LINES.true

pub overflow_add-end : goal.overflow_add-end
overflow_add-end c = omega (arith, ends (goal.at.overflow_add-end c).After-until_newline, c.well_formed)

pub slice_bounds-line_at-end : goal.slice_bounds-line_at-end
slice_bounds-line_at-end c = ends (goal.at.slice_bounds-line_at-end c).After-until_newline

pub returns-in_err-line : goal.returns-in_err-line
returns-in_err-line c =
    let n = absent c.line_at.result _ c.in_err-line.field-0.0 c.in_err-line.ensures.value in
    passed c.from_residual.result c.in_err-line.field-0.0 c.from_residual.ensures.1
    ∙ ap Err n.1
    ∙ line_malformed c.args.text.now c.loop-place.sheet.lines c.loop-place.sheet.count c.loop-place.place c.loop-place.invariant c.loop-place-test.true c.until_newline.result c.until_newline.ensures c.if-count-ge-MOST_LINES.false c.line_at.result c.line_at.ensures n.0

pub overflow_add-place : goal.overflow_add-place
overflow_add-place c = omega (arith, short (goal.at.overflow_add-place c).In_ok-line, c.well_formed)

pub slice_bounds-look_up-end : goal.slice_bounds-look_up-end
slice_bounds-look_up-end c = short (goal.at.slice_bounds-look_up-end c).In_ok-line

pub returns-then-is_some : goal.returns-then-is_some
returns-then-is_some c =
    line_twice c.args.text.now c.loop-place.sheet.lines c.loop-place.sheet.count c.loop-place.place c.loop-place.invariant c.loop-place-test.true c.until_newline.result c.until_newline.ensures c.if-count-ge-MOST_LINES.false c.line_at.result c.line_at.ensures
    c.in_ok-line.line (present c.line_at.result _ c.in_ok-line.line c.in_ok-line.ensures.value) c.look_up.ensures (sym c.is_some.ensures ∙ c.if-is_some.true)

pub loop-place-preserved : goal.loop-place-preserved
loop-place-preserved c =
    line_read c.args.text.now c.loop-place.sheet.lines c.loop-place.sheet.count c.loop-place.place c.loop-place.invariant c.loop-place-test.true c.until_newline.result c.until_newline.ensures c.if-count-ge-MOST_LINES.false c.line_at.result c.line_at.ensures
    c.in_ok-line.line (present c.line_at.result _ c.in_ok-line.line c.in_ok-line.ensures.value) c.look_up.ensures (sym c.is_some.ensures ∙ c.if-is_some.false)

pub returns : goal.returns
returns c =
    let l = c.loop-place in
    all_read c.args.text.now l.sheet.lines l.sheet.count l.place l.invariant c.loop-place-test.false

-- `lines::start_of` meets its contract: what it refuses, in its order, and else the word and the bit of the line's newline. Assumes nothing.
use Rattle.rules.proofs.Base.{◌+◌, ◌-◌, ◌/◌, ◌∙◌, ℕ, sym, ap, ◌≡◌, Some, Err, arith, get_or, length-take-le}
use Rattle.rules.specs.Lines.{select}
use Rattle.lines.proofs.Judged.{Admitted, admitted, passed}
use Rattle.lines.proofs.Questions.{Sought, start_refused, start_zero, start_one, in_all, no_word, word_inside, no_bit_left, bit_found, place_inside, absent, present, no_line, newline_is}
use Rattle.lines.proofs.start_of.Goals as goal
use Rattle.lines.proofs.start_of.Goals.{In_ok-admit, After-last_below, In_ok-k, After-select}

admit : (c : In_ok-admit) → Admitted c.args.length c.args.words.now c.args.totals.now
admit c = admitted c.args.length c.args.words.now c.args.totals.now c.in_ok-admit.ensures

-- the last of all totals below the newline's number
last : (c : After-last_below) → Sought c.args.length c.args.words.now c.args.totals.now c.args.line c.in_ok-newline.newline c.last_below.result
last c = in_all c.checked_sub.result (admitted c.args.length c.args.words.now c.args.totals.now c.in_ok-admit.ensures) c.checked_sub.ensures c.in_ok-newline.ensures.value c.if-newline-eq0.false c.last_below.ensures

-- it is the k-th
kth : (c : In_ok-k) → c.last_below.result ≡ Some c.in_ok-k.k
kth c = present c.last_below.result _ c.in_ok-k.k c.in_ok-k.ensures.value

-- the bit that is sought in its word
bit : (c : After-select) → c.select.result ≡ select 64 (c.in_ok-newline.newline - get_or c.args.totals.now c.in_ok-k.k 0 - 1) (get_or c.args.words.now c.in_ok-k.k 0)
bit c = c.select.ensures ∙ ap (λ (t : ℕ). select 64 (c.in_ok-newline.newline - t - 1) (get_or c.args.words.now c.in_ok-k.k 0)) c.from.ensures

pub returns-in_err-admit : goal.returns-in_err-admit
returns-in_err-admit c =
    passed c.from_residual.result c.in_err-admit.field-0.0 c.from_residual.ensures.1
    ∙ start_refused c.args.length c.args.words.now c.args.totals.now c.args.line c.in_err-admit.ensures

pub returns-in_err-newline : goal.returns-in_err-newline
returns-in_err-newline c =
    let n = no_line c.checked_sub.result c.args.line c.in_err-newline.field-0.0 c.checked_sub.ensures c.in_err-newline.ensures.value in
    passed c.from_residual-in_err-newline.result c.in_err-newline.field-0.0 c.from_residual-in_err-newline.ensures.1
    ∙ ap Err n.1
    ∙ start_zero c.args.length c.args.words.now c.args.totals.now c.args.line (admit (goal.at.returns-in_err-newline c).In_ok-admit) n.0

pub returns-then-newline-eq0 : goal.returns-then-newline-eq0
returns-then-newline-eq0 c =
    let n = newline_is c.checked_sub.result c.args.line c.in_ok-newline.newline c.checked_sub.ensures c.in_ok-newline.ensures.value in
    start_one c.args.length c.args.words.now c.args.totals.now c.args.line (admit (goal.at.returns-then-newline-eq0 c).In_ok-admit) (omega (arith, n, c.if-newline-eq0.true))

pub slice_bounds-last_below-end : goal.slice_bounds-last_below-end
slice_bounds-last_below-end c =
    let h = admit (goal.at.slice_bounds-last_below-end c).In_ok-admit in
    sym (length-take-le (c.args.length / 64 + 1) c.args.totals.now (omega (arith, h.room.1)))

pub returns-in_err-k : goal.returns-in_err-k
returns-in_err-k c =
    let n = absent c.last_below.result _ c.in_err-k.field-0.0 c.in_err-k.ensures.value in
    passed c.from_residual-in_err-k.result c.in_err-k.field-0.0 c.from_residual-in_err-k.ensures.1
    ∙ ap Err n.1
    ∙ no_word (last (goal.at.returns-in_err-k c).After-last_below) n.0

pub offset_bounds-totals-k : goal.offset_bounds-totals-k
offset_bounds-totals-k c =
    let s = last (goal.at.offset_bounds-totals-k c).After-last_below in
    omega (arith, s.admitted.short, (word_inside s (kth (goal.at.offset_bounds-totals-k c).In_ok-k)).0)

pub bounds-totals-k : goal.bounds-totals-k
bounds-totals-k c =
    let s = last (goal.at.bounds-totals-k c).After-last_below in
    omega (arith, s.admitted.room.1, (word_inside s (kth (goal.at.bounds-totals-k c).In_ok-k)).0)

pub overflow_sub-before : goal.overflow_sub-before
overflow_sub-before c =
    let s = last (goal.at.overflow_sub-before c).After-last_below in
    omega (arith, c.from.ensures, (word_inside s (kth (goal.at.overflow_sub-before c).In_ok-k)).1)

pub overflow_sub-before-2 : goal.overflow_sub-before-2
overflow_sub-before-2 c =
    let s = last (goal.at.overflow_sub-before-2 c).After-last_below in
    omega (arith, c.from.ensures, (word_inside s (kth (goal.at.overflow_sub-before-2 c).In_ok-k)).1)

pub offset_bounds-words-k : goal.offset_bounds-words-k
offset_bounds-words-k c =
    let s = last (goal.at.offset_bounds-words-k c).After-last_below in
    omega (arith, s.admitted.short, (word_inside s (kth (goal.at.offset_bounds-words-k c).In_ok-k)).0)

pub bounds-words-k : goal.bounds-words-k
bounds-words-k c =
    let s = last (goal.at.bounds-words-k c).After-last_below in
    omega (arith, s.admitted.room.0, (word_inside s (kth (goal.at.bounds-words-k c).In_ok-k)).0)

pub returns-in_err-bit : goal.returns-in_err-bit
returns-in_err-bit c =
    let n = absent c.select.result _ c.in_err-bit.field-0.0 c.in_err-bit.ensures.value in
    passed c.from_residual-in_err-bit.result c.in_err-bit.field-0.0 c.from_residual-in_err-bit.ensures.1
    ∙ ap Err n.1
    ∙ no_bit_left (last (goal.at.returns-in_err-bit c).After-last_below) (kth (goal.at.returns-in_err-bit c).In_ok-k) (bit (goal.at.returns-in_err-bit c).After-select) n.0

pub overflow_mul-result : goal.overflow_mul-result
overflow_mul-result c =
    let s = last (goal.at.overflow_mul-result c).After-last_below in
    omega (arith, place_inside s (kth (goal.at.overflow_mul-result c).In_ok-k) (bit (goal.at.overflow_mul-result c).After-select) (present c.select.result _ c.in_ok-bit.bit c.in_ok-bit.ensures.value))

pub overflow_add-result : goal.overflow_add-result
overflow_add-result c =
    let s = last (goal.at.overflow_add-result c).After-last_below in
    omega (arith, place_inside s (kth (goal.at.overflow_add-result c).In_ok-k) (bit (goal.at.overflow_add-result c).After-select) (present c.select.result _ c.in_ok-bit.bit c.in_ok-bit.ensures.value))

pub overflow_add-result-2 : goal.overflow_add-result-2
overflow_add-result-2 c =
    let s = last (goal.at.overflow_add-result-2 c).After-last_below in
    omega (arith, place_inside s (kth (goal.at.overflow_add-result-2 c).In_ok-k) (bit (goal.at.overflow_add-result-2 c).After-select) (present c.select.result _ c.in_ok-bit.bit c.in_ok-bit.ensures.value))

pub returns : goal.returns
returns c =
    bit_found (last (goal.at.returns c).After-last_below) (kth (goal.at.returns c).In_ok-k) (bit (goal.at.returns c).After-select)
    (present c.select.result _ c.in_ok-bit.bit c.in_ok-bit.ensures.value)

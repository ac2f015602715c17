-- `sheet::entries::line_at` meets its contract. Assumes nothing.
use Rattle.rules.proofs.Base.{◌≤◌, ◌<◌, ◌+◌, suc, ◌∙◌, sym, ap₂, ◌≡◌, true, take, drop, get_or, length, length-take-le, add-one, arith, rules}
use Rattle.rules.specs.Bytes.{is_name}
use Rattle.rules.specs.Sheets.{value_at}
use Rattle.rules.proofs.Sheets.{name_within}
use Rattle.sheet.proofs.Fronts.{behind, length-behind, first-behind, rest-behind}
use Rattle.sheet.proofs.EntryLaws.{no_name, name_alone, no_equals, no_value, one_line}
use Rattle.sheet.proofs.entries.line_at.Goals as goal
use Rattle.sheet.proofs.entries.line_at.Goals.{After-name_length-n, Else-not-is_name, In-61, After-value_at}

-- a name is within its line
within : (c : After-name_length-n) → c.name_length-n.result ≤ length c.args.s.now
within c = omega (arith, c.name_length-n.ensures, name_within c.args.s.now)

-- the name is one
name : (c : Else-not-is_name) → is_name (take c.name_length-n.result c.args.s.now) ≡ true
name c = sym c.is_name.ensures ∙ c.if-not-is_name.false

-- there is a byte behind it
more : (c : In-61) → c.name_length-n.result < length c.args.s.now
more c = omega (arith, length-behind c.args.s.now c.name_length-n.result, c.in-61.len_at_least)

-- the reading behind that
reading : (c : After-value_at) → c.value_at.result ≡ value_at (suc (c.args.place + c.name_length-n.result)) (drop (suc c.name_length-n.result) c.args.s.now)
reading c =
    c.value_at.ensures
    ∙ ap₂ value_at (add-one (c.args.place + c.name_length-n.result)) (rest-behind c.args.s.now c.name_length-n.result)

pub slice_bounds-is_name-end : goal.slice_bounds-is_name-end
slice_bounds-is_name-end c = sym (length-take-le _ c.args.s.now (within (goal.at.slice_bounds-is_name-end c).After-name_length-n))

pub returns-then-not-is_name : goal.returns-then-not-is_name
returns-then-not-is_name c = no_name c.args.place c.args.s.now _ c.name_length-n.ensures (sym c.is_name.ensures ∙ c.if-not-is_name.true)

pub slice_bounds-behind-count : goal.slice_bounds-behind-count
slice_bounds-behind-count c = within (goal.at.slice_bounds-behind-count c).After-name_length-n

pub slice_bounds-behind-start : goal.slice_bounds-behind-start
slice_bounds-behind-start c = within (goal.at.slice_bounds-behind-start c).After-name_length-n

pub returns-in_default : goal.returns-in_default
returns-in_default c =
    name_alone c.args.place c.args.s.now _ c.name_length-n.ensures (name (goal.at.returns-in_default c).Else-not-is_name)
    (omega (arith, length-behind c.args.s.now c.name_length-n.result, c.in_default.len_below))

pub returns-in_default-2 : goal.returns-in_default-2
returns-in_default-2 c =
    let s = c.args.s.now in
    let n = c.name_length-n.result in
    let other : get_or (behind s n) 0 0 ≡ 61 → ⊥ = λ q. omega arith in
    no_equals c.args.place s n c.name_length-n.ensures (name (goal.at.returns-in_default-2 c).Else-not-is_name)
    (omega (arith, length-behind s n, c.in_default.len_at_least)) (λ q. other (first-behind s n ∙ q))

pub returns-in_err-value : goal.returns-in_err-value
returns-in_err-value c =
    let s = c.args.s.now in
    let n = c.name_length-n.result in
    let equals : get_or (behind s n) 0 0 ≡ 61 = search rules in
    c.from_residual.ensures
    ∙ no_value c.args.place c.args.s.now _ c.name_length-n.ensures (name (goal.at.returns-in_err-value c).Else-not-is_name) (more (goal.at.returns-in_err-value c).In-61) (sym (first-behind s n) ∙ equals)
    c.value_at.result (reading (goal.at.returns-in_err-value c).After-value_at) c.in_err-value.was

pub returns : goal.returns
returns c =
    let s = c.args.s.now in
    let n = c.name_length-n.result in
    let equals : get_or (behind s n) 0 0 ≡ 61 = search rules in
    one_line c.args.place c.args.s.now _ c.name_length-n.ensures (name (goal.at.returns c).Else-not-is_name) (more (goal.at.returns c).In-61) (sym (first-behind s n) ∙ equals)
    c.value_at.result (reading (goal.at.returns c).After-value_at) c.in_ok-value.was

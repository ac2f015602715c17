-- `sheet::decimals::read_unsigned` meets its contract. Assumes nothing.
use Rattle.rules.proofs.Base.{ℕ, ◌<◌, ◌-◌, ◌^◌, suc, ◌∙◌, sym, ap, ◌≡◌, get_or, length, length-drop, take_all, lit<, arith, rules}
use Rattle.rules.specs.Numerals.{natural_from}
use Rattle.rules.specs.Sheets.{quotient, digit_count}
use Rattle.sheet.proofs.Fronts.{behind, behind_rest, length-behind, first-behind, rest-behind}
use Rattle.sheet.proofs.Fractions.{too_long, no_first_digit, digits_within, only_digits, no_point, no_digit_behind, no_digits, decimal_is, within-16, in_float_lem, power_fits, power_in_float}
use Rattle.sheet.proofs.decimals.read_unsigned.Goals as goal
use Rattle.sheet.proofs.decimals.read_unsigned.Goals.{In-46, then-whole-eq0-via-then-whole-eq0, then-whole-eq0-via-else-whole-eq0+then-places-eq0, then-whole-eq0-via-else-whole-eq0+else-places-eq0+then-part-places}

-- there is a byte behind the first digits
inside : (c : In-46) → c.digits_of-whole.result.count < length c.args.s.now
inside c = omega (arith, length-behind c.args.s.now c.digits_of-whole.result.count, c.in-46.len_at_least)

pub returns-then-s : goal.returns-then-s
returns-then-s c = sym (too_long c.args.s.now c.if-s.true)

pub digits_of-whole-requires : goal.digits_of-whole-requires
digits_of-whole-requires c = within-16 0 0 (lit< tt) (length c.args.s.now) (omega (arith, c.if-s.false))

pub slice_bounds-behind-count : goal.slice_bounds-behind-count
slice_bounds-behind-count c = digits_within c.args.s.now _ c.digits_of-whole.ensures.count

pub slice_bounds-behind-start : goal.slice_bounds-behind-start
slice_bounds-behind-start c = digits_within c.args.s.now _ c.digits_of-whole.ensures.count

pub returns-in_default : goal.returns-in_default
returns-in_default c =
    let s = c.args.s.now in
    let n = c.digits_of-whole.result.count in
    sym (only_digits s n c.digits_of-whole.ensures.count (omega (arith, length-behind s n, c.in_default.len_below)))

pub returns-in_default-2 : goal.returns-in_default-2
returns-in_default-2 c =
    let s = c.args.s.now in
    let n = c.digits_of-whole.result.count in
    let other : get_or (behind s n) 0 0 ≡ 46 → ⊥ = λ q. omega arith in
    sym (no_point s n c.digits_of-whole.ensures.count (omega (arith, length-behind s n, c.in_default.len_at_least)) (λ q. other (first-behind s n ∙ q)))

pub digits_of-part-requires : goal.digits_of-part-requires
digits_of-part-requires c =
    let s = c.args.s.now in
    let d = c.digits_of-whole in
    within-16 d.result.count d.result.number d.ensures.bounded _ (omega (arith, c.if-s.false, ap length (rest-behind s d.result.count), length-drop (suc d.result.count) s, inside (goal.at.digits_of-part-requires c).In-46))

pub returns-then-whole-eq0 : goal.returns-then-whole-eq0
returns-then-whole-eq0 c =
    let s = c.args.s.now in
    let d = c.digits_of-whole in
    let h = inside (goal.at.returns-then-whole-eq0 c).In-46 in
    let point : get_or (behind s d.result.count) 0 0 ≡ 46 = search rules in
    let p = sym (first-behind s d.result.count) ∙ point in
    let long = ap length (rest-behind s d.result.count) in
    let left = length-drop (suc d.result.count) s in
    elim c.then-whole-eq0.branch [
      | then-whole-eq0-via-then-whole-eq0 w ↦ sym (no_first_digit s _ d.ensures.count w.if-whole-eq0.true)
      | then-whole-eq0-via-else-whole-eq0+then-places-eq0 w ↦ sym (no_digit_behind s _ d.ensures.count h (omega (arith, long, left, w.if-places-eq0.true)))
      | then-whole-eq0-via-else-whole-eq0+else-places-eq0+then-part-places w ↦
          sym
          (no_digits s _ d.ensures.count h _ d.ensures.number w.if-whole-eq0.false (λ z. w.if-places-eq0.false (omega (arith, long, left, z))) (omega (arith, c.if-s.false)) p
          (λ e. w.if-part-places.true (c.digits_of-part.ensures.count ∙ ap digit_count (rest-behind s d.result.count) ∙ e ∙ omega (arith, long, left))))
    ]

pub int_to_float-result : goal.int_to_float-result
int_to_float-result c =
    let d = c.digits_of-whole in
    let p = c.digits_of-part in
    let s = c.args.s.now in
    in_float_lem d.result.count d.result.number d.ensures.bounded p.result.count p.result.number
    (omega (arith, inside (goal.at.int_to_float-result c).In-46, c.if-s.false, c.if-part-places.false, ap length (rest-behind s d.result.count), length-drop (suc d.result.count) s))
    p.ensures.bounded

pub pow-requires : goal.pow-requires
pow-requires c =
    let d = c.digits_of-whole in
    let s = c.args.s.now in
    power_fits _ _ (omega arith) (omega (arith, inside (goal.at.pow-requires c).In-46, c.if-s.false, ap length (rest-behind s d.result.count), length-drop (suc d.result.count) s))

pub int_to_float-result-2 : goal.int_to_float-result-2
int_to_float-result-2 c =
    let d = c.digits_of-whole in
    let s = c.args.s.now in
    rw c.pow.ensures (power_in_float _ _ (omega arith) (omega (arith, inside (goal.at.int_to_float-result-2 c).In-46, c.if-s.false, ap length (rest-behind s d.result.count), length-drop (suc d.result.count) s)))

pub returns : goal.returns
unfolding quotient
returns c =
    let s = c.args.s.now in
    let d = c.digits_of-whole in
    let p = c.digits_of-part in
    let h = inside (goal.at.returns c).In-46 in
    let point : get_or (behind s d.result.count) 0 0 ≡ 46 = search rules in
    let long = ap length (rest-behind s d.result.count) in
    let places : c.digits_of-part.result.count ≡ length s - d.result.count - 1 = omega (arith, c.if-part-places.false, long, length-drop (suc d.result.count) s) in
    let power : c.pow.result ≡ 10 ^ (length s - d.result.count - 1) = c.pow.ensures ∙ ap (λ (k : ℕ). 10 ^ k) (sym c.if-part-places.false ∙ places) in
    rw power
    (sym
    (decimal_is s _ d.ensures.count h _ d.ensures.number c.if-whole-eq0.false (λ z. c.if-places-eq0.false (omega (arith, c.if-part-places.false, places, z))) (omega (arith, c.if-s.false)) (sym (first-behind s d.result.count) ∙ point) _
    (sym (ap (natural_from 10 d.result.number) (take_all p.result.count (behind_rest s d.result.count) (omega (arith, c.if-part-places.false)) ∙ rest-behind s d.result.count)) ∙ p.ensures.number)))

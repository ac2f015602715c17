-- `sheet::decimals::digits_of` meets its contract: the loop keeps that the digits go on from the place i, and the number of those before it. Assumes nothing.
use Rattle.rules.proofs.Base.{◌<◌, ◌+◌, ◌-◌, ◌*◌, ◌∙◌, sym, ◌≡◌, true, zero-add, length, get_or, arith}
use Rattle.rules.specs.Bytes.{is_digit}
use Rattle.rules.specs.Sheets.{digit_count}
use Rattle.rules.proofs.Classes.{digit_bounds}
use Rattle.sheet.proofs.Fronts.{front_on, front_off, front_end}
use Rattle.sheet.proofs.Digits.{read_first, read_on, read_small}
use Rattle.sheet.proofs.decimals.digits_of.Goals as goal
use Rattle.sheet.proofs.decimals.digits_of.Goals.{Else-not-is_digit}

-- the byte is a digit
digit : (c : Else-not-is_digit) → is_digit (get_or c.args.s.now c.loop-i.i 0) ≡ true
digit c = sym c.is_digit.ensures ∙ c.if-not-is_digit.false

-- the number with it
small : (c : Else-not-is_digit) → c.loop-i.number * 10 + (get_or c.args.s.now c.loop-i.i 0 - 48) < 10000000000000000
small c = read_small c.args.s.now c.args.v c.loop-i.i c.loop-i.number c.loop-i.invariant.1 (omega arith) (digit c) c.requires

pub loop-i-init : goal.loop-i-init
loop-i-init c = (zero-add _, read_first c.args.s.now c.args.v)

pub returns-then-not-is_digit-clause-count : goal.returns-then-not-is_digit-clause-count
unfolding digit_count
returns-then-not-is_digit-clause-count c =
    sym (front_off is_digit c.args.s.now c.loop-i.i (omega arith) (sym c.is_digit.ensures ∙ c.if-not-is_digit.true)) ∙ c.loop-i.invariant.0

pub overflow_mul-number : goal.overflow_mul-number
overflow_mul-number c = let h = small (goal.at.overflow_mul-number c).Else-not-is_digit in omega arith

pub overflow_sub-byte : goal.overflow_sub-byte
overflow_sub-byte c = (digit_bounds _ (digit (goal.at.overflow_sub-byte c).Else-not-is_digit)).0

pub overflow_add-number : goal.overflow_add-number
overflow_add-number c = let h = small (goal.at.overflow_add-number c).Else-not-is_digit in omega (arith, c.from.ensures)

pub loop-i-preserved : goal.loop-i-preserved
loop-i-preserved c =
    let s = c.args.s.now in
    let l = c.loop-i in
    let d = digit (goal.at.loop-i-preserved c).Else-not-is_digit in (
      sym (front_on is_digit s l.i (omega arith) d) ∙ l.invariant.0,
      rw c.from.ensures (read_on s c.args.v l.i l.number l.invariant.1 (omega arith) d),
    )

pub returns-clause-count : goal.returns-clause-count
unfolding digit_count
returns-clause-count c =
    let l = c.loop-i in
    let all : length c.args.s.now ≡ l.i = omega arith in
    all ∙ sym (front_end is_digit c.args.s.now l.i (omega arith)) ∙ l.invariant.0

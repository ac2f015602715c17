-- `numerals::read_number` meets its contract. Assumes nothing.
use Rattle.rules.proofs.Base.{◌≡◌, ◌∙◌, sym, pos, neg_ℤ, arith, get_or, rules}
use Rattle.numerals.proofs.Reading.{signed_none, signed_some, fits_plain, fits_minus, number_minus, number_plain, no_minus, behind_first}
use Rattle.numerals.proofs.read_number.Goals.{in_default-via-then-s-lt1, in_default-via-else-s-lt1+in_default-1}
use Rattle.numerals.proofs.read_number.Goals as goal

pub returns-in_err-read_natural-in-45 : goal.returns-in_err-read_natural-in-45
returns-in_err-read_natural-in-45 c =
    let s = c.args.s.now in
    c.from_residual.ensures
    ∙ signed_none (λ n. neg_ℤ (pos n)) 2147483648 _ (omega arith) c.read_natural.ensures c.in_err-read_natural-in-45.was
    ∙ rw (behind_first s) (sym (number_minus s (search rules)))

pub returns-in_err-read_natural-in_default : goal.returns-in_err-read_natural-in_default
returns-in_err-read_natural-in_default c =
    let s = c.args.s.now in
    let n : get_or s 0 0 ≡ 45 → ⊥ =
    elim c.in_default.branch [ in_default-via-then-s-lt1 w ↦ no_minus s (search rules) | in_default-via-else-s-lt1+in_default-1 w ↦ search rules ] in
    c.from_residual-in_err-read_natural-in_default.ensures
    ∙ signed_none pos 2147483647 _ (omega arith) c.read_natural-in_default.ensures c.in_err-read_natural-in_default.was
    ∙ sym (number_plain s n)

pub returns-in_ok-read_natural-in-45 : goal.returns-in_ok-read_natural-in-45
returns-in_ok-read_natural-in-45 c =
    let s = c.args.s.now in
    fits_minus _ c.checked_sub_unsigned.result c.checked_sub_unsigned.ensures
    ∙ signed_some (λ n. neg_ℤ (pos n)) 2147483648 _ (omega arith) c.read_natural.ensures c.in_ok-read_natural-in-45.was
    ∙ rw (behind_first s) (sym (number_minus s (search rules)))

pub returns-in_ok-read_natural-in_default : goal.returns-in_ok-read_natural-in_default
returns-in_ok-read_natural-in_default c =
    let s = c.args.s.now in
    let n : get_or s 0 0 ≡ 45 → ⊥ =
    elim c.in_default.branch [ in_default-via-then-s-lt1 w ↦ no_minus s (search rules) | in_default-via-else-s-lt1+in_default-1 w ↦ search rules ] in
    fits_plain _ c.checked_add_unsigned.result c.checked_add_unsigned.ensures
    ∙ signed_some pos 2147483647 _ (omega arith) c.read_natural-in_default.ensures c.in_ok-read_natural-in_default.was
    ∙ sym (number_plain s n)

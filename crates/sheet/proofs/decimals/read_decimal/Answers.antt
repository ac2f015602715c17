-- `sheet::decimals::read_decimal` meets its contract. Assumes nothing.
use Rattle.rules.proofs.Base.{◌∙◌, sym, ap}
use Rattle.rules.specs.Sheets.{negated, unsigned_decimal}
use Rattle.sheet.proofs.Fronts.{from_place}
use Rattle.sheet.proofs.Fractions.{no_byte_there, without_minus, with_minus}
use Rattle.sheet.proofs.decimals.read_decimal.Goals as goal
use Rattle.sheet.proofs.decimals.read_decimal.Goals.{then-s-eq0-via-then-s-eq0, then-s-eq0-via-else-s-eq0+then-s-ne45}

pub returns-then-s-eq0 : goal.returns-then-s-eq0
returns-then-s-eq0 c =
    elim c.then-s-eq0.branch [
      | then-s-eq0-via-then-s-eq0 w ↦ c.read_unsigned.ensures ∙ no_byte_there c.args.s.now w.if-s-eq0.true
      | then-s-eq0-via-else-s-eq0+then-s-ne45 w ↦ c.read_unsigned.ensures ∙ sym (without_minus c.args.s.now w.if-s-eq0.false w.if-s-ne45.true)
    ]

pub returns-in_err-read_unsigned : goal.returns-in_err-read_unsigned
unfolding negated
returns-in_err-read_unsigned c =
    c.from_residual.ensures
    ∙ ap negated (sym c.in_err-read_unsigned.was ∙ c.read_unsigned-2.ensures ∙ ap unsigned_decimal (from_place c.args.s.now 1))
    ∙ sym (with_minus c.args.s.now c.if-s-eq0.false c.if-s-ne45.false)

pub returns : goal.returns
unfolding negated
returns c =
    ap negated (sym c.in_ok-read_unsigned.was ∙ c.read_unsigned-2.ensures ∙ ap unsigned_decimal (from_place c.args.s.now 1))
    ∙ sym (with_minus c.args.s.now c.if-s-eq0.false c.if-s-ne45.false)

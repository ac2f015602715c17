-- `sheet::values::value_at` meets its contract. Assumes nothing.
use Rattle.rules.proofs.Base.{◌∙◌, sym, ap, Some, Bool, length, ℤ, rules}
use Rattle.std.specs.Bool.{then_some}
use mir.Syntax.{w32}
use mir.ValLaws.{to_z-of_z}
use Rattle.rules.specs.declared.Value.TheVariants as value
use Rattle.sheet.proofs.Readings.{number_read, decimal_read, word_read}
use Rattle.sheet.proofs.values.value_at.Goals as goal

pub returns-in-Some : goal.returns-in-Some
returns-in-Some c =
    ap (λ (z : ℤ). Some (value.Number z)) (to_z-of_z w32 _ (search rules))
    ∙ number_read c.args.place c.args.s.now (sym c.read_number.ensures ∙ c.in-Some.is)

pub returns-in-Some-read_decimal : goal.returns-in-Some-read_decimal
returns-in-Some-read_decimal c =
    decimal_read c.args.place c.args.s.now (sym c.read_number.ensures ∙ c.in_default.is) (sym c.read_decimal.ensures ∙ c.in-Some-read_decimal.is)

pub returns : goal.returns
returns c =
    c.then_some.ensures
    ∙ ap (λ (b : Bool). then_some b (value.Word c.args.place (length c.args.s.now))) c.is_name.ensures
    ∙ word_read c.args.place c.args.s.now (sym c.read_number.ensures ∙ c.in_default.is) (sym c.read_decimal.ensures ∙ c.in_default-read_decimal.is)

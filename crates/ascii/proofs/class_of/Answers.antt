-- `ascii::class_of` meets its contract. Assumes nothing.
use Rattle.rules.proofs.Base.{◌∙◌, sym, arith}
use Rattle.rules.proofs.Classes.{class_upper, class_lower, class_digit, class_underscore, class_space, class_tab, class_below, class_above}
use Rattle.ascii.proofs.class_of.Goals as goal

pub returns-in_default : goal.returns-in_default
returns-in_default c = class_below _ c.if-x-lt48.true c.in_default.in_default-own.rest.1 (λ h k. omega (arith, c.in_default.if-x-lt9-own.true))

pub returns-in_default-2 : goal.returns-in_default-2
returns-in_default-2 c = class_below _ c.if-x-lt48.true c.in_default.in_default-own.rest.1 (λ h k. omega (arith, c.in_default.if-x-lt11-own.false))

pub returns-in-9 : goal.returns-in-9
returns-in-9 c = class_space _ c.in-9.is

pub returns-in-9-2 : goal.returns-in-9-2
returns-in-9-2 c = class_tab _ (omega (arith, c.in-9.if-x-lt9-own.false)) (omega (arith, c.in-9.if-x-lt11-own.true))

pub returns-then-x-le57 : goal.returns-then-x-le57
returns-then-x-le57 c = class_digit _ (omega (arith, c.if-x-lt48.false)) (omega (arith, c.if-x-le57.true))

pub returns-then-is_upper : goal.returns-then-is_upper
returns-then-is_upper c = class_upper _ (sym c.is_upper.ensures ∙ c.if-is_upper.true)

pub returns-then-is_lower : goal.returns-then-is_lower
returns-then-is_lower c = class_lower _ (sym c.is_upper.ensures ∙ c.if-is_upper.false) (sym c.is_lower.ensures ∙ c.if-is_lower.true)

pub returns-in-95 : goal.returns-in-95
returns-in-95 c = class_underscore _ c.in-95.is

pub returns-in_default-x : goal.returns-in_default-x
returns-in_default-x c =
    class_above _
    (omega (arith, c.if-x-le57.false))
    (sym c.is_upper.ensures ∙ c.if-is_upper.false)
    (sym c.is_lower.ensures ∙ c.if-is_lower.false)
    c.in_default-x.in_default-x-own.rest.1

-- `expander::events::role_of` meets its contract. Assumes nothing.
use Rattle.rules.proofs.Base.{◌∙◌, sym}
use Rattle.expander.proofs.StepLaws.{role_left, role_closes, role_right, role_separates, role_comma, role_dropped, role_blank, role_other}
use Rattle.expander.proofs.events.role_of.Goals as goal

pub returns-then-depth-eq0 : goal.returns-then-depth-eq0
returns-then-depth-eq0 c = role_closes _ _ _ c.in-41.is c.if-depth-eq0.true

pub returns-then-depth-eq0-2 : goal.returns-then-depth-eq0-2
returns-then-depth-eq0-2 c = role_separates _ _ _ c.in-44.is c.if-depth-eq0-2.true

pub returns-then-not-collected : goal.returns-then-not-collected
returns-then-not-collected c =
    let o = c.in_default.in_default-own.rest in
    role_dropped _ _ _ o.0.0.1 o.0.1 o.1 (sym c.is_blank.ensures ∙ c.if-is_blank.true) c.if-not-collected.true

pub returns-then-is_blank : goal.returns-then-is_blank
returns-then-is_blank c =
    let o = c.in_default.in_default-own.rest in
    role_blank _ _ _ o.0.0.1 o.0.1 o.1 (sym c.is_blank.ensures ∙ c.if-is_blank.true) c.if-not-collected.false

pub returns-in-40 : goal.returns-in-40
returns-in-40 c = role_left _ _ _ c.in-40.is

pub returns-else-depth-eq0 : goal.returns-else-depth-eq0
returns-else-depth-eq0 c = role_right _ _ _ c.in-41.is c.if-depth-eq0.false

pub returns-else-depth-eq0-2 : goal.returns-else-depth-eq0-2
returns-else-depth-eq0-2 c = role_comma _ _ _ c.in-44.is c.if-depth-eq0-2.false

pub returns-else-is_blank : goal.returns-else-is_blank
returns-else-is_blank c =
    let o = c.in_default.in_default-own.rest in
    role_other _ _ _ o.0.0.1 o.0.1 o.1 (sym c.is_blank.ensures ∙ c.if-is_blank.false)

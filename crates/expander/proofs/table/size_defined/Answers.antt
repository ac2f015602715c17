-- `expander::table::size_defined` meets its contract: the laws `size_replaced` and `size_pushed`. Assumes nothing.
use Rattle.rules.proofs.Base.{sym, ◌≤◌, ◌+◌, ◌*◌, ◌∙◌, ap, arith, length}
use Rattle.expander.specs.Table.{rows}
use Rattle.expander.proofs.Packing.{formed, string_fits}
use Rattle.expander.proofs.Changing.{found_strings, size_replaced, size_pushed, few_strings}
use Rattle.expander.proofs.table.size_defined.Goals as goal
use Rattle.expander.proofs.table.size_defined.Goals.{After-string-old, In-Some}

-- the definition at the place has its strings
within_for : (c : In-Some) → 2 * c.in-Some.i + 2 ≤ c.args.packed.count
within_for c =
    let d = c.requires.valid_definitions in
    found_strings d.holds c.args.name.now c.in-Some.i (sym (c.requires.ds_value d.definitions d.holds) ∙ c.in-Some.is)

old_fits : (c : After-string-old) → length c.string-old.result.now ≤ c.args.packed.used
old_fits c =
    let d = c.requires.valid_definitions in
    let k = 2 * c.in-Some.i + 1 in
    let within = found_strings d.holds c.args.name.now c.in-Some.i (sym (c.requires.ds_value d.definitions d.holds) ∙ c.in-Some.is) in
    omega (arith, ap length (c.string-old.ensures (rows d.definitions) d.holds.packs), string_fits d.holds.packs k (omega (arith, within)))

pub returns-in-Some : goal.returns-in-Some
returns-in-Some c =
    λ t x h ex.
    omega (
      arith,
      size_replaced t h c.args.name.now x c.in-Some.i (sym (c.requires.ds_value t.definitions h) ∙ c.in-Some.is),
      ap length (c.string-old.ensures (rows t.definitions) h.packs),
      old_fits (goal.at.returns-in-Some c).After-string-old,
    )

pub returns-in-None : goal.returns-in-None
returns-in-None c =
    λ t x h ex. omega (arith, size_pushed t h c.args.name.now x (sym (c.requires.ds_value t.definitions h) ∙ c.in-None.is))

pub overflow_mul-k : goal.overflow_mul-k
overflow_mul-k c = omega (arith, within_for (goal.at.overflow_mul-k c).In-Some, few_strings c.requires.valid_definitions.holds)

pub overflow_add-k : goal.overflow_add-k
overflow_add-k c = omega (arith, within_for (goal.at.overflow_add-k c).In-Some, few_strings c.requires.valid_definitions.holds)

pub string-old-requires : goal.string-old-requires
string-old-requires c = record { formed = formed c.requires.valid_definitions.holds.packs; k_lt_count = omega (arith, within_for (goal.at.string-old-requires c).In-Some) }

pub overflow_sub-result : goal.overflow_sub-result
overflow_sub-result c = old_fits (goal.at.overflow_sub-result c).After-string-old

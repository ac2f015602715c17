-- `expander::defining::copy_text` meets its contract. Assumes nothing.
use Rattle.rules.proofs.Base.{◌+◌, ◌*◌, ◌≡◌, refl, sym, ap, [], arith, length, get_or}
use Rattle.rules.specs.Table.{text, Table, defined}
use Rattle.expander.specs.Table.{rows, DefinitionsIn}
use Rattle.expander.proofs.Packing.{formed, string_fits}
use Rattle.expander.proofs.Rows.{valid}
use Rattle.expander.proofs.DefiningLaws.{overfilled, changed}
use Rattle.expander.proofs.defining.copy_text.Goals as goal
use Rattle.expander.proofs.defining.copy_text.Goals.{After-string-n}

-- how long the text is
long : (c : After-string-n) (t : Table) → DefinitionsIn c.args.definitions.now c.args.table_ends.now c.args.m.table.packed t.definitions
    → length (get_or (rows t.definitions) (2 * c.args.i + 1) []) ≡ length c.string-n.result.now
long c t h = ap length (sym (c.string-n.ensures (rows t.definitions) h.packs))

pub size_defined-size-requires : goal.size_defined-size-requires
size_defined-size-requires c =
    let h = c.requires.valid.represents.table.holds in
    let l = long (goal.at.size_defined-size-requires c).After-string-n c.requires.valid.state.table h in record { valid_definitions = valid h; ds_value = c.newest-place.ensures; n_len_bound = omega (arith, c.requires.name_nonzero, l, string_fits h.packs (2 * c.args.i + 1) (omega (arith, c.requires.name_nonzero)), h.packs.used_in, h.bytes_most) }

pub returns-then-definitions-size : goal.returns-then-definitions-size
returns-then-definitions-size c =
    let p = c.args in
    λ a s b r.
    let x = get_or (rows s.table.definitions) (2 * p.i + 1) [] in
    let z = c.size_defined-size.ensures s.table x r.table.holds (long (goal.at.returns-then-definitions-size c).After-string-n s.table r.table.holds) in
    overfilled r (defined p.name.now (text x) s.table) refl (omega (arith, z, c.if-definitions-size.true)) c.refused.ensures

pub copy_at-t-requires : goal.copy_at-t-requires
copy_at-t-requires c =
    let z = c.size_defined-size.ensures in
    let p = c.args in record { valid_definitions = valid c.requires.valid.represents.table.holds; ds_value = c.newest-place.ensures; name_nonzero = (c.requires.name_nonzero.0, c.requires.name_nonzero.2); t_in_bounds = λ t g. omega (arith, z t (get_or (rows t.definitions) (2 * p.i + 1) []) g (long (goal.at.copy_at-t-requires c).After-string-n t g), c.if-definitions-size.false) }

pub returns : goal.returns
returns c =
    let p = c.args in
    let d = c.copy_at-t in
    λ a s b r.
    changed r (defined p.name.now (text (get_or (rows s.table.definitions) (2 * p.i + 1) [])) s.table) refl (d.ensures s.table r.table) d.auto.bytes d.auto.ends
    c.with_table.ensures c.on.ensures

pub string-n-requires : goal.string-n-requires
string-n-requires c = record { formed = formed c.requires.valid.represents.table.holds.packs; k_lt_count = c.requires.name_nonzero.2 }

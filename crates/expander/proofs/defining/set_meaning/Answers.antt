-- `expander::defining::set_meaning` meets its contract. Assumes nothing.
use Rattle.rules.proofs.Base.{refl, sym, ap, arith, length}
use Rattle.expander.specs.Table.{meaning_text, new_meaning}
use Rattle.rules.specs.Table.{defined}
use Rattle.expander.proofs.Rows.{valid}
use Rattle.expander.proofs.DefiningLaws.{cost_means, overfilled, changed}
use Rattle.expander.proofs.defining.set_meaning.Goals as goal

pub size_defined-size-requires : goal.size_defined-size-requires
size_defined-size-requires c = record { valid_definitions = valid c.requires.valid.represents.table.holds; ds_value = c.newest-place.ensures; n_len_bound = omega (arith, c.requires.name_nonzero.1, ap length c.text.ensures) }

pub returns-then-definitions-size : goal.returns-then-definitions-size
returns-then-definitions-size c =
    let p = c.args in
    λ a s b k r.
    let z = c.size_defined-size.ensures s.table (meaning_text (new_meaning p.new)) r.table.holds (sym (ap length c.text.ensures)) in
    overfilled r (defined p.name.now (new_meaning p.new) s.table) refl
    (omega (arith, z, cost_means {m = new_meaning p.new} (record { text_is = refl; number_is = refl; numbered = k }) p.name.now s.table, c.if-definitions-size.true)) c.refused.ensures

pub define_at-t-requires : goal.define_at-t-requires
define_at-t-requires c =
    let z = c.size_defined-size.ensures in record { valid_definitions = valid c.requires.valid.represents.table.holds; ds_value = c.newest-place.ensures; name_nonzero = c.requires.name_nonzero.0; t_in_bounds = λ t g. omega (arith, z t (meaning_text (new_meaning c.args.new)) g (sym (ap length c.text.ensures)), c.if-definitions-size.false) }

pub returns : goal.returns
returns c =
    let p = c.args in
    let d = c.define_at-t in
    λ a s b k r.
    changed r (defined p.name.now (new_meaning p.new) s.table) refl (d.ensures s.table k r.table) d.auto.bytes d.auto.ends c.with_table.ensures c.on.ensures

-- `expander::table::Definitions::define_at` meets its contract: the laws `replaced_in` and `defined_own`. Assumes nothing.
use Rattle.rules.proofs.Base.{length, sym, ◌≤◌, ◌+◌, ◌*◌, ◌∙◌, ap, arith}
use Rattle.rules.specs.Table.{Table}
use Rattle.expander.specs.Table.{rows, meaning_text, new_meaning}
use Rattle.expander.proofs.Packing.{formed, string_length}
use Rattle.expander.proofs.Changing.{found_strings, size_replaced, size_pushed, few_strings, replaced_in, defined_own}
use Rattle.expander.proofs.table.Definitions.define_at.Goals as goal
use Rattle.expander.proofs.table.Definitions.define_at.Goals.{In-Some}

-- the definition at the place has its strings
within_for : (c : In-Some) → 2 * c.in-Some.i + 2 ≤ c.args.self.packed.count
within_for c =
    let d = c.requires.valid_definitions in
    found_strings d.holds c.args.name.now c.in-Some.i (sym (c.requires.ds_value d.definitions d.holds) ∙ c.in-Some.is)

pub replace-packed-requires : goal.replace-packed-requires
replace-packed-requires c =
    let d = c.requires.valid_definitions in
    let t : Table = record { definitions = d.definitions; own = 0 } in record {
      formed = formed d.holds.packs;
      k_lt_count = (omega (arith, within_for (goal.at.replace-packed-requires c).In-Some), omega (arith, d.holds.bytes_most));
      s_in_bounds = λ ss h.
          omega (
            arith,
            c.requires.t_in_bounds t d.holds,
            ap length c.text.ensures,
            size_replaced t d.holds c.args.name.now (meaning_text (new_meaning c.args.new)) c.in-Some.i (sym (c.requires.ds_value d.definitions d.holds) ∙ c.in-Some.is),
            string_length h d.holds.packs (2 * c.in-Some.i + 1) (omega (arith, within_for (goal.at.replace-packed-requires c).In-Some)),
          );
    }

pub put-requires : goal.put-requires
put-requires c =
    let d = c.requires.valid_definitions in
    (c.replace-packed.auto.ends ∙ d.holds.ends_are, omega (arith, within_for (goal.at.put-requires c).In-Some, few_strings d.holds))

pub push-requires : goal.push-requires
push-requires c =
    let d = c.requires.valid_definitions in
    let t : Table = record { definitions = d.definitions; own = 0 } in record {
      valid_definitions = d;
      name_nonzero = c.requires.name_nonzero;
      new_in_bounds = omega (
        arith,
        c.requires.t_in_bounds t d.holds,
        size_pushed t d.holds c.args.name.now (meaning_text (new_meaning c.args.new)) (sym (c.requires.ds_value d.definitions d.holds) ∙ c.in-None.is),
      );
    }

pub returns-in-Some : goal.returns-in-Some
returns-in-Some c =
    let r = c.replace-packed in
    let p = c.put in
    λ t k h.
    replaced_in h c.args.name.now r.auto.bytes r.auto.ends p.auto.ends c.args.self.packed.count (few_strings h.holds) r.ensures.ends_unchanged c.in-Some.i (new_meaning c.args.new) (record { text_is = sym c.text.ensures; number_is = sym c.number-number.ensures; numbered = k }) c.requires.name_nonzero
    (sym (c.requires.ds_value t.definitions h.holds) ∙ c.in-Some.is) (r.ensures.packs (rows t.definitions) h.holds.packs) p.ensures

pub returns-in-None : goal.returns-in-None
returns-in-None c =
    let e = c.in-None.is in
    λ t n h.
    defined_own h c.args.name.now (new_meaning c.args.new) (sym (c.requires.ds_value t.definitions h.holds) ∙ e) c.own_lost-lost.ensures
    (λ u _ k. c.push.ensures u n k)

pub overflow_mul-k : goal.overflow_mul-k
overflow_mul-k c = omega (arith, within_for (goal.at.overflow_mul-k c).In-Some, few_strings c.requires.valid_definitions.holds)

pub overflow_add-k : goal.overflow_add-k
overflow_add-k c = omega (arith, within_for (goal.at.overflow_add-k c).In-Some, few_strings c.requires.valid_definitions.holds)

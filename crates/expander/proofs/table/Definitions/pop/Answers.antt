-- `expander::table::Definitions::pop` meets its contract: the newest definition is taken out, with its byte and from its chain, else the name's own meaning is lost. Assumes nothing.
use Rattle.rules.proofs.Base.{sym, ◌≤◌, ◌+◌, ◌*◌, ◌∙◌, refl, suc, ◌++◌, arith, take, drop}
use Rattle.hashing.proofs.Laws.{bucket_below}
use Rattle.expander.specs.Table.{rows}
use Rattle.expander.proofs.Packing.{formed}
use Rattle.expander.proofs.MeaningLaws.{packs_kept}
use Rattle.expander.proofs.Changing.{found_strings, removed_rows, removed_few, chains_stay, popped_in, popped_own, few_strings}
use Rattle.expander.proofs.table.Definitions.pop.Goals as goal
use Rattle.expander.proofs.table.Definitions.pop.Goals.{In-Some}

-- the definition that was found has its strings
within_for : (c : In-Some) → 2 * c.in-Some.i + 2 ≤ c.args.self.packed.count
within_for c =
    let d = c.requires in
    found_strings d.holds c.args.name.now c.in-Some.i (sym (c.newest_in-place.ensures c.args.self.packed d.definitions d.holds) ∙ c.in-Some.is)

pub remove_two-packed-requires : goal.remove_two-packed-requires
remove_two-packed-requires c = record { formed = formed c.requires.holds.packs; k_bound = (within_for (goal.at.remove_two-packed-requires c).In-Some, omega (arith, c.requires.holds.bytes_most)) }

pub close_up-requires : goal.close_up-requires
close_up-requires c =
    let d = c.requires in
    (c.remove_two-packed.auto.ends ∙ d.holds.ends_are, omega (arith, within_for (goal.at.close_up-requires c).In-Some), omega (arith, few_strings d.holds))

pub leave-requires : goal.leave-requires
leave-requires c =
    let d = c.requires in
    let ds = d.definitions in
    let r = c.remove_two-packed in
    let u = c.close_up in
    let i = c.in-Some.i in
    let p = removed_rows {ends₁ = r.new.ends} {r = r.result} ds i (r.ensures.packs (rows ds) d.holds.packs) in
    let few = removed_few d.holds r.auto.bytes i {ends₁ = r.new.ends} {r = r.result} p in record {
      rows_in = record { definitions = take i ds ++ drop (suc i) ds; packs = packs_kept {before = r.new.ends} u.ensures.ends u.auto.ends few p };
      ends_len = (
        u.auto.ends ∙ r.auto.ends ∙ d.holds.ends_are,
        few,
        (chains_stay d.holds r.new.ends {ends₂ = u.new.ends} c.args.self.packed.count (few_strings d.holds) r.ensures.ends_unchanged u.ensures.chains).candidates,
        omega (arith, c.bucket_of-bucket.ensures, bucket_below c.args.name.now),
        omega (arith, within_for (goal.at.leave-requires c).In-Some, few_strings d.holds),
      );
    }

pub returns-in-Some : goal.returns-in-Some
returns-in-Some c =
    let r = c.remove_two-packed in
    let u = c.close_up in
    let l = c.leave in
    λ t h.
    popped_in h c.args.name.now r.auto.bytes r.auto.ends u.auto.ends c.args.self.packed.count (few_strings h.holds) r.ensures.ends_unchanged l.auto.ends l.ensures.ends_unchanged c.in-Some.i
    (sym (c.newest_in-place.ensures c.args.self.packed t.definitions h.holds) ∙ c.in-Some.is) refl (r.ensures.packs (rows t.definitions) h.holds.packs) u.ensures
    (λ ds m e ch p. l.ensures.chained ds m (c.bucket_of-bucket.ensures ∙ e) ch p)

pub returns-in-None : goal.returns-in-None
returns-in-None c =
    λ t h.
    popped_own h c.args.name.now (sym (c.newest_in-place.ensures c.args.self.packed t.definitions h.holds) ∙ c.in-None.is) c.own_lost-lost.ensures

pub newest_in-place-requires : goal.newest_in-place-requires
newest_in-place-requires c = record { some_definitions = record { packed = c.args.self.packed; valid = c.requires }; bucket_value = c.bucket_of-bucket.ensures }

pub overflow_mul-k : goal.overflow_mul-k
overflow_mul-k c = omega (arith, within_for (goal.at.overflow_mul-k c).In-Some, few_strings c.requires.holds)

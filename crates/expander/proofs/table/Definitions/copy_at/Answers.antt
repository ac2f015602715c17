-- `expander::table::Definitions::copy_at` meets its contract: the laws `replaced_in` and `defined_own`, for a text that stands in the table. Assumes nothing.
use Rattle.rules.proofs.Base.{sym, ℕ, ◌≤◌, ◌<◌, ◌+◌, ◌*◌, ◌∙◌, ◌≡◌, refl, ap, List, [], ◌++◌, ◌∷◌, arith, length, get_or, List·getD-append, drop}
use Rattle.rules.specs.Bytes.{Bytes}
use Rattle.rules.specs.Table.{Definition, text, Table}
use Rattle.hashing.proofs.Laws.{bucket_below}
use Rattle.expander.specs.Limits.{bucket_count, meanings_start}
use Rattle.expander.specs.Table.{rows}
use Rattle.expander.proofs.Packing.{formed, count_is, string_length}
use Rattle.expander.proofs.Parts.{kept_two}
use Rattle.expander.proofs.Changing.{text_means, found_strings, size_replaced, size_pushed, few_strings, room_for_two, heads_stay, pushed_in, replaced_in, defined_own}
use Rattle.expander.proofs.table.Definitions.copy_at.Goals as goal
use Rattle.expander.proofs.table.Definitions.copy_at.Goals.{After-push_copy-packed, In-Some, In-None}

-- the definitions that are known to be there
abbrev table : List Definition → Table
table ds = record { definitions = ds; own = 0 }

-- the text that is copied
abbrev copied : List Definition → ℕ → Bytes
copied ds from = get_or (rows ds) (2 * from + 1) []

-- the definition at the place has its strings
within_for : (c : In-Some) → 2 * c.in-Some.i + 2 ≤ c.args.self.packed.count
within_for c =
    let d = c.requires.valid_definitions in
    found_strings d.holds c.args.name.now c.in-Some.i (sym (c.requires.ds_value d.definitions d.holds) ∙ c.in-Some.is)

-- a new one has room
fits_for : (c : In-None) → c.args.self.packed.used + (length c.args.name.now + length (copied c.requires.valid_definitions.definitions c.args.from)) ≤ length c.args.bytes.now
fits_for c =
    let d = c.requires.valid_definitions in
    omega (
      arith,
      c.requires.t_in_bounds (table d.definitions) d.holds,
      size_pushed (table d.definitions) d.holds c.args.name.now (copied d.definitions c.args.from) (sym (c.requires.ds_value d.definitions d.holds) ∙ c.in-None.is),
    )

ends_room : (c : In-None) → c.args.self.packed.count + 2 ≤ meanings_start
ends_room c =
    room_for_two c.requires.valid_definitions.holds (length c.args.name.now + length (copied c.requires.valid_definitions.definitions c.args.from)) (omega (arith, c.requires.name_nonzero.0)) (fits_for c)

-- the text that is copied is that of the same string once the name stands behind
same_text : (ds : List Bytes) (w : Bytes) (k : ℕ) → k < length ds → get_or (ds ++ (w ∷ [])) k [] ≡ get_or ds k []
same_text ds w k h = List·getD-append ds (w ∷ []) [] k h

-- both strings were pushed behind the others
kept : (c : After-push_copy-packed)
    → drop (c.args.self.packed.count + 2) c.push_copy-packed.new.ends ≡ drop (c.args.self.packed.count + 2) c.args.ends.now
kept c =
    let f = c.push_string-named in
    kept_two _ _ _ c.args.self.packed.count f.result.count f.ensures.count_value.0 c.push_copy-packed.ensures.ends_unchanged f.ensures.count_value.2

pub copy_over-packed-requires : goal.copy_over-packed-requires
copy_over-packed-requires c =
    let d = c.requires.valid_definitions in
    record {
      formed = formed d.holds.packs;
      k_lt_count = (omega (arith, within_for (goal.at.copy_over-packed-requires c).In-Some), omega (arith, c.requires.name_nonzero), omega (arith, d.holds.bytes_most));
      from_in_bounds = λ ss h.
          omega (
            arith,
            c.requires.t_in_bounds (table d.definitions) d.holds,
            size_replaced (table d.definitions) d.holds c.args.name.now (copied d.definitions c.args.from) c.in-Some.i (sym (c.requires.ds_value d.definitions d.holds) ∙ c.in-Some.is),
            string_length h d.holds.packs (2 * c.in-Some.i + 1) (omega (arith, within_for (goal.at.copy_over-packed-requires c).In-Some)),
            string_length h d.holds.packs (2 * c.args.from + 1) (omega (arith, c.requires.name_nonzero)),
          );
    }

pub put-requires : goal.put-requires
put-requires c =
    let d = c.requires.valid_definitions in
    (c.copy_over-packed.auto.ends ∙ d.holds.ends_are, omega (arith, within_for (goal.at.put-requires c).In-Some, few_strings d.holds))

pub push_string-named-requires : goal.push_string-named-requires
push_string-named-requires c =
    let d = c.requires.valid_definitions in record { count_in_bounds = omega (arith, ends_room (goal.at.push_string-named-requires c).In-None, d.holds.ends_are); s_in_bounds = (omega (arith, fits_for (goal.at.push_string-named-requires c).In-None), omega (arith, d.holds.bytes_most)) }

pub push_copy-packed-requires : goal.push_copy-packed-requires
push_copy-packed-requires c =
    let d = c.requires.valid_definitions in
    let f = c.push_string-named in
    let w = c.args.name.now in
    let k = 2 * c.args.from + 1 in
    let g = f.ensures.packs (rows d.definitions) d.holds.packs in record {
      formed = formed g;
      k_lt_count = (omega (arith, c.requires.name_nonzero, f.ensures.count_value.0), omega (arith, ends_room (goal.at.push_copy-packed-requires c).In-None, f.ensures.count_value.0, f.auto.ends, d.holds.ends_are), omega (arith, d.holds.bytes_most, f.auto.bytes));
      k_in_bounds = λ ss h.
          omega (
            arith,
            fits_for (goal.at.push_copy-packed-requires c).In-None,
            f.ensures.count_value.1,
            f.auto.bytes,
            string_length h g k (omega (arith, c.requires.name_nonzero, f.ensures.count_value.0)),
            ap length (same_text (rows d.definitions) w k (omega (arith, c.requires.name_nonzero, count_is d.holds.packs))),
          );
    }

pub put-requires-in-None : goal.put-requires-in-None
put-requires-in-None c =
    (c.push_copy-packed.auto.ends ∙ c.push_string-named.auto.ends ∙ c.requires.valid_definitions.holds.ends_are, omega (arith, ends_room (goal.at.put-requires-in-None c).In-None))

pub returns-in-Some : goal.returns-in-Some
returns-in-Some c =
    let r = c.copy_over-packed in
    let p = c.put in
    λ t h.
    let x = get_or (rows t.definitions) (2 * c.args.from + 1) [] in
    replaced_in h c.args.name.now r.auto.bytes r.auto.ends p.auto.ends c.args.self.packed.count (few_strings h.holds) r.ensures.ends_unchanged c.in-Some.i (text x) (text_means x)
    c.requires.name_nonzero.0 (sym (c.requires.ds_value t.definitions h.holds) ∙ c.in-Some.is) (r.ensures.packs (rows t.definitions) h.holds.packs) p.ensures

pub join-requires : goal.join-requires
join-requires c =
    let f = c.push_string-named in
    let p = c.put-in-None in
    let b : c.bucket_of.result < bucket_count = omega (arith, c.bucket_of.ensures, bucket_below c.args.name.now) in (
      p.auto.ends ∙ c.push_copy-packed.auto.ends ∙ f.auto.ends ∙ c.requires.valid_definitions.holds.ends_are,
      b,
      omega (arith, ends_room (goal.at.join-requires c).In-None),
      heads_stay c.requires.valid_definitions.holds c.push_copy-packed.new.ends p.new.ends (c.args.self.packed.count + 2) (ends_room (goal.at.join-requires c).In-None) (kept (goal.at.join-requires c).After-push_copy-packed) p.ensures.chains c.bucket_of.result b,
    )

pub returns-in-None : goal.returns-in-None
returns-in-None c =
    let f = c.push_string-named in
    let p = c.put-in-None in
    let j = c.join in
    let w = c.args.name.now in
    let k = 2 * c.args.from + 1 in
    λ t h.
    let x = get_or (rows t.definitions) k [] in
    defined_own h w (text x) (sym (c.requires.ds_value t.definitions h.holds) ∙ c.in-None.is) c.own_lost-lost.ensures
    (λ u eu q.
    pushed_in q w (c.push_copy-packed.auto.bytes ∙ f.auto.bytes) (c.push_copy-packed.auto.ends ∙ f.auto.ends) p.auto.ends (c.args.self.packed.count + 2) (ends_room (goal.at.returns-in-None c).In-None) (kept (goal.at.returns-in-None c).After-push_copy-packed)
    j.auto.ends j.ensures.ends_unchanged (text x) (text_means x) (omega (arith, c.requires.name_nonzero)) refl
    (rw (same_text (rows u.definitions) w k (omega (arith, c.requires.name_nonzero, count_is q.holds.packs)) ∙ ap (λ l. get_or (rows l) k []) eu) at
    (c.push_copy-packed.ensures.packs (rows u.definitions ++ (w ∷ [])) (f.ensures.packs (rows u.definitions) q.holds.packs)))
    p.ensures (λ ds d m b ch. j.ensures.chained ds d m (c.bucket_of.ensures ∙ b) ch))

pub overflow_mul-k : goal.overflow_mul-k
overflow_mul-k c = omega (arith, within_for (goal.at.overflow_mul-k c).In-Some, few_strings c.requires.valid_definitions.holds)

pub overflow_add-k : goal.overflow_add-k
overflow_add-k c = omega (arith, within_for (goal.at.overflow_add-k c).In-Some, few_strings c.requires.valid_definitions.holds)

-- `expander::calling::bare` meets its contract. Assumes nothing.
use Rattle.rules.proofs.Base.{sym, ◌∙◌, ◌≡◌, ℕ, ◌≤◌, Option, [], arith, length, take}
use Rattle.rules.specs.Source.{ahead}
use Rattle.rules.specs.Table.{Meaning, meaning_of}
use Rattle.rules.specs.State.{State, taking}
use Rattle.rules.specs.Run.{Setting}
use Rattle.rules.specs.Bytes.{Bytes}
use Rattle.expander.specs.Arguments.{args_of}
use Rattle.expander.specs.Events.{NameFound}
use Rattle.expander.specs.Held.{strings_from}
use Rattle.expander.specs.Table.{Finds}
use Rattle.expander.specs.Machine.{Memory, Represents, input_at, pending_at, strings_at, definitions_at, sinks_at, wrap_at, errors_at, source_set}
use Rattle.expander.specs.declared.table.Meaning.TheVariants as looked
use Rattle.builtins.proofs.BuiltinLaws.{performs_result, performs_index, performs_change}
use Rattle.expander.proofs.MacroLaws.{valid_at, valid_of}
use Rattle.expander.proofs.CallingLaws.{found_short, held_none, Ready, text_within, ready_in, calls_text, calls_as, calls_nothing, refines_after, name_ahead, name_long, name_is, name_fits, ready_bare}
use Rattle.expander.proofs.calling.bare.Goals as goal
use Rattle.expander.proofs.calling.bare.Goals.{After-advanced-to, Start}

-- the memory lent
abbrev lent : Start → Memory → Memory
lent c b =
    let a = c.args in
    input_at a.text.now a.set.now
    (pending_at a.pending.now
    (strings_at a.calls.now a.ends.now
    (definitions_at a.definitions.now a.table_ends.now
    (sinks_at a.streams.now a.owners.now a.output.now (wrap_at a.wrap.now (errors_at a.errors.now b))))))

abbrev lent_then : After-advanced-to → Memory → Memory
lent_then c b =
    let a = c.args in
    input_at a.text.now a.set.now
    (pending_at a.pending.now
    (strings_at a.calls.now a.ends.now
    (definitions_at a.definitions.now a.table_ends.now
    (sinks_at a.streams.now a.owners.now a.output.now (wrap_at a.wrap.now (errors_at a.errors.now b))))))

-- what is left to do, whatever the buffers hold that are not lent
left : (c : After-advanced-to) {a : Setting} {s : State} (b : Memory) {w : Option Meaning} → Represents a (lent_then c b) c.args.m s
    → Finds s.table.definitions w c.args.meaning
    → Ready a (lent_then c b) (source_set c.advanced-to.result c.args.m) (strings_from c.args.ends.now c.args.m.calls.strings c.args.calls.now c.args.m.calls.strings.count) w c.args.meaning []
    (taking c.args.n s)
left c {s = s} b m f = let k = c.requires.reach in ready_bare m k (c.advanced-to.ensures c.args.text.now s.source m.source (name_ahead m k)) f

-- what the name means in some state that is represented
abbrev name_of : Start → State → Bytes
name_of c s = take c.args.n (ahead s.source)

found : (c : Start)
    → Finds c.requires.valid_name.valid.state.table.definitions (meaning_of (name_of c c.requires.valid_name.valid.state) c.requires.valid_name.valid.state.table) c.args.meaning
unfolding NameFound
found c = c.requires.valid_name.found

-- a name that means a text fits the scratch
fits : (c : Start) {i : ℕ} → c.args.meaning ≡ looked.Text i → c.args.n ≤ length c.args.scratch.now
fits c e =
    let h = c.requires.valid_name.valid in
    omega (arith, found_short h.represents.table (name_of c h.state) (found c) e, name_long h.represents c.requires.reach, c.requires.scratch_len)

pub copy_name-requires : goal.copy_name-requires
copy_name-requires c =
    let m = c.requires.valid_name.valid.represents in
    (m.source.from_in, m.source.taken_in, omega (arith, c.requires.reach.some), fits (goal.at.copy_name-requires c).Start c.in-Text.is)

pub invariant_of-x : goal.invariant_of-x
invariant_of-x c = let m = c.requires.valid_name.valid.represents in record { held = held_none m.calls m.limits.calls_most }

pub invariant_of-x-in-Result : goal.invariant_of-x-in-Result
invariant_of-x-in-Result c = let m = c.requires.valid_name.valid.represents in record { held = held_none m.calls m.limits.calls_most }

pub invariant_of-x-in-Index : goal.invariant_of-x-in-Index
invariant_of-x-in-Index c = let m = c.requires.valid_name.valid.represents in record { held = held_none m.calls m.limits.calls_most }

pub invariant_of-x-in-Change : goal.invariant_of-x-in-Change
invariant_of-x-in-Change c = let m = c.requires.valid_name.valid.represents in record { held = held_none m.calls m.limits.calls_most }

pub give_text-g-requires-clause-valid_at : goal.give_text-g-requires-clause-valid_at
give_text-g-requires-clause-valid_at c =
    let h = c.requires.valid_name.valid in
    let q = left (goal.at.give_text-g-requires-clause-valid_at c).After-advanced-to h.others h.represents (found (goal.at.give_text-g-requires-clause-valid_at c).Start) in
    valid_of (lent (goal.at.give_text-g-requires-clause-valid_at c).Start h.others) c.args.m q.represents

pub give_text-g-requires-clause-name_len_bound : goal.give_text-g-requires-clause-name_len_bound
give_text-g-requires-clause-name_len_bound c =
    let h = c.requires.valid_name.valid in
    let q = left (goal.at.give_text-g-requires-clause-name_len_bound c).After-advanced-to h.others h.represents (found (goal.at.give_text-g-requires-clause-name_len_bound c).Start) in
    (name_fits h.represents c.requires.reach c.copy_name.ensures (omega (arith, fits (goal.at.give_text-g-requires-clause-name_len_bound c).Start c.in-Text.is, c.requires.scratch_len)), text_within q c.in-Text.is)

pub give-g-requires : goal.give-g-requires
give-g-requires c =
    let h = c.requires.valid_name.valid in
    let q = left (goal.at.give-g-requires c).After-advanced-to h.others h.represents (found (goal.at.give-g-requires c).Start) in
    record { valid_at = valid_of (lent (goal.at.give-g-requires c).Start h.others) c.args.m q.represents }

pub search-g-requires : goal.search-g-requires
search-g-requires c =
    let h = c.requires.valid_name.valid in
    let q = left (goal.at.search-g-requires c).After-advanced-to h.others h.represents (found (goal.at.search-g-requires c).Start) in
    record { valid_at = valid_of (lent (goal.at.search-g-requires c).Start h.others) c.args.m q.represents }

pub perform-requires-clause-valid : goal.perform-requires-clause-valid
perform-requires-clause-valid c =
    let h = c.requires.valid_name.valid in
    let q = left (goal.at.perform-requires-clause-valid c).After-advanced-to h.others h.represents (found (goal.at.perform-requires-clause-valid c).Start) in
    valid_at (lent (goal.at.perform-requires-clause-valid c).Start h.others) (ready_in q c.with_source-after.ensures).represents

pub returns-in-Text : goal.returns-in-Text
unfolding args_of
returns-in-Text c =
    λ a s b w m f.
    let q = left (goal.at.returns-in-Text c).After-advanced-to b m f in
    let g = c.give_text-g in
    refines_after g.result c.with_source.ensures c.given.ensures
    (calls_text q (name_of (goal.at.returns-in-Text c).Start s) c.in-Text.is (name_is m c.requires.reach c.copy_name.ensures)
    (g.ensures a (taking c.args.n s) (lent (goal.at.returns-in-Text c).Start b) c.args.m q.represents))

pub returns-in-Result : goal.returns-in-Result
unfolding args_of
returns-in-Result c =
    λ a s b w m f.
    let q = left (goal.at.returns-in-Result c).After-advanced-to b m f in
    let g = c.give-g in
    refines_after g.result c.with_source-in-Result.ensures c.given-in-Result.ensures
    (calls_as q (name_of (goal.at.returns-in-Result c).Start s) c.in-Predefined.is (performs_result _ (sym c.in-Result.is ∙ c.kind_of.ensures))
    (g.ensures a (taking c.args.n s) (lent (goal.at.returns-in-Result c).Start b) c.args.m q.represents))

pub returns-in-Index : goal.returns-in-Index
unfolding args_of
returns-in-Index c =
    λ a s b w m f.
    let q = left (goal.at.returns-in-Index c).After-advanced-to b m f in
    let g = c.search-g in
    refines_after g.result c.with_source-in-Index.ensures c.given-in-Index.ensures
    (calls_as q (name_of (goal.at.returns-in-Index c).Start s) c.in-Predefined.is (performs_index _ (sym c.in-Index.is ∙ c.kind_of.ensures))
    (g.ensures a (taking c.args.n s) (lent (goal.at.returns-in-Index c).Start b) c.args.m q.represents))

pub returns-in-Change : goal.returns-in-Change
unfolding args_of
returns-in-Change c =
    λ a s b w m f.
    let q = ready_in (left (goal.at.returns-in-Change c).After-advanced-to b m f) c.with_source-after.ensures in
    calls_as q (name_of (goal.at.returns-in-Change c).Start s) c.in-Predefined.is (performs_change _ (sym c.in-Change.is ∙ c.kind_of.ensures))
    (c.perform.ensures a (taking c.args.n s) (lent (goal.at.returns-in-Change c).Start b) q.represents)

pub returns-in-Undefined : goal.returns-in-Undefined
returns-in-Undefined c =
    λ a s b w m f.
    calls_nothing (left (goal.at.returns-in-Undefined c).After-advanced-to b m f) (name_of (goal.at.returns-in-Undefined c).Start s) c.in-Undefined.is c.refused.ensures

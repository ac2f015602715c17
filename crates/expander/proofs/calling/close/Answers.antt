-- `expander::calling::close` meets its contract. Assumes nothing.
use Rattle.rules.proofs.Base.{sym, ◌∙◌, ◌+◌, ap, ◌≡◌, List, [], ◌++◌, ◌∷◌, arith, length}
use Rattle.rules.specs.Bytes.{Bytes}
use Rattle.rules.specs.Table.{meaning_of}
use Rattle.rules.specs.State.{Call, State, with_calls}
use Rattle.rules.specs.Run.{Setting}
use Rattle.hashing.specs.Hashing.{bucket_of}
use Rattle.expander.specs.Arguments.{args_of}
use Rattle.expander.specs.Held.{strings_from}
use Rattle.expander.specs.Machine.{Memory, Represents, input_at, pending_at, calls_at, definitions_at, sinks_at, wrap_at, errors_at, calls_set}
use Rattle.expander.specs.Calls.{open_strings, CallsIn}
use Rattle.builtins.proofs.BuiltinLaws.{performs_result, performs_index, performs_change}
use Rattle.expander.proofs.MacroLaws.{valid_at, valid_of}
use Rattle.expander.proofs.CallingLaws.{Innermost, innermost, first_within, first_few, held_closed, name_closed, name_short, Ready, text_within, ready_in, calls_text, calls_as, calls_nothing, refines_after, opened_calls, ready_closed, closes}
use Rattle.expander.proofs.calling.close.Goals as goal
use Rattle.expander.proofs.calling.close.Goals.{After-first_string-first, After-meaning_of, Start}

-- the memory lent
abbrev lent : Start → Memory → Memory
lent c b =
    let a = c.args in
    input_at a.text.now a.set.now
    (pending_at a.pending.now
    (calls_at a.calls.now a.ends.now a.stack.now
    (definitions_at a.definitions.now a.table_ends.now
    (sinks_at a.streams.now a.owners.now a.output.now (wrap_at a.wrap.now (errors_at a.errors.now b))))))

-- the open calls of some state that is represented, and the first string of the innermost one
abbrev top : (c : Start) → Innermost c.requires.valid.state.calls
top c = innermost c.requires.valid.represents.calls c.requires.opens_nonzero

abbrev calls : (c : Start) → CallsIn c.args.calls.now c.args.ends.now c.args.stack.now c.args.m.calls ((top c).call ∷ (top c).below)
calls c = opened_calls c.requires.valid.represents (top c).is

abbrev top_then : (c : After-first_string-first) → Innermost c.requires.valid.state.calls
top_then c = innermost c.requires.valid.represents.calls c.requires.opens_nonzero

first : (c : After-first_string-first) → c.first_string-first.result ≡ length (open_strings (top_then c).below)
first c =
    let t = top_then c in
    c.first_string-first.ensures c.args.calls.now c.args.ends.now t.call t.below (opened_calls c.requires.valid.represents t.is)

-- the memory, once the innermost call is closed
abbrev lent_then : After-meaning_of → Memory → Memory
lent_then c b =
    let a = c.args in
    input_at a.text.now a.set.now
    (pending_at a.pending.now
    (calls_at a.calls.now a.ends.now a.stack.now
    (definitions_at a.definitions.now a.table_ends.now
    (sinks_at a.streams.now a.owners.now a.output.now (wrap_at a.wrap.now (errors_at a.errors.now b))))))

abbrev given_args : Call → List Bytes
given_args k = k.finished ++ (k.current ∷ [])

-- whatever the buffers hold that are not lent: the innermost call's name, and what is left to do
module _
    (c : After-meaning_of) {a : Setting} {s : State} (b : Memory) {k : Call} {ks : List Call}
    (m : Represents a (lent_then c b) c.args.m s) (e : s.calls ≡ k ∷ ks)
  where
    first_of : c.first_string-first.result ≡ length (open_strings ks)
    first_of = c.first_string-first.ensures c.args.calls.now c.args.ends.now k ks (opened_calls m e)

    name : c.string-name.result.now ≡ k.name
    name = name_closed (opened_calls m e) c.first_string-first.result first_of c.string-name.ensures

    left : Ready a (lent_then c b) (calls_set c.closed-left.result c.args.m)
        (strings_from c.args.ends.now c.args.m.calls.strings c.args.calls.now (c.first_string-first.result + 1))
        (meaning_of k.name (with_calls ks s).table) c.meaning_of.result (given_args k)
        (with_calls ks s)
    left =
        let o = opened_calls m e in
        let closed = c.closed-left.ensures c.args.calls.now c.args.stack.now k ks o first_of in
        ready_closed m e first_of c.string-name.ensures closed c.meaning_of.ensures

pub overflow_add-x : goal.overflow_add-x
overflow_add-x c = omega (arith, first_few (calls (goal.at.overflow_add-x c).Start) c.first_string-first.result (first (goal.at.overflow_add-x c).After-first_string-first))

pub string-name-requires-clause-k_lt_count : goal.string-name-requires-clause-k_lt_count
string-name-requires-clause-k_lt_count c =
    omega (arith, first_within (calls (goal.at.string-name-requires-clause-k_lt_count c).Start) c.first_string-first.result (first (goal.at.string-name-requires-clause-k_lt_count c).After-first_string-first))

pub closed-left-requires : goal.closed-left-requires
closed-left-requires c =
    let n = first_few (calls (goal.at.closed-left-requires c).Start) c.first_string-first.result (first (goal.at.closed-left-requires c).After-first_string-first) in
    (c.requires.opens_nonzero, omega (arith, n, c.requires.valid.represents.limits.call_ends))

pub meaning_of-requires-clause-bucket_value : goal.meaning_of-requires-clause-bucket_value
meaning_of-requires-clause-bucket_value c =
    let m = calls (goal.at.meaning_of-requires-clause-bucket_value c).Start in
    let t = top (goal.at.meaning_of-requires-clause-bucket_value c).Start in
    let name = name_closed m c.first_string-first.result (first (goal.at.meaning_of-requires-clause-bucket_value c).After-first_string-first) c.string-name.ensures in
    c.bucket.ensures c.args.calls.now c.args.ends.now t.call t.below m ∙ ap bucket_of (sym name)

pub invariant_of-x : goal.invariant_of-x
invariant_of-x c =
    record { held = held_closed (calls (goal.at.invariant_of-x c).Start) c.first_string-first.result (first (goal.at.invariant_of-x c).After-first_string-first) c.requires.valid.represents.limits.calls_most }

pub invariant_of-x-in-Result : goal.invariant_of-x-in-Result
invariant_of-x-in-Result c =
    record { held = held_closed (calls (goal.at.invariant_of-x-in-Result c).Start) c.first_string-first.result (first (goal.at.invariant_of-x-in-Result c).After-first_string-first) c.requires.valid.represents.limits.calls_most }

pub invariant_of-x-in-Index : goal.invariant_of-x-in-Index
invariant_of-x-in-Index c =
    record { held = held_closed (calls (goal.at.invariant_of-x-in-Index c).Start) c.first_string-first.result (first (goal.at.invariant_of-x-in-Index c).After-first_string-first) c.requires.valid.represents.limits.calls_most }

pub invariant_of-x-in-Change : goal.invariant_of-x-in-Change
invariant_of-x-in-Change c =
    record { held = held_closed (calls (goal.at.invariant_of-x-in-Change c).Start) c.first_string-first.result (first (goal.at.invariant_of-x-in-Change c).After-first_string-first) c.requires.valid.represents.limits.calls_most }

pub give_text-g-requires-clause-valid_at : goal.give_text-g-requires-clause-valid_at
give_text-g-requires-clause-valid_at c =
    let h = c.requires.valid in
    let q = left (goal.at.give_text-g-requires-clause-valid_at c).After-meaning_of h.others h.represents (top (goal.at.give_text-g-requires-clause-valid_at c).Start).is in
    valid_of (lent (goal.at.give_text-g-requires-clause-valid_at c).Start h.others) (calls_set c.closed-left.result c.args.m) q.represents

pub give_text-g-requires-clause-name_len_bound : goal.give_text-g-requires-clause-name_len_bound
give_text-g-requires-clause-name_len_bound c =
    let h = c.requires.valid in
    let p = goal.at.give_text-g-requires-clause-name_len_bound c in
    let q = left p.After-meaning_of h.others h.represents (top p.Start).is in
    (name_short (calls p.Start) c.first_string-first.result (first p.After-first_string-first) c.string-name.ensures h.represents.limits.calls_most, text_within q c.in-Text.is)

pub give-g-requires : goal.give-g-requires
give-g-requires c =
    let h = c.requires.valid in
    let p = goal.at.give-g-requires c in
    let q = left p.After-meaning_of h.others h.represents (top p.Start).is in
    record { valid_at = valid_of (lent p.Start h.others) (calls_set c.closed-left.result c.args.m) q.represents }

pub search-g-requires : goal.search-g-requires
search-g-requires c =
    let h = c.requires.valid in
    let p = goal.at.search-g-requires c in
    let q = left p.After-meaning_of h.others h.represents (top p.Start).is in
    record { valid_at = valid_of (lent p.Start h.others) (calls_set c.closed-left.result c.args.m) q.represents }

pub perform-requires-clause-valid : goal.perform-requires-clause-valid
perform-requires-clause-valid c =
    let h = c.requires.valid in
    let p = goal.at.perform-requires-clause-valid c in
    let q = left p.After-meaning_of h.others h.represents (top p.Start).is in
    valid_at (lent p.Start h.others) (ready_in q c.with_calls-after.ensures).represents

pub returns-in-Text : goal.returns-in-Text
unfolding args_of
returns-in-Text c =
    λ a s b k ks m e.
    let q = left (goal.at.returns-in-Text c).After-meaning_of b m e in
    let g = c.give_text-g in
    refines_after g.result c.with_calls.ensures c.given.ensures
    (closes k ks s
    (calls_text q k.name c.in-Text.is (name (goal.at.returns-in-Text c).After-meaning_of b m e)
    (g.ensures a (with_calls ks s) (lent_then (goal.at.returns-in-Text c).After-meaning_of b) (calls_set c.closed-left.result c.args.m) q.represents)))

pub returns-in-Result : goal.returns-in-Result
unfolding args_of
returns-in-Result c =
    λ a s b k ks m e.
    let q = left (goal.at.returns-in-Result c).After-meaning_of b m e in
    let g = c.give-g in
    refines_after g.result c.with_calls-in-Result.ensures c.given-in-Result.ensures
    (closes k ks s
    (calls_as q k.name c.in-Predefined.is (performs_result _ (sym c.in-Result.is ∙ c.kind_of.ensures))
    (g.ensures a (with_calls ks s) (lent_then (goal.at.returns-in-Result c).After-meaning_of b) (calls_set c.closed-left.result c.args.m) q.represents)))

pub returns-in-Index : goal.returns-in-Index
unfolding args_of
returns-in-Index c =
    λ a s b k ks m e.
    let q = left (goal.at.returns-in-Index c).After-meaning_of b m e in
    let g = c.search-g in
    refines_after g.result c.with_calls-in-Index.ensures c.given-in-Index.ensures
    (closes k ks s
    (calls_as q k.name c.in-Predefined.is (performs_index _ (sym c.in-Index.is ∙ c.kind_of.ensures))
    (g.ensures a (with_calls ks s) (lent_then (goal.at.returns-in-Index c).After-meaning_of b) (calls_set c.closed-left.result c.args.m) q.represents)))

pub returns-in-Change : goal.returns-in-Change
unfolding args_of
returns-in-Change c =
    λ a s b k ks m e.
    let q = ready_in (left (goal.at.returns-in-Change c).After-meaning_of b m e) c.with_calls-after.ensures in
    closes k ks s
    (calls_as q k.name c.in-Predefined.is (performs_change _ (sym c.in-Change.is ∙ c.kind_of.ensures))
    (c.perform.ensures a (with_calls ks s) (lent_then (goal.at.returns-in-Change c).After-meaning_of b) q.represents))

pub returns-in-Undefined : goal.returns-in-Undefined
returns-in-Undefined c =
    λ a s b k ks m e.
    closes k ks s (calls_nothing (left (goal.at.returns-in-Undefined c).After-meaning_of b m e) k.name c.in-Undefined.is c.refused.ensures)

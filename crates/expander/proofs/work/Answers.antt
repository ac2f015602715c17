-- `expander::work` meets its contract: the run over links and texts of its own, and what it wrote copied out. Assumes nothing.
use Rattle.rules.proofs.Base.{◌∙◌, ℕ, List, refl, sym, ◌≡◌, ◌++◌, length, drop, take, replicate}
use Rattle.rules.specs.Bytes.{Bytes}
use Rattle.rules.specs.State.{fresh_start, start_state}
use Rattle.rules.specs.Run.{Setting, Ended, lengths, run_from}
use Rattle.rules.specs.Contract.{setting_of}
use Rattle.expander.specs.Limits.{most_lent, call_ends_length, stack_length, table_ends_length}
use Rattle.expander.specs.Machine.{Memory, memory, Limits}
use Rattle.expander.specs.Run.{Leaves, Lent, Ran}
use Rattle.expander.proofs.RunLaws.{leaves_few, leaves_ran}
use Rattle.expander.proofs.ExpandLaws.{Items, good_items, wrote_nothing, wrote_started, lent_limits, part_size, ran_longer, output_few, errors_few, wrote}
use Rattle.expander.proofs.work.Goals as goal
use Rattle.expander.proofs.work.Goals.{After-report_of-r, After-run-h, Start, Else-not-is_good}

-- what is lent
record Given : Type 0 where
  text : Bytes
  set : Bytes
  pending : Bytes
  calls : Bytes
  definitions : Bytes
  streams : Bytes
  wrap : Bytes
  errors : Bytes
  output : Bytes
  budget : ℕ

abbrev setting : Given → Setting
setting a =
    setting_of
    (record {
      pending = a.pending;
      calls = a.calls;
      definitions = a.definitions;
      streams = a.streams;
      wrap = a.wrap;
      errors = a.errors;
      output = a.output;
    })
    a.budget

-- none of it is above 65,536 bytes
abbrev Few : Given → Type 0
Few a = Lent (length a.text) (length a.pending) (length a.calls) (length a.definitions) (length a.streams) (length a.wrap) (length a.errors) (length a.output)

-- a text of its own, and the parts of it that the run gets and does not get
abbrev fresh : Bytes
fresh = replicate most_lent 0

abbrev error_rest : Given → Bytes
error_rest a = drop (length a.errors) fresh

abbrev output_rest : Given → Bytes
output_rest a = drop (length a.output) fresh

error_size : (a : Given) → Few a → length a.errors ≡ length (take (length a.errors) fresh)
error_size a l = part_size (length a.errors) fresh l.errors_in

output_size : (a : Given) → Few a → length a.output ≡ length (take (length a.output) fresh)
output_size a l = part_size (length a.output) fresh l.output_in

-- the memory of the run as it begins, with the chains of no definition
abbrev begun : Given → List ℕ → Memory
begun a chains =
    memory a.text a.set a.pending a.calls (replicate call_ends_length 0) (replicate stack_length 0) a.definitions chains
    a.streams (replicate most_lent 0) a.wrap (take (length a.errors) fresh) (take (length a.output) fresh)

limits : (a : Given) → Few a → (chains : List ℕ) → length chains ≡ table_ends_length → Limits (setting a) (begun a chains)
limits a l chains e =
    lent_limits a.text a.set a.pending a.calls a.definitions a.streams a.wrap a.errors a.output fresh fresh
    (replicate call_ends_length 0) (replicate stack_length 0) chains (replicate most_lent 0) a.budget l
    (record { ends_are = refl; stack_are = refl; table_ends_are = e; owners_are = refl }) refl refl

abbrev whole : (a : Given) → Items a.set → Ended
whole a i = run_from (lengths (setting a)) a.budget 0 (start_state i.items (fresh_start a.text a.set))

-- what is lent, at each place
abbrev first : Start → Given
first c =
    let a = c.args in
    record { text = a.text.now; set = a.set.now; pending = a.pending.now; calls = a.calls.now; definitions = a.definitions.now; streams = a.streams.now; wrap = a.wrap.now; errors = a.errors.now; output = a.output.now; budget = a.budget }

abbrev at_run : After-run-h → Given
at_run c =
    let a = c.args in
    record { text = a.text.now; set = a.set.now; pending = a.pending.now; calls = a.calls.now; definitions = a.definitions.now; streams = a.streams.now; wrap = a.wrap.now; errors = a.errors.now; output = a.output.now; budget = a.budget }

abbrev at_report : After-report_of-r → Given
at_report c =
    let a = c.args in
    record { text = a.text.now; set = a.set.now; pending = a.pending.now; calls = a.calls.now; definitions = a.definitions.now; streams = a.streams.now; wrap = a.wrap.now; errors = a.errors.now; output = a.output.now; budget = a.budget }

-- the set is good
items : (c : Else-not-is_good) → Items c.args.set.now
items c = good_items c.args.set.now (sym c.if-not-is_good.false ∙ c.is_good.ensures)

items_run : (c : After-run-h) → Items c.args.set.now
items_run c = good_items c.args.set.now (sym c.if-not-is_good.false ∙ c.is_good.ensures)

items_report : (c : After-report_of-r) → Items c.args.set.now
items_report c = good_items c.args.set.now (sym c.if-not-is_good.false ∙ c.is_good.ensures)

-- the run, and what it left
leaves :
    (c : After-run-h) → let l = c.run-h.new in
    Leaves (setting (at_run c)) (whole (at_run c) (items_run c))
    (memory c.args.text.now c.args.set.now l.pending l.calls l.ends l.stack l.definitions l.table_ends l.streams l.owners l.wrap l.errors l.output) c.run-h.result
leaves c = c.run-h.ensures (setting (at_run c)) (items_run c).items (items_run c).are (limits (at_run c) c.requires c.begin.new.ends c.begin.auto.ends)

-- the report, made of what the run left
ran : (c : After-report_of-r) → Ran (whole (at_report c) (items_report c)) c.run-h.new.errors c.run-h.new.output c.report_of-r.result
ran c = leaves_ran (c.run-h.ensures (setting (at_report c)) (items_report c).items (items_report c).are (limits (at_report c) c.requires c.begin.new.ends c.begin.auto.ends)) c.report_of-r.ensures

longer : (c : After-report_of-r) → Ran (whole (at_report c) (items_report c)) (c.run-h.new.errors ++ error_rest (at_report c)) (c.run-h.new.output ++ output_rest (at_report c)) c.report_of-r.result
longer c = ran_longer (ran c) (error_rest (at_report c)) (output_rest (at_report c))

-- output and error text kept their lengths, those of the lent buffers
kept_output : (c : After-report_of-r) → length c.run-h.new.output ≡ length c.args.output.now
kept_output c = c.run-h.auto.output ∙ sym (output_size (at_report c) c.requires)

kept_errors : (c : After-report_of-r) → length c.run-h.new.errors ≡ length c.args.errors.now
kept_errors c = c.run-h.auto.errors ∙ sym (error_size (at_report c) c.requires)

pub returns-then-not-is_good : goal.returns-then-not-is_good
returns-then-not-is_good c =
    wrote_nothing c.args.set.now _ (setting (first (goal.at.returns-then-not-is_good c).Start)) (sym c.if-not-is_good.true ∙ c.is_good.ensures) c.not_started.ensures

pub returns : goal.returns
unfolding setting_of
returns c =
    let r = (goal.at.returns c).After-report_of-r in
    wrote_started c.args.set.now _ (setting (at_report r)) (items_report r)
    (wrote (longer r) c.copy_front-2.ensures c.copy_front.ensures)

pub begin-requires : goal.begin-requires
begin-requires c = refl

pub slice_bounds-error_text-end : goal.slice_bounds-error_text-end
slice_bounds-error_text-end c = c.requires.errors_in

pub slice_bounds-run-end-5 : goal.slice_bounds-run-end-5
slice_bounds-run-end-5 c = error_size (first (goal.at.slice_bounds-run-end-5 c).Start) c.requires

pub slice_bounds-output_text-end : goal.slice_bounds-output_text-end
slice_bounds-output_text-end c = c.requires.output_in

pub slice_bounds-run-end-6 : goal.slice_bounds-run-end-6
slice_bounds-run-end-6 c = output_size (first (goal.at.slice_bounds-run-end-6 c).Start) c.requires

pub run-h-requires : goal.run-h-requires
run-h-requires c =
    let i = items (goal.at.run-h-requires c).Else-not-is_good in
    let s = first (goal.at.run-h-requires c).Start in
    let k = c.begin in
    (record { setting = setting s; limits = limits s c.requires k.new.ends k.auto.ends; items = i.items; items_are = i.are; chained = k.ensures }, refl)

pub report_of-r-requires : goal.report_of-r-requires
report_of-r-requires c = leaves_few (leaves (goal.at.report_of-r-requires c).After-run-h)

pub slice_bounds-output_text-end-2 : goal.slice_bounds-output_text-end-2
slice_bounds-output_text-end-2 c = (longer (goal.at.slice_bounds-output_text-end-2 c).After-report_of-r).output_are.inside

pub slice_bounds-copy_front-end : goal.slice_bounds-copy_front-end
slice_bounds-copy_front-end c =
    let r = (goal.at.slice_bounds-copy_front-end c).After-report_of-r in
    part_size c.report_of-r.result.output (c.run-h.new.output ++ output_rest (at_report r)) (longer r).output_are.inside

pub copy_front-requires : goal.copy_front-requires
copy_front-requires c =
    let r = (goal.at.copy_front-requires c).After-report_of-r in
    output_few (ran r) (error_rest (at_report r)) (output_rest (at_report r)) _ (kept_output r)

pub slice_bounds-error_text-end-2 : goal.slice_bounds-error_text-end-2
slice_bounds-error_text-end-2 c = (longer (goal.at.slice_bounds-error_text-end-2 c).After-report_of-r).errors_are.inside

pub slice_bounds-copy_front-end-2 : goal.slice_bounds-copy_front-end-2
slice_bounds-copy_front-end-2 c =
    let r = (goal.at.slice_bounds-copy_front-end-2 c).After-report_of-r in
    part_size c.report_of-r.result.errors (c.run-h.new.errors ++ error_rest (at_report r)) (longer r).errors_are.inside

pub copy_front-requires-2 : goal.copy_front-requires-2
copy_front-requires-2 c =
    let r = (goal.at.copy_front-requires-2 c).After-report_of-r in
    errors_few (ran r) (error_rest (at_report r)) (output_rest (at_report r)) _ (kept_errors r)

pub shape_of-pending : goal.shape_of-pending
shape_of-pending c = c.run-h.auto.pending

pub shape_of-calls : goal.shape_of-calls
shape_of-calls c = c.run-h.auto.calls

pub shape_of-definitions : goal.shape_of-definitions
shape_of-definitions c = c.run-h.auto.definitions

pub shape_of-streams : goal.shape_of-streams
shape_of-streams c = c.run-h.auto.streams

pub shape_of-wrap : goal.shape_of-wrap
shape_of-wrap c = c.run-h.auto.wrap

pub shape_of-errors : goal.shape_of-errors
shape_of-errors c = c.copy_front-2.auto.dst

pub shape_of-output : goal.shape_of-output
shape_of-output c = c.copy_front.auto.dst

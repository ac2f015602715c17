-- `expander::run::run` meets its contract. Assumes nothing.
use Rattle.rules.proofs.Base.{◌≤◌, ◌+◌, ℕ, ◌-◌, ◌<◌, ◌∙◌, refl, ap, ◌≡◌, Some, List, [], le_trans, le_of_lt, arith}
use Rattle.rules.specs.Bytes.{Bytes}
use Rattle.rules.specs.Sets.{Item, set_items}
use Rattle.rules.specs.State.{fresh_start, start_state}
use Rattle.rules.specs.Step.{step}
use Rattle.rules.specs.Run.{Setting, Ended, lengths, run_from}
use Rattle.expander.specs.Machine.{Memory, memory, Limits, Refines, set_at, wrap_at, errors_at}
use Rattle.expander.specs.Run.{AfterPlainSteps, SpecialNext}
use Rattle.expander.proofs.RunLaws.{begun, run_spent, run_refused, run_ended, run_on, recount, leaves_recount, reached_stop, reached_special, counted, counted_one, one_less, step_fits, none_left, all_counted}
use Rattle.expander.proofs.run.run.Invariants.{SameLengths}
use Rattle.expander.proofs.run.run.Goals as goal
use Rattle.expander.proofs.run.run.Goals.{After-run_plain-s, After-special_step-t}

-- every part of the memory is lent
abbrev none_other : Memory
none_other = memory [] [] [] [] [] [] [] [] [] [] [] [] []

-- the whole run
abbrev whole : Bytes → Bytes → ℕ → List Item → Setting → Ended
whole text set budget is a = run_from (lengths a) budget 0 (start_state is (fresh_start text set))

-- the items of the set
abbrev Items : Bytes → List Item → Type 0
Items set is = set_items set ≡ Some is

-- what the plain steps are not lent of the memory
abbrev unlent : Bytes → Bytes → Bytes → Memory
unlent set wrap errors = set_at set (wrap_at wrap (errors_at errors none_other))

-- ---- after the plain steps: the memory at the entry, and theirs

abbrev lent : After-run_plain-s → Memory
lent c =
    let a = c.args in
    memory a.text.now a.set.now a.pending.now a.calls.now a.ends.now a.stack.now a.definitions.now a.table_ends.now a.streams.now
    a.owners.now a.wrap.now a.errors.now a.output.now

abbrev after_plain : After-run_plain-s → Memory
after_plain c =
    let o = c.loop-left in
    let n = c.run_plain-s.new in
    memory c.args.text.now c.args.set.now o.pending n.calls n.ends n.stack o.definitions o.table_ends n.streams n.owners o.wrap o.errors
    n.output

-- no length has changed
kept_plain : (c : After-run_plain-s) → SameLengths (after_plain c) c.run_plain-s.new.scratch (lent c) c.args.scratch.now
kept_plain c =
    let i = c.loop-left.invariant.1 in
    let k = c.run_plain-s.auto in
    (i.0, k.calls ∙ i.1, k.ends ∙ i.2, k.stack ∙ i.3, i.4, i.5, k.streams ∙ i.6, k.owners ∙ i.7, i.8, i.9, k.output ∙ i.10, k.scratch ∙ i.11)

-- what the plain steps came to
plain_ran : (c : After-run_plain-s) (a : Setting) (is : List Item) → Items c.args.set.now is → Limits a (lent c) → AfterPlainSteps a (after_plain c) (whole c.args.text.now c.args.set.now c.args.budget is a) c.loop-left.left (c.args.budget - c.loop-left.left) c.run_plain-s.result
plain_ran c a is i l =
    let o = c.loop-left in
    c.run_plain-s.ensures a (unlent c.args.set.now o.wrap o.errors) (whole c.args.text.now c.args.set.now c.args.budget is a) (c.args.budget - o.left) (o.invariant.0 a is i l)

few : (c : After-run_plain-s) → c.run_plain-s.result.left ≤ c.loop-left.left
few c =
    let p = c.requires.0 in
    (plain_ran c p.setting p.items p.items_are p.limits).few

few_of_all : (c : After-run_plain-s) → c.run_plain-s.result.left ≤ c.args.budget
few_of_all c = le_trans (few c) c.loop-left.invariant.2

-- the steps before the special one
abbrev count : After-run_plain-s → ℕ
count c = (c.args.budget - c.loop-left.left) + (c.loop-left.left - c.run_plain-s.result.left)

count_is : (c : After-run_plain-s) → count c ≡ c.args.budget - c.run_plain-s.result.left
count_is c = counted (few c) c.loop-left.invariant.2

-- ---- after the special step: the same, and its own memory

abbrev lent_first : After-special_step-t → Memory
lent_first c =
    let a = c.args in
    memory a.text.now a.set.now a.pending.now a.calls.now a.ends.now a.stack.now a.definitions.now a.table_ends.now a.streams.now
    a.owners.now a.wrap.now a.errors.now a.output.now

abbrev before_special : After-special_step-t → Memory
before_special c =
    let o = c.loop-left in
    let n = c.run_plain-s.new in
    memory c.args.text.now c.args.set.now o.pending n.calls n.ends n.stack o.definitions o.table_ends n.streams n.owners o.wrap o.errors
    n.output

abbrev after_special : After-special_step-t → Memory
after_special c =
    let o = c.run_plain-s.new in
    let n = c.special_step-t.new in
    memory c.args.text.now c.args.set.now n.pending o.calls o.ends o.stack n.definitions n.table_ends n.streams n.owners n.wrap n.errors n.output

kept_special : (c : After-special_step-t) → SameLengths (after_special c) c.special_step-t.new.scratch (lent_first c) c.args.scratch.now
kept_special c =
    let i = c.loop-left.invariant.1 in
    let h = c.run_plain-s.auto in
    let k = c.special_step-t.auto in
    (k.pending ∙ i.0, h.calls ∙ i.1, h.ends ∙ i.2, h.stack ∙ i.3, k.definitions ∙ i.4, k.table_ends ∙ i.5, k.streams ∙ h.streams ∙ i.6, k.owners ∙ h.owners ∙ i.7, k.wrap ∙ i.8, k.errors ∙ i.9, k.output ∙ h.output ∙ i.10, k.scratch ∙ h.scratch ∙ i.11)

came : (c : After-special_step-t) (a : Setting) (is : List Item) → Items c.args.set.now is → Limits a (lent_first c) → AfterPlainSteps a (before_special c) (whole c.args.text.now c.args.set.now c.args.budget is a) c.loop-left.left (c.args.budget - c.loop-left.left) c.run_plain-s.result
came c a is i l =
    let o = c.loop-left in
    c.run_plain-s.ensures a (unlent c.args.set.now o.wrap o.errors) (whole c.args.text.now c.args.set.now c.args.budget is a) (c.args.budget - o.left) (o.invariant.0 a is i l)

fewer : (c : After-special_step-t) → c.run_plain-s.result.left ≤ c.loop-left.left
fewer c =
    let p = c.requires.0 in
    (came c p.setting p.items p.items_are p.limits).few

fewer_of_all : (c : After-special_step-t) → c.run_plain-s.result.left ≤ c.args.budget
fewer_of_all c = le_trans (fewer c) c.loop-left.invariant.2

abbrev counts : After-special_step-t → ℕ
counts c = (c.args.budget - c.loop-left.left) + (c.loop-left.left - c.run_plain-s.result.left)

counts_are : (c : After-special_step-t) → counts c ≡ c.args.budget - c.run_plain-s.result.left
counts_are c = counted (fewer c) c.loop-left.invariant.2

-- the special step is next
next : (c : After-special_step-t) (a : Setting) (is : List Item) → Items c.args.set.now is → Limits a (lent_first c) → SpecialNext a (before_special c) (whole c.args.text.now c.args.set.now c.args.budget is a) (counts c) c.run_plain-s.result c.in-Special.e
next c a is i l = reached_special (came c a is i l) c.in-Special.is

more : (c : After-special_step-t) → 0 < c.run_plain-s.result.left
more c =
    let p = c.requires.0 in
    (next c p.setting p.items p.items_are p.limits).more

gives : (c : After-special_step-t) (a : Setting) (is : List Item) (i : Items c.args.set.now is) (l : Limits a (lent_first c)) → Refines a (before_special c) (step (next c a is i l).running.state) (after_special c) c.special_step-t.result
gives c a is i l =
    let g = next c a is i l in
    c.special_step-t.ensures a g.running.state none_other g.running.represents g.is

pub loop-left-init : goal.loop-left-init
loop-left-init c =
    (λ a is i l. recount (begun c.args.budget (c.start-m.ensures a _ is l c.requires.0.chained i refl)) _ (omega arith), (refl, refl, refl, refl, refl, refl, refl, refl, refl, refl, refl, refl), omega arith)

pub run_plain-s-requires : goal.run_plain-s-requires
run_plain-s-requires c =
    let p = c.requires.0 in
    let u = c.loop-left.invariant.0 p.setting p.items p.items_are p.limits in record { valid = record { others = unlent c.args.set.now c.loop-left.wrap c.loop-left.errors; setting = p.setting; state = u.state; represents = u.represents }; scratch_len = c.loop-left.invariant.1.11 ∙ c.requires.1 }

pub returns-in-Stopped : goal.returns-in-Stopped
returns-in-Stopped c =
    λ a is i l.
    leaves_recount (count_is (goal.at.returns-in-Stopped c).After-run_plain-s) (reached_stop (plain_ran (goal.at.returns-in-Stopped c).After-run_plain-s a is i l) c.in-Stopped.is)

pub special_step-t-requires : goal.special_step-t-requires
special_step-t-requires c =
    let p = c.requires.0 in
    let g = reached_special (plain_ran (goal.at.special_step-t-requires c).After-run_plain-s p.setting p.items p.items_are p.limits) c.in-Special.is in record { valid_special = record { valid = record { others = none_other; setting = p.setting; state = g.running.state; represents = g.running.represents }; is = g.is }; special_within = g.within; scratch_len = (kept_plain (goal.at.special_step-t-requires c).After-run_plain-s).11 ∙ c.requires.1 }

pub returns-in-Refused : goal.returns-in-Refused
returns-in-Refused c =
    λ a is i l.
    let g = next (goal.at.returns-in-Refused c).After-special_step-t a is i l in
    leaves_recount (counts_are (goal.at.returns-in-Refused c).After-special_step-t) (run_refused g.running g.more (gives (goal.at.returns-in-Refused c).After-special_step-t a is i l) _ c.in-Refused.is)

pub overflow_add-steps : goal.overflow_add-steps
overflow_add-steps c =
    step_fits (more (goal.at.overflow_add-steps c).After-special_step-t) (fewer_of_all (goal.at.overflow_add-steps c).After-special_step-t) c.ranges.budget

pub returns-in-Ended : goal.returns-in-Ended
returns-in-Ended c =
    λ a is i l.
    let g = next (goal.at.returns-in-Ended c).After-special_step-t a is i l in
    leaves_recount (ap (λ (n : ℕ). n + 1) (counts_are (goal.at.returns-in-Ended c).After-special_step-t)) (run_ended g.running g.more (gives (goal.at.returns-in-Ended c).After-special_step-t a is i l) _ c.in-Ended.is)

pub loop-left-smaller : goal.loop-left-smaller
loop-left-smaller c =
    one_less (fewer (goal.at.loop-left-smaller c).After-special_step-t) (more (goal.at.loop-left-smaller c).After-special_step-t)

pub loop-left-preserved : goal.loop-left-preserved
loop-left-preserved c =
    let i = c.loop-left.invariant in (
      λ a is j l.
          let g = next (goal.at.loop-left-preserved c).After-special_step-t a is j l in
          recount (run_on g.running g.more (gives (goal.at.loop-left-preserved c).After-special_step-t a is j l) c.in-On.is) _ (counted_one (fewer (goal.at.loop-left-preserved c).After-special_step-t) i.2 (more (goal.at.loop-left-preserved c).After-special_step-t)),
      kept_special (goal.at.loop-left-preserved c).After-special_step-t,
      le_trans (le_of_lt (one_less (fewer (goal.at.loop-left-preserved c).After-special_step-t) (more (goal.at.loop-left-preserved c).After-special_step-t))) i.2,
    )

pub returns : goal.returns
returns c =
    λ a is i l.
    let z = c.loop-left-test.false in
    leaves_recount (all_counted c.args.budget z) (run_spent (c.loop-left.invariant.0 a is i l) (none_left z))

pub overflow_sub-steps : goal.overflow_sub-steps
overflow_sub-steps c = few_of_all (goal.at.overflow_sub-steps c).After-run_plain-s

pub shape_of-pending-in-Stopped : goal.shape_of-pending-in-Stopped
shape_of-pending-in-Stopped c = (kept_plain (goal.at.shape_of-pending-in-Stopped c).After-run_plain-s).0

pub shape_of-calls-in-Stopped : goal.shape_of-calls-in-Stopped
shape_of-calls-in-Stopped c = (kept_plain (goal.at.shape_of-calls-in-Stopped c).After-run_plain-s).1

pub shape_of-ends-in-Stopped : goal.shape_of-ends-in-Stopped
shape_of-ends-in-Stopped c = (kept_plain (goal.at.shape_of-ends-in-Stopped c).After-run_plain-s).2

pub shape_of-stack-in-Stopped : goal.shape_of-stack-in-Stopped
shape_of-stack-in-Stopped c = (kept_plain (goal.at.shape_of-stack-in-Stopped c).After-run_plain-s).3

pub shape_of-definitions-in-Stopped : goal.shape_of-definitions-in-Stopped
shape_of-definitions-in-Stopped c = (kept_plain (goal.at.shape_of-definitions-in-Stopped c).After-run_plain-s).4

pub shape_of-table_ends-in-Stopped : goal.shape_of-table_ends-in-Stopped
shape_of-table_ends-in-Stopped c = (kept_plain (goal.at.shape_of-table_ends-in-Stopped c).After-run_plain-s).5

pub shape_of-streams-in-Stopped : goal.shape_of-streams-in-Stopped
shape_of-streams-in-Stopped c = (kept_plain (goal.at.shape_of-streams-in-Stopped c).After-run_plain-s).6

pub shape_of-owners-in-Stopped : goal.shape_of-owners-in-Stopped
shape_of-owners-in-Stopped c = (kept_plain (goal.at.shape_of-owners-in-Stopped c).After-run_plain-s).7

pub shape_of-wrap-in-Stopped : goal.shape_of-wrap-in-Stopped
shape_of-wrap-in-Stopped c = (kept_plain (goal.at.shape_of-wrap-in-Stopped c).After-run_plain-s).8

pub shape_of-errors-in-Stopped : goal.shape_of-errors-in-Stopped
shape_of-errors-in-Stopped c = (kept_plain (goal.at.shape_of-errors-in-Stopped c).After-run_plain-s).9

pub shape_of-output-in-Stopped : goal.shape_of-output-in-Stopped
shape_of-output-in-Stopped c = (kept_plain (goal.at.shape_of-output-in-Stopped c).After-run_plain-s).10

pub shape_of-scratch-in-Stopped : goal.shape_of-scratch-in-Stopped
shape_of-scratch-in-Stopped c = (kept_plain (goal.at.shape_of-scratch-in-Stopped c).After-run_plain-s).11

pub overflow_sub-steps-in-Refused : goal.overflow_sub-steps-in-Refused
overflow_sub-steps-in-Refused c = fewer_of_all (goal.at.overflow_sub-steps-in-Refused c).After-special_step-t

pub shape_of-pending-in-Refused : goal.shape_of-pending-in-Refused
shape_of-pending-in-Refused c = (kept_special (goal.at.shape_of-pending-in-Refused c).After-special_step-t).0

pub shape_of-calls-in-Refused : goal.shape_of-calls-in-Refused
shape_of-calls-in-Refused c = (kept_special (goal.at.shape_of-calls-in-Refused c).After-special_step-t).1

pub shape_of-ends-in-Refused : goal.shape_of-ends-in-Refused
shape_of-ends-in-Refused c = (kept_special (goal.at.shape_of-ends-in-Refused c).After-special_step-t).2

pub shape_of-stack-in-Refused : goal.shape_of-stack-in-Refused
shape_of-stack-in-Refused c = (kept_special (goal.at.shape_of-stack-in-Refused c).After-special_step-t).3

pub shape_of-definitions-in-Refused : goal.shape_of-definitions-in-Refused
shape_of-definitions-in-Refused c = (kept_special (goal.at.shape_of-definitions-in-Refused c).After-special_step-t).4

pub shape_of-table_ends-in-Refused : goal.shape_of-table_ends-in-Refused
shape_of-table_ends-in-Refused c = (kept_special (goal.at.shape_of-table_ends-in-Refused c).After-special_step-t).5

pub shape_of-streams-in-Refused : goal.shape_of-streams-in-Refused
shape_of-streams-in-Refused c = (kept_special (goal.at.shape_of-streams-in-Refused c).After-special_step-t).6

pub shape_of-owners-in-Refused : goal.shape_of-owners-in-Refused
shape_of-owners-in-Refused c = (kept_special (goal.at.shape_of-owners-in-Refused c).After-special_step-t).7

pub shape_of-wrap-in-Refused : goal.shape_of-wrap-in-Refused
shape_of-wrap-in-Refused c = (kept_special (goal.at.shape_of-wrap-in-Refused c).After-special_step-t).8

pub shape_of-errors-in-Refused : goal.shape_of-errors-in-Refused
shape_of-errors-in-Refused c = (kept_special (goal.at.shape_of-errors-in-Refused c).After-special_step-t).9

pub shape_of-output-in-Refused : goal.shape_of-output-in-Refused
shape_of-output-in-Refused c = (kept_special (goal.at.shape_of-output-in-Refused c).After-special_step-t).10

pub shape_of-scratch-in-Refused : goal.shape_of-scratch-in-Refused
shape_of-scratch-in-Refused c = (kept_special (goal.at.shape_of-scratch-in-Refused c).After-special_step-t).11

pub overflow_sub-steps-in-Ended : goal.overflow_sub-steps-in-Ended
overflow_sub-steps-in-Ended c = fewer_of_all (goal.at.overflow_sub-steps-in-Ended c).After-special_step-t

pub shape_of-pending-in-Ended : goal.shape_of-pending-in-Ended
shape_of-pending-in-Ended c = (kept_special (goal.at.shape_of-pending-in-Ended c).After-special_step-t).0

pub shape_of-calls-in-Ended : goal.shape_of-calls-in-Ended
shape_of-calls-in-Ended c = (kept_special (goal.at.shape_of-calls-in-Ended c).After-special_step-t).1

pub shape_of-ends-in-Ended : goal.shape_of-ends-in-Ended
shape_of-ends-in-Ended c = (kept_special (goal.at.shape_of-ends-in-Ended c).After-special_step-t).2

pub shape_of-stack-in-Ended : goal.shape_of-stack-in-Ended
shape_of-stack-in-Ended c = (kept_special (goal.at.shape_of-stack-in-Ended c).After-special_step-t).3

pub shape_of-definitions-in-Ended : goal.shape_of-definitions-in-Ended
shape_of-definitions-in-Ended c = (kept_special (goal.at.shape_of-definitions-in-Ended c).After-special_step-t).4

pub shape_of-table_ends-in-Ended : goal.shape_of-table_ends-in-Ended
shape_of-table_ends-in-Ended c = (kept_special (goal.at.shape_of-table_ends-in-Ended c).After-special_step-t).5

pub shape_of-streams-in-Ended : goal.shape_of-streams-in-Ended
shape_of-streams-in-Ended c = (kept_special (goal.at.shape_of-streams-in-Ended c).After-special_step-t).6

pub shape_of-owners-in-Ended : goal.shape_of-owners-in-Ended
shape_of-owners-in-Ended c = (kept_special (goal.at.shape_of-owners-in-Ended c).After-special_step-t).7

pub shape_of-wrap-in-Ended : goal.shape_of-wrap-in-Ended
shape_of-wrap-in-Ended c = (kept_special (goal.at.shape_of-wrap-in-Ended c).After-special_step-t).8

pub shape_of-errors-in-Ended : goal.shape_of-errors-in-Ended
shape_of-errors-in-Ended c = (kept_special (goal.at.shape_of-errors-in-Ended c).After-special_step-t).9

pub shape_of-output-in-Ended : goal.shape_of-output-in-Ended
shape_of-output-in-Ended c = (kept_special (goal.at.shape_of-output-in-Ended c).After-special_step-t).10

pub shape_of-scratch-in-Ended : goal.shape_of-scratch-in-Ended
shape_of-scratch-in-Ended c = (kept_special (goal.at.shape_of-scratch-in-Ended c).After-special_step-t).11

pub overflow_sub-left : goal.overflow_sub-left
overflow_sub-left c = more (goal.at.overflow_sub-left c).After-special_step-t

pub shape_of-pending : goal.shape_of-pending
shape_of-pending c = c.loop-left.invariant.1.0

pub shape_of-calls : goal.shape_of-calls
shape_of-calls c = c.loop-left.invariant.1.1

pub shape_of-ends : goal.shape_of-ends
shape_of-ends c = c.loop-left.invariant.1.2

pub shape_of-stack : goal.shape_of-stack
shape_of-stack c = c.loop-left.invariant.1.3

pub shape_of-definitions : goal.shape_of-definitions
shape_of-definitions c = c.loop-left.invariant.1.4

pub shape_of-table_ends : goal.shape_of-table_ends
shape_of-table_ends c = c.loop-left.invariant.1.5

pub shape_of-streams : goal.shape_of-streams
shape_of-streams c = c.loop-left.invariant.1.6

pub shape_of-owners : goal.shape_of-owners
shape_of-owners c = c.loop-left.invariant.1.7

pub shape_of-wrap : goal.shape_of-wrap
shape_of-wrap c = c.loop-left.invariant.1.8

pub shape_of-errors : goal.shape_of-errors
shape_of-errors c = c.loop-left.invariant.1.9

pub shape_of-output : goal.shape_of-output
shape_of-output c = c.loop-left.invariant.1.10

pub shape_of-scratch : goal.shape_of-scratch
shape_of-scratch c = c.loop-left.invariant.1.11

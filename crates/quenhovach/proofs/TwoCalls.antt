-- Demand 3 of `quenhovach_expand` itself, in what it gives back and the six numbers of its report: room never shapes text. As for `expand`, it is stated over what
-- a caller learns from the proved contract.
use Rattle.rules.proofs.Base.{ℕ, refl, ◌≡◌, subst₂, List}
use borrow.Fn.World.{ArgsD, ResD}
use borrow.Fn.Kinds.{ended_of}
use contract.Lifetimes.{Lfts}
use denote.Triple.Clauses.{AtExit}
use Rattle.rules.specs.Bytes.{Bytes}
use Rattle.rules.specs.declared.Report.{Report}
use Rattle.rules.specs.Answers.{answer_number, is_stopped, numbers}
use Rattle.rules.specs.Run.{Setting}
use Rattle.rules.specs.Room.{Lendable, NowhereSmaller, stopped_by}
use Rattle.rules.specs.Contract.{Buffers, setting_of, report_of, run_in, written, Agree}
use Rattle.rules.proofs.Contract.{calls_agree}
use Rattle.quenhovach.specs.Agreed.{written_bytes, stopped_at, AgreeInNumbers}
use Rattle.quenhovach.specs.Reported.{Reported}
use Rattle.quenhovach.specs.contracts.quenhovach_expand.{signature}
use Rattle.quenhovach.proofs.quenhovach_expand.Kinds as kinds
use Rattle.quenhovach.proofs.quenhovach_expand.Reads.{Learnt}

-- the numbers of two reports agree as the reports do
in_numbers :
    {a b : Setting} {n m : ℕ} {r t : Report} {x y : Buffers} → n ≡ answer_number r.answer → m ≡ answer_number t.answer → Agree a b r t x y
    → AgreeInNumbers a b n m (numbers r) (numbers t) x y
unfolding numbers is_stopped stopped_by stopped_at written written_bytes
in_numbers e f h = record { given = (e, f); same = h.same; further = h.further; again = h.again }

-- of any function that promises `Reported`
pub reports_agree :
    (text set : Bytes) (n m : ℕ) (before after before' after' : Buffers) (k k' : ℕ) (r r' : List ℕ) → Lendable (setting_of before' m)
    → NowhereSmaller (setting_of before n) (setting_of before' m) → Reported text set n before after k r → Reported text set m before' after' k' r'
    → AgreeInNumbers (setting_of before n) (setting_of before' m) k k' r r' after after'
unfolding report_of
reports_agree text set n m b x b' x' k k' r r' l w e f =
    rw (e.report_is, f.report_is)
    (in_numbers e.number_is f.number_is
    (calls_agree text set n m b x b' x' (report_of (run_in text set b n)) (report_of (run_in text set b' m)) l w (record { report = refl; buffers = e.buffers_are })
    (record { report = refl; buffers = f.buffers_are })))

-- the arguments of a call, and what was lent when it returns
abbrev pub Arguments : Lfts 10 → Type 0
Arguments κs = ArgsD signature κs

abbrev pub Lasting : Lfts 10 → Type 0
Lasting κs = AtExit (ended_of 10 kinds.ps kinds.r) κs

abbrev pub seven : Bytes → Bytes → Bytes → Bytes → Bytes → Bytes → Bytes → Buffers
seven pending calls definitions streams wrap errors output =
    record { pending = pending; calls = calls; definitions = definitions; streams = streams; wrap = wrap; errors = errors; output = output }

-- text, set, budget and buffers of a call; the buffers and the report after it
module _ (κs : Lfts 10) where
  abbrev pub text_of : Arguments κs → Bytes
  text_of a = a.0.now

  abbrev pub set_of : Arguments κs → Bytes
  set_of a = a.1.0.now

  abbrev pub budget_of : Arguments κs → ℕ
  budget_of a = a.1.1.1.1.1.1.1.1.1.0

  abbrev pub lent_to : Arguments κs → Buffers
  lent_to a =
      seven a.1.1.0.now a.1.1.1.0.now a.1.1.1.1.0.now a.1.1.1.1.1.0.now a.1.1.1.1.1.1.0.now a.1.1.1.1.1.1.1.0.now
      a.1.1.1.1.1.1.1.1.0.now

  abbrev pub left_from : Lasting κs → Buffers
  left_from x =
      seven x.1.1.0.now x.1.1.1.0.now x.1.1.1.1.0.now x.1.1.1.1.1.0.now x.1.1.1.1.1.1.0.now x.1.1.1.1.1.1.1.0.now
      x.1.1.1.1.1.1.1.1.0.now

  abbrev pub report_in : Lasting κs → List ℕ
  report_in x = x.1.1.1.1.1.1.1.1.1.1.0.now

-- the letter's three sentences, as one statement about two calls on one text with one set, whatever their buffers held: in the second nothing is smaller,
-- and none of its lengths is above 65,536 bytes
pub reports_monotone_in_room :
    (κs κs' : Lfts 10) (a : Arguments κs) (a' : Arguments κs') (n : ResD signature κs) (n' : ResD signature κs') (x : Lasting κs) (x' : Lasting κs')
    → Learnt κs a n x → Learnt κs' a' n' x' → text_of κs' a' ≡ text_of κs a → set_of κs' a' ≡ set_of κs a → Lendable (setting_of (lent_to κs' a') (budget_of κs' a'))
    → NowhereSmaller (setting_of (lent_to κs a) (budget_of κs a)) (setting_of (lent_to κs' a') (budget_of κs' a'))
    → AgreeInNumbers (setting_of (lent_to κs a) (budget_of κs a)) (setting_of (lent_to κs' a') (budget_of κs' a')) n n' (report_in κs x) (report_in κs' x') (left_from κs x)
    (left_from κs' x')
reports_monotone_in_room κs κs' a a' n n' x x' first second text_same set_same lendable wider =
    reports_agree (text_of κs a) (set_of κs a) (budget_of κs a) (budget_of κs' a') (lent_to κs a) (left_from κs x) (lent_to κs' a') (left_from κs' x') n n' (report_in κs x) (report_in κs' x')
    lendable wider first
    (subst₂ (λ (t u : Bytes). Reported t u (budget_of κs' a') (lent_to κs' a') (left_from κs' x') n' (report_in κs' x')) text_same set_same second)

-- Runs are monotone in room and budget: a run under a setting that is nowhere smaller ends alike, or goes at least as far. A step is not looked into.
use Prim.Native.Nat.{ℕ, zero, suc, ◌+◌, ◌≤◌, ◌<◌}
use mathlib.Core.Path.{◌≡◌, refl, sym, ap, ◌∙◌}
use mathlib.Core.Bool.{Bool, true, false, true≢false, false≢true}
use mathlib.Core.List.{List, [], ◌∷◌}
use Rattle.std.specs.Prelude.{Option, None, Some}
use native.Mathlib.Omega.{arith}
use lib.Dec.{leb}
use lib.ListN.{length, get_or}
use borrow.Author.Tests.{le-leb, leb-true, leb-false, lt-leb}
use Rattle.rules.specs.declared.Answer.TheVariants as answer
use Rattle.rules.specs.Answers.{answer_number, answer_detail, is_stopped, ending_answer, fault_answer}
use Rattle.rules.specs.Places.{plus_one}
use Rattle.rules.specs.Sets.{Item, set_items}
use Rattle.rules.specs.State.{State, Outcome, next, stop, refused, Start, start_state}
use Rattle.rules.specs.Step.{step}
use Rattle.rules.specs.Run.{Setting, lengths, held, overfull, Ended, ended_with, judged, continued, run_from, all_lendable, started, admitted, run, most_lent}
use Rattle.rules.specs.Room.{Lendable, NowhereSmaller, length_numbered, stopper, stopped_by, Monotone}

-- lengths that are nowhere smaller
abbrev Below : List ℕ → List ℕ → Type 0
Below [] [] = Unit {0}
Below [] (m ∷ ms) = ⊥
Below (l ∷ ls) [] = ⊥
Below (l ∷ ls) (m ∷ ms) = (l ≤ m) × Below ls ms

-- a buffer that fits, and one that does not
overfull-fits : (h : ℕ) (hs : List ℕ) (l : ℕ) (ls : List ℕ) → h ≤ l → overfull (h ∷ hs) (l ∷ ls) ≡ plus_one (overfull hs ls)
unfolding overfull
overfull-fits h hs l ls p = rw (le-leb h l p, overfull)

overfull_over : (h : ℕ) (hs : List ℕ) (l : ℕ) (ls : List ℕ) → l < h → overfull (h ∷ hs) (l ∷ ls) ≡ Some 0
unfolding overfull
overfull_over h hs l ls p = rw (lt-leb h l p, overfull)

plus_one_none : (o : Option ℕ) → plus_one o ≡ None → o ≡ None
unfolding plus_one
plus_one_none None e = refl
plus_one_none (Some n) e = cc

plus_one_zero : (o : Option ℕ) → plus_one o ≡ Some 0 → ⊥
unfolding plus_one
plus_one_zero None e = let z : ◌≡◌ {A = ℕ} 0 1 = cc in omega arith
plus_one_zero (Some n) e = let z : suc n ≡ 0 = cc in omega arith

plus_one_suc : (o : Option ℕ) (k : ℕ) → plus_one o ≡ Some (suc k) → o ≡ Some k
unfolding plus_one
plus_one_suc None k e = cc
plus_one_suc (Some n) k e = let z : suc n ≡ suc k = cc in ap {B = Option ℕ} Some (omega arith)

-- what fits in lengths fits in lengths that are nowhere smaller
wider_fits : (hs ls ms : List ℕ) → Below ls ms → overfull hs ls ≡ None → overfull hs ms ≡ None
unfolding overfull plus_one
wider_fits [] ls ms w e = refl
wider_fits (h ∷ hs) [] [] w e = refl
wider_fits (h ∷ hs) [] (m ∷ ms) w e = absurd w
wider_fits (h ∷ hs) (l ∷ ls) [] w e = absurd w
wider_fits (h ∷ hs) (l ∷ ls) (m ∷ ms) w e = go (leb h l) refl (wider_fits hs ls ms w.1)
  where
    go : (b : Bool) → leb h l ≡ b → (overfull hs ls ≡ None → overfull hs ms ≡ None) → overfull (h ∷ hs) (m ∷ ms) ≡ None
    go true q ih =
        overfull-fits h hs m ms (omega (arith, leb-true h l q, w.0))
        ∙ ap plus_one (ih (plus_one_none (overfull hs ls) (sym (overfull-fits h hs l ls (leb-true h l q)) ∙ e)))
    go false q ih = cc (overfull_over h hs l ls (leb-false h l q))

-- what does not fit in a length does not fit in an equal one
same_over : (k : ℕ) (hs ls ms : List ℕ) → Below ls ms → overfull hs ls ≡ Some k → get_or ls k 0 ≡ get_or ms k 0 → overfull hs ms ≡ Some k
unfolding overfull plus_one
same_over k [] ls ms w e g = e
same_over k (h ∷ hs) [] [] w e g = e
same_over k (h ∷ hs) [] (m ∷ ms) w e g = absurd w
same_over k (h ∷ hs) (l ∷ ls) [] w e g = absurd w
same_over zero (h ∷ hs) (l ∷ ls) (m ∷ ms) w e g = go (leb h l) refl
  where
    go : (b : Bool) → leb h l ≡ b → overfull (h ∷ hs) (m ∷ ms) ≡ Some 0
    go true q = absurd (plus_one_zero (overfull hs ls) (sym (overfull-fits h hs l ls (leb-true h l q)) ∙ e))
    go false q = overfull_over h hs m ms (omega (arith, leb-false h l q))
same_over (suc k) (h ∷ hs) (l ∷ ls) (m ∷ ms) w e g = go (leb h l) refl (same_over k hs ls ms w.1)
  where
    go :
        (b : Bool) → leb h l ≡ b → (overfull hs ls ≡ Some k → get_or ls k 0 ≡ get_or ms k 0 → overfull hs ms ≡ Some k) → overfull (h ∷ hs) (m ∷ ms) ≡ Some (suc k)
    go true q ih =
        overfull-fits h hs m ms (omega (arith, leb-true h l q, w.0))
        ∙ ap plus_one (ih (plus_one_suc (overfull hs ls) k (sym (overfull-fits h hs l ls (leb-true h l q)) ∙ e)) g)
    go false q ih = cc (overfull_over h hs l ls (leb-false h l q))

-- a run goes on counting from the steps that it has
judged_counts : (go : State → Ended) (k : ℕ) (s t : State) (o : Option ℕ) → k ≤ (go t).steps → k ≤ (judged go k s t o).steps
unfolding judged ended_with
judged_counts go k s t None h = h
judged_counts go k s t (Some b) h = omega arith

continued_counts :
    (ls : List ℕ) (go : State → Ended) (k : ℕ) (s : State) (o : Outcome) → ((t : State) → k ≤ (go t).steps) → k ≤ (continued ls go k s o).steps
unfolding continued ended_with
continued_counts ls go k s (refused f) h = omega arith
continued_counts ls go k s (stop e t) h = judged_counts (ended_with (ending_answer e) (suc k)) k s t (overfull (held t) ls) (omega arith)
continued_counts ls go k s (next t) h = judged_counts go k s t (overfull (held t) ls) (h t)

run_counts : (ls : List ℕ) (n k : ℕ) (s : State) → k ≤ (run_from ls n k s).steps
unfolding run_from ended_with
run_counts ls zero k s = omega arith
run_counts ls (suc n) k s =
    continued_counts ls (λ t. run_from ls n (suc k) t) k s (step s) (λ t. omega (arith, run_counts ls n (suc k) t))

some_injective : {j k : ℕ} → Some j ≡ Some k → j ≡ k
some_injective e = cc

some_none : {k : ℕ} → Some k ≡ None → ⊥
some_none e = let z : ◌≡◌ {A = ℕ} 0 1 = cc in omega arith

-- Monotone, of lengths and budgets; and the first run goes no further than the second, however it ends
record Kept (ls ms : List ℕ) (budget budget' : ℕ) (r t : Ended) : Type 0 where
  same : is_stopped r.answer ≡ false → t ≡ r
  further : r.steps ≤ t.steps
  again : is_stopped r.answer ≡ true → stopper ls budget (answer_number r.answer) (answer_detail r.answer) ≡ stopper ms budget' (answer_number r.answer) (answer_detail r.answer) → t ≡ r

kept_refl : {ls ms : List ℕ} {n m : ℕ} (r : Ended) → Kept ls ms n m r r
kept_refl r = record { same = λ _. refl; further = omega arith; again = λ _ _. refl }

module _ (ls ms : List ℕ) (budget budget' : ℕ) where
  -- a run that stops for room, beside one that goes at least as far, and stops there too where the length is the same
  room_kept :
      (b k : ℕ) (s : State) (t : Ended) → k ≤ t.steps → (get_or ls b 0 ≡ get_or ms b 0 → t ≡ ended_with (answer.Room (suc b)) k s)
      → Kept ls ms budget budget' (ended_with (answer.Room (suc b)) k s) t
  unfolding ended_with is_stopped answer_number answer_detail stopper length_numbered
  room_kept b k s t c f = record { same = λ e. absurd (true≢false e); further = c; again = λ _ e. f e }

  -- a run that is spent, beside one that goes at least as far, and no further where the budget is the same
  spent_kept : (k : ℕ) (s : State) (t : Ended) → k ≤ t.steps → (budget ≡ budget' → t ≡ ended_with answer.Spent k s) → Kept ls ms budget budget' (ended_with answer.Spent k s) t
  unfolding ended_with is_stopped answer_number answer_detail stopper
  spent_kept k s t c f = record { same = λ e. absurd (true≢false e); further = c; again = λ _ e. f e }

  -- room judged under both lengths
  judged_kept :
      (g h : State → Ended) (k : ℕ) (s t : State) (x y : Option ℕ) → (x ≡ None → y ≡ None) → ((b : ℕ) → x ≡ Some b → get_or ls b 0 ≡ get_or ms b 0 → y ≡ Some b)
      → k ≤ (h t).steps → Kept ls ms budget budget' (g t) (h t) → Kept ls ms budget budget' (judged g k s t x) (judged h k s t y)
  unfolding judged
  judged_kept g h k s t None None f o c u = u
  judged_kept g h k s t None (Some b) f o c u = absurd (some_none (f refl))
  judged_kept g h k s t (Some b) None f o c u = room_kept b k s (h t) c (λ e. absurd (some_none (sym (o b refl e))))
  judged_kept g h k s t (Some b) (Some d) f o c u =
      room_kept b k s (ended_with (answer.Room (suc d)) k s) (unfold ended_with in omega arith)
      (λ e. ap (λ (j : ℕ). ended_with (answer.Room (suc j)) k s) (some_injective (o b refl e)))

  module _ (w : Below ls ms) where
    continued_kept :
        (g h : State → Ended) (k : ℕ) (s : State) (o : Outcome) → ((t : State) → k ≤ (h t).steps) → ((t : State) → Kept ls ms budget budget' (g t) (h t))
        → Kept ls ms budget budget' (continued ls g k s o) (continued ms h k s o)
    unfolding continued
    continued_kept g h k s (refused f) p u = kept_refl (ended_with (fault_answer f) k s)
    continued_kept g h k s (stop e t) p u =
        judged_kept (ended_with (ending_answer e) (suc k)) (ended_with (ending_answer e) (suc k)) k s t (overfull (held t) ls) (overfull (held t) ms)
        (wider_fits (held t) ls ms w) (λ b. same_over b (held t) ls ms w) (unfold ended_with in omega arith) (kept_refl (ended_with (ending_answer e) (suc k) t))
    continued_kept g h k s (next t) p u =
        judged_kept g h k s t (overfull (held t) ls) (overfull (held t) ms) (wider_fits (held t) ls ms w) (λ b. same_over b (held t) ls ms w) (p t) (u t)

    -- k steps are completed, n and m are left of the budgets
    run_kept :
        (n m k : ℕ) (s : State) → k + n ≡ budget → k + m ≡ budget' → n ≤ m → Kept ls ms budget budget' (run_from ls n k s) (run_from ms m k s)
    unfolding run_from
    run_kept zero m k s p q h =
        spent_kept k s (run_from ms m k s) (run_counts ms m k s) (λ e. let z : m ≡ 0 = omega arith in ap (λ (j : ℕ). run_from ms j k s) z)
    run_kept (suc n) zero k s p q h = absurd (omega arith)
    run_kept (suc n) (suc m) k s p q h =
        continued_kept (λ t. run_from ls n (suc k) t) (λ t. run_from ms m (suc k) t) k s (step s) (λ t. omega (arith, run_counts ms m (suc k) t))
        (λ t. run_kept n m (suc k) t (omega arith) (omega arith) (omega arith))

-- within 65,536 bytes, lent lengths are all lendable
lendable_cons : (l : ℕ) (ls : List ℕ) → l ≤ most_lent → all_lendable (l ∷ ls) ≡ all_lendable ls
unfolding all_lendable
lendable_cons l ls p = rw (le-leb l most_lent p, all_lendable)

pub lendable_all : (a : Setting) → Lendable a → all_lendable (lengths a) ≡ true
unfolding lengths
lendable_all a p =
    lendable_cons _ _ p.pending ∙ lendable_cons _ _ p.calls ∙ lendable_cons _ _ p.definitions ∙ lendable_cons _ _ p.streams
    ∙ lendable_cons _ _ p.wrap ∙ lendable_cons _ _ p.errors ∙ lendable_cons _ _ p.output ∙ (unfold all_lendable in refl)

smaller_lendable : {a b : Setting} → NowhereSmaller a b → Lendable b → Lendable a
smaller_lendable w p = omega arith

-- whether a run is admitted is then up to the text
same_admission : (n : ℕ) (ls ms : List ℕ) → all_lendable ls ≡ all_lendable ms → all_lendable (n ∷ ls) ≡ all_lendable (n ∷ ms)
unfolding all_lendable
same_admission n ls ms e = ap (λ (x : Bool). elim (leb n most_lent) as (λ _. Bool) [ true ↦ x | false ↦ false ]) e

below : {a b : Setting} → NowhereSmaller a b → Below (lengths a) (lengths b)
unfolding lengths
below w = (w.pending, (w.calls, (w.definitions, (w.streams, (w.wrap, (w.errors, (w.output, tt)))))))

monotone : {a b : Setting} {r t : Ended} → Kept (lengths a) (lengths b) a.budget b.budget r t → Monotone a b r t
unfolding stopped_by
monotone u = record { same = u.same; further = λ _. u.further; again = u.again }

-- so is whether its set is good up to the set
started_monotone : (x : Start) (a b : Setting) → NowhereSmaller a b → (o : Option (List Item)) → Monotone a b (started o x a) (started o x b)
unfolding started
started_monotone x a b w None = monotone (kept_refl _)
started_monotone x a b w (Some is) =
    monotone (run_kept (lengths a) (lengths b) a.budget b.budget (below w) a.budget b.budget 0 (start_state is x) (omega arith) (omega arith) w.budget)

admitted_monotone : (x : Start) (a b : Setting) → NowhereSmaller a b → (p q : Bool) → p ≡ q → Monotone a b (admitted p x a) (admitted q x b)
unfolding admitted
admitted_monotone x a b w true true e = started_monotone x a b w (set_items x.set)
admitted_monotone x a b w true false e = absurd (true≢false e)
admitted_monotone x a b w false true e = absurd (false≢true e)
admitted_monotone x a b w false false e = monotone (kept_refl _)

-- demand 3, of the definition: any start, any two settings of lendable lengths, the second nowhere smaller
pub monotone_in_room : (x : Start) (a b : Setting) → Lendable b → NowhereSmaller a b → Monotone a b (run x a) (run x b)
unfolding run
monotone_in_room x a b p w =
    admitted_monotone x a b w _ _ (same_admission (length x.text) (lengths a) (lengths b) (lendable_all a (smaller_lendable w p) ∙ sym (lendable_all b p)))

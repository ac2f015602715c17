-- The history of a run: the streams in the end are its changes made in turn, and how a finished run closes it.
use Rattle.rules.proofs.Base.{◌≤◌, ◌+◌, ℕ, suc, zero, ◌∙◌, refl, sym, ap, ◌≡◌, subst, true, Bool, false, Some, None, Option, List, [], ◌++◌, ◌∷◌, append_assoc, append-nil, ◌&&◌, arith, length}
use Rattle.rules.specs.declared.Answer.{Answer}
use Rattle.rules.specs.declared.Answer.TheVariants as answer
use Rattle.rules.specs.Answers.{answer_number, Ending, done, exit, ending_answer, fault_answer}
use Rattle.rules.specs.Sets.{Item, set_items}
use Rattle.rules.specs.Streams.{Streams, empty_streams, Change, finishes, drops, changed, changed_in_turn}
use Rattle.rules.specs.State.{State, Outcome, next, stop, refused, Start, start_state}
use Rattle.rules.specs.Step.{step}
use Rattle.rules.specs.Changes.{changes_of, is_working, all_working, ending_change}
use Rattle.rules.specs.Run.{Setting, lengths, held, overfull, Ended, ended_with, run_from, all_lendable, started, admitted, run}
use Rattle.rules.specs.History.{following, states_from, items_or, states_of, changes_along, history_of}
use Rattle.rules.proofs.Run.{run_spent, run_refused, run_on, run_room, run_ends, run_ends_room, fault_number}
use Rattle.rules.proofs.Changes.{step_makes_wholly}

-- ---- changes in turn

pub turns-append : (xs ys : List Change) (u : Streams) → changed_in_turn (xs ++ ys) u ≡ changed_in_turn ys (changed_in_turn xs u)
unfolding changed_in_turn
turns-append [] ys u = refl
turns-append (x ∷ xs) ys u = turns-append xs ys (changed x u)

working_append : (xs ys : List Change) → all_working xs ≡ true → all_working ys ≡ true → all_working (xs ++ ys) ≡ true
unfolding all_working
working_append [] ys h k = k
working_append (x ∷ xs) ys h k = go (is_working x) h (working_append xs ys)
  where
    go : (b : Bool) → b && all_working xs ≡ true → (all_working xs ≡ true → all_working ys ≡ true → all_working (xs ++ ys) ≡ true) → b && all_working (xs ++ ys) ≡ true
    go true h f = f h k
    go false h f = h

-- ---- the history of so many steps

abbrev history_from : ℕ → State → List Change
history_from n s = changes_along (states_from n s)

-- the change that closes the history of a finished run: the end's for answer 0, m4exit's for 1
unfoldable pub closing_change : ℕ → Change
closing_change zero = finishes
closing_change (suc n) = drops

-- it stands last, and none such before it
abbrev pub Closed : ℕ → List Change → Type 0
Closed number h = number ≤ 1 → (f : List Change) × (h ≡ f ++ (closing_change number ∷ [])) × (all_working f ≡ true)

-- a run from s, to which k steps led: it completed so many more
record Went (k : ℕ) (s : State) (e : Ended) : Type 0 where
  more : ℕ
  counted : e.steps ≡ k + more
  whole : length (states_from more s) ≡ more
  made : e.state.streams ≡ changed_in_turn (history_from more s) s.streams
  closed : Closed (answer_number e.answer) (history_from more s)

-- it completes none, and does not end by itself
stands : (a : Answer) (k : ℕ) (s t : State) → t.streams ≡ s.streams → 2 ≤ answer_number a → Went k s (ended_with a k t)
unfolding ended_with states_from changes_along changed_in_turn
stands a k s t h l = record { more = 0; counted = omega arith; whole = refl; made = h; closed = λ q. absurd (omega arith) }

-- a completed step, and the run from there
module _ (k : ℕ) (s t : State) (e : Ended) (p : step s ≡ next t) (w : Went (suc k) t e) where
  history_on : history_from (suc w.more) s ≡ changes_of s ++ history_from w.more t
  unfolding states_from changes_along following
  history_on = rw (p, following)

  goes : Went k s e
  unfolding states_from following
  goes =
      record {
        more = suc w.more;
        counted = omega (arith, w.counted);
        whole = rw (p, following) (ap suc w.whole);
        made =
            w.made ∙ ap (changed_in_turn (history_from w.more t)) ((step_makes_wholly s).on t p).0
            ∙ sym (turns-append (changes_of s) (history_from w.more t) s.streams) ∙ ap (λ (h : List Change). changed_in_turn h s.streams) (sym history_on);
        closed =
            λ q.
            let r = w.closed q in (
              changes_of s ++ r.0,
              history_on ∙ ap (◌++◌ (changes_of s)) r.1 ∙ sym (append_assoc (changes_of s) r.0 (closing_change (answer_number e.answer) ∷ [])),
              working_append (changes_of s) r.0 ((step_makes_wholly s).on t p).1 r.2,
            );
      }

-- a step that ends the run
module _ (k : ℕ) (s t : State) (x : Ending) (p : step s ≡ stop x t) where
  history_last : history_from 1 s ≡ changes_of s
  unfolding states_from changes_along following
  history_last = rw (p, following) (append-nil (changes_of s))

  closing : (y : Ending) → ending_change y ≡ closing_change (answer_number (ending_answer y))
  unfolding ending_change closing_change answer_number ending_answer
  closing done = refl
  closing (exit code) = refl

  ends : Went k s (ended_with (ending_answer x) (suc k) t)
  unfolding ended_with states_from following all_working
  ends =
      record {
        more = 1;
        counted = omega arith;
        whole = rw (p, following);
        made = ((step_makes_wholly s).ended x t p).0 ∙ ap (λ (h : List Change). changed_in_turn h s.streams) (sym history_last);
        closed = λ q. ([], history_last ∙ ((step_makes_wholly s).ended x t p).1 ∙ ap (λ (c : Change). c ∷ []) (closing x), refl);
      }

went : (ls : List ℕ) (n k : ℕ) (s : State) → Went k s (run_from ls n k s)
unfolding answer_number
went ls zero k s = subst (Went k s) (sym (run_spent ls k s)) (stands answer.Spent k s s refl (omega arith))
went ls (suc n) k s = go (step s) refl (λ t. went ls n (suc k) t)
  where
    over : (t : State) (b : ℕ) → run_from ls (suc n) k s ≡ ended_with (answer.Room (suc b)) k s → Went k s (run_from ls (suc n) k s)
    over t b e = subst (Went k s) (sym e) (stands (answer.Room (suc b)) k s s refl (omega arith))

    onward : (t : State) → step s ≡ next t → Went (suc k) t (run_from ls n (suc k) t) → (o : Option ℕ) → overfull (held t) ls ≡ o → Went k s (run_from ls (suc n) k s)
    onward t p w None q = subst (Went k s) (sym (run_on ls n k s t p q)) (goes k s t (run_from ls n (suc k) t) p w)
    onward t p w (Some b) q = over t b (run_room ls n k s t b p q)

    last : (x : Ending) (t : State) → step s ≡ stop x t → (o : Option ℕ) → overfull (held t) ls ≡ o → Went k s (run_from ls (suc n) k s)
    last x t p None q = subst (Went k s) (sym (run_ends ls n k s x t p q)) (ends k s t x p)
    last x t p (Some b) q = over t b (run_ends_room ls n k s x t b p q)

    go : (o : Outcome) → step s ≡ o → ((t : State) → Went (suc k) t (run_from ls n (suc k) t)) → Went k s (run_from ls (suc n) k s)
    go (next t) p w = onward t p (w t) (overfull (held t) ls) refl
    go (stop x t) p w = last x t p (overfull (held t) ls) refl
    go (refused f) p w = subst (Went k s) (sym (run_refused ls n k s f p)) (stands (fault_answer f) k s s refl (omega (arith, fault_number f)))

-- ---- a whole run

module _ (b : Start) (a : Setting) where
  first : State
  first = start_state (items_or (set_items b.set)) b

  went_started : (o : Option (List Item)) → Went 0 (start_state (items_or o) b) (started o b a)
  unfolding started items_or start_state answer_number
  went_started None = stands answer.BadSet 0 _ _ refl (omega arith)
  went_started (Some is) = went (lengths a) a.budget 0 (start_state is b)

  went_admitted : (x : Bool) → Went 0 first (admitted x b a)
  unfolding admitted first start_state answer_number
  went_admitted false = stands answer.Lend 0 _ _ refl (omega arith)
  went_admitted true = went_started (set_items b.set)

  went_run : Went 0 first (run b a)
  unfolding run
  went_run = went_admitted (all_lendable (length b.text ∷ lengths a))

  more_is : went_run.more ≡ (run b a).steps
  more_is = omega (arith, went_run.counted)

  -- each completed step has its state
  pub history_whole : length (states_of b a) ≡ (run b a).steps
  unfolding states_of first
  history_whole = subst (λ (n : ℕ). length (states_from n first) ≡ n) more_is went_run.whole

  -- the streams in the end are the changes of the history made in turn
  pub history_made : (run b a).state.streams ≡ changed_in_turn (history_of b a) empty_streams
  unfolding history_of states_of first start_state
  history_made = subst (λ (n : ℕ). (run b a).state.streams ≡ changed_in_turn (history_from n first) empty_streams) more_is went_run.made

  pub history_closed : Closed (answer_number (run b a).answer) (history_of b a)
  unfolding history_of states_of first
  history_closed = subst (λ (n : ℕ). Closed (answer_number (run b a).answer) (history_from n first)) more_is went_run.closed

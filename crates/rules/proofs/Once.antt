-- Every byte once: request 8 of document 02, of a whole run from any start and of a call.
use Rattle.rules.proofs.Base.{◌≤◌, ◌<◌, ℕ, suc, zero, ◌∙◌, refl, sym, ap, ◌≡◌, subst, true, Bool, false, cond, List, [], ◌++◌, ◌∷◌, add-zero, arith, pos, ℤ, negsuc, length, take, drop, take-append_seam, get_or, ne_eqb, le-leb, ltb-true, dec_lt}
use Rattle.rules.specs.declared.Report.{Report}
use Rattle.rules.specs.Bytes.{Bytes}
use Rattle.rules.specs.Answers.{answer_number, is_finished}
use Rattle.rules.specs.Streams.{Streams, empty_streams, discards, is_current, dropped_streams, Change, finishes, drops, changed, changed_in_turn}
use Rattle.rules.specs.State.{Start, fresh_start}
use Rattle.rules.specs.Changes.{all_working}
use Rattle.rules.specs.Run.{Setting, run}
use Rattle.rules.specs.Contract.{Buffers, setting_of, output_of, report_of, fronted, left_by, run_in, Expanded}
use Rattle.rules.specs.History.{history_of, first_placed, Tally, tallied, first_tally, numbered_change, numbered_from, output_numbers, given_in, takes, route_after, route_from, route_of, is_lost, stands_in, Together, occurrences, InOrder, EveryByteOnce}
use Rattle.rules.proofs.StreamLaws.{stream_in}
use Rattle.rules.proofs.History.{turns-append, closing_change, Closed, history_made, history_closed}
use Rattle.rules.proofs.Numbering.{tally_after, numbered-append, tally_append, route_append, given_is, numbers_valued}
use Rattle.rules.proofs.Occurrences.{in_order}
use Rattle.rules.proofs.Routes.{Routes, Kept, route_still}
use Rattle.rules.proofs.RoutesAlong.{streams_after, along, at_first}
use Rattle.rules.proofs.Joining.{joining, joining_works, joining_numbered, joining_given, output_joined, route_joined, end_leaves}
use Rattle.rules.proofs.Together.{one_route}

-- a finished run: its numbered output is stream 0 of streams in which all is kept, with the routes of its history
record Finished (h : List Change) : Type 0 where
  tally : Tally
  streams : Streams
  kept : Kept tally streams (λ k. route_of k h)
  output : output_numbers h ≡ streams.output
  given : given_in h ≡ tally.given

-- a history that a last change closes
module _ (f : List Change) (e : all_working f ≡ true) where
  abbrev tally_then : Tally
  tally_then = tally_after first_tally f

  abbrev streams_then : Streams
  streams_then = streams_after first_tally empty_streams f

  abbrev routes_then : Routes
  routes_then k = route_from k first_tally [] f

  kept_then : Kept tally_then streams_then routes_then
  kept_then = along f first_tally empty_streams (λ k. []) e at_first

  last_output : (x : Change) → numbered_change x tally_then ≡ x → output_numbers (f ++ (x ∷ [])) ≡ (changed x streams_then).output
  unfolding output_numbers numbered_from changed_in_turn
  last_output x q =
      ap (λ (h : List Change). (changed_in_turn h empty_streams).output) (numbered-append first_tally f (x ∷ []))
      ∙ ap (λ (u : Streams). u.output) (turns-append (numbered_from first_tally f) (numbered_change x tally_then ∷ []) empty_streams)
      ∙ ap (λ (z : Change). (changed z streams_then).output) q

  last_route : (x : Change) (k : ℕ) → route_of k (f ++ (x ∷ [])) ≡ route_after k x tally_then (routes_then k)
  unfolding route_of route_from
  last_route x k = route_append k first_tally [] f (x ∷ [])

  last_given : (x : Change) → first_placed x tally_then.current ≡ [] → given_in (f ++ (x ∷ [])) ≡ tally_then.given
  unfolding tally_after tallied
  last_given x q = given_is (f ++ (x ∷ [])) ∙ ap (λ (t : Tally). t.given) (tally_append first_tally f (x ∷ [])) ∙ rw q (add-zero tally_then.given)

  by_end : Finished (f ++ (finishes ∷ []))
  unfolding numbered_change first_placed
  by_end =
      record {
        tally = tally_after tally_then joining;
        streams = streams_after tally_then streams_then joining;
        kept =
            subst (Kept (tally_after tally_then joining) (streams_after tally_then streams_then joining))
            (λ i k. (route_joined k tally_then (routes_then k) ∙ sym (last_route finishes k)) i)
            (along joining tally_then streams_then routes_then joining_works kept_then);
        output =
            last_output finishes refl ∙ sym (output_joined streams_then kept_then.nine)
            ∙ ap (λ (h : List Change). (changed_in_turn h streams_then).output) (sym (joining_numbered tally_then));
        given = last_given finishes refl ∙ sym (joining_given tally_then);
      }

  by_exit : Finished (f ++ (drops ∷ []))
  unfolding numbered_change first_placed takes changed dropped_streams
  by_exit =
      record {
        tally = tally_then;
        streams = streams_then;
        kept = subst (Kept tally_then streams_then) (λ i k. (sym (route_still k drops tally_then (routes_then k) refl (λ p. refl)) ∙ sym (last_route drops k)) i) kept_then;
        output = last_output drops refl;
        given = last_given drops refl;
      }

-- ---- request 8

module _ (number : ℕ) (h : List Change) (closed : Closed number h) where
  finished : number ≤ 1 → Finished h
  unfolding closing_change
  finished l = go number l (closed l)
    where
      go : (n : ℕ) → n ≤ 1 → (f : List Change) × (h ≡ f ++ (closing_change n ∷ [])) × (all_working f ≡ true) → Finished h
      go zero l r = subst Finished (sym r.1) (by_end r.0 r.2)
      go (suc zero) l r = subst Finished (sym r.1) (by_exit r.0 r.2)
      go (suc (suc n)) l r = absurd (omega arith)

  -- the output has a number where its route ends in stream 0
  counted : number ≤ 1 → (k : ℕ) → occurrences k (output_numbers h) ≡ cond (stands_in 0 (route_of k h)) 1 0
  unfolding stream_in
  counted l k = ap (occurrences k) (finished l).output ∙ (finished l).kept.counts 0 k (omega arith)

  -- done: where it is given and not lost
  in_output : number ≡ 0 → (k : ℕ) → k < given_in h → is_lost (route_of k h) ≡ false → stands_in 0 (route_of k h) ≡ true
  unfolding closing_change
  in_output e k l n = go (subst (λ (m : ℕ). (f : List Change) × (h ≡ f ++ (closing_change m ∷ [])) × (all_working f ≡ true)) e (closed (omega arith)))
    where
      placed : route_of k h ≡ [] → ⊥
      placed = (finished (omega arith)).kept.placed k (omega (arith, (finished (omega arith)).given))

      go : (f : List Change) × (h ≡ f ++ (finishes ∷ [])) × (all_working f ≡ true) → stands_in 0 (route_of k h) ≡ true
      go r =
          let route : route_of k h ≡ route_after k finishes (tally_then r.0 r.2) (routes_then r.0 r.2 k) = ap (route_of k) r.1 ∙ last_route r.0 r.2 finishes k in
          ap (stands_in 0) route
          ∙ end_leaves k (tally_then r.0 r.2) (routes_then r.0 r.2 k) (λ q. placed (route ∙ q)) (ap is_lost (sym route) ∙ n)

  not_there : (k : ℕ) → stands_in 0 (route_of k h) ≡ false → number ≤ 1 → occurrences k (output_numbers h) ≡ 0
  not_there k e l = counted l k ∙ ap (λ (b : Bool). cond b 1 0) e

  lost_nowhere : (r : List ℤ) → is_lost r ≡ true → stands_in 0 r ≡ false
  unfolding is_lost stands_in is_current discards
  lost_nowhere [] e = refl
  lost_nowhere (pos n ∷ ps) e = ne_eqb 0 n (λ q. omega (arith, ltb-true 9 n e))
  lost_nowhere (negsuc n ∷ ps) e = refl

  in_route_order : number ≤ 1 → InOrder (λ j k. route_of j h ≡ route_of k h) (output_numbers h)
  unfolding stream_in
  in_route_order l = rw (finished l).output (in_order (λ j k. route_of j h ≡ route_of k h) (finished l).streams.output ((finished l).kept.order 0 (omega arith)))

  -- those that make every move together have one route, whichever is the smaller
  by_routes : (m n : ℕ) → Together h m n → (route_of m h ≡ route_of n h → m < n) → m < n
  by_routes m n w f = go (dec_lt m n) (dec_lt n m)
    where
      go : Dec (m < n) → Dec (n < m) → m < n
      go (yes l) d = l
      go (no l) (yes d) = f (sym (one_route h n m d (record { placed = sym w.placed; moved = sym w.moved })))
      go (no l) (no d) =
          let same : m ≡ n = omega arith in
          f (ap (λ (k : ℕ). route_of k h) same)

  pub once : (output : Bytes) → (number ≤ 1 → (changed_in_turn h empty_streams).output ≡ output) → EveryByteOnce h number output
  unfolding stands_in
  once output o =
      record {
        numbered = λ l. numbers_valued h ∙ o l;
        given = λ l k g. not_there k (ap (stands_in 0) ((finished l).kept.fresh k (omega (arith, (finished l).given)))) l;
        once = λ e k g n. counted (omega arith) k ∙ ap (λ (b : Bool). cond b 1 0) (in_output e k g n);
        lost = λ e k n. not_there k (lost_nowhere (route_of k h) n) (omega arith);
        exited = λ e k. counted (omega arith) k;
        ordered = λ l i j p q w. by_routes (get_or (output_numbers h) i 0) (get_or (output_numbers h) j 0) w (in_route_order l i j p q);
        passed = in_route_order;
      }

-- of a whole run, from any start
pub every_byte_once : (b : Start) (a : Setting) → EveryByteOnce (history_of b a) (answer_number (run b a).answer) (output_of (run b a))
unfolding output_of is_finished
every_byte_once b a = once (answer_number (run b a).answer) (history_of b a) (history_closed b a) (output_of (run b a)) written
  where
    written : answer_number (run b a).answer ≤ 1 → (changed_in_turn (history_of b a) empty_streams).output ≡ output_of (run b a)
    written l = sym (rw (le-leb (answer_number (run b a).answer) 1 l, output_of) (ap (λ (u : Streams). u.output) (history_made b a)))

-- of a call of any function that promises `Expanded`: its written bytes have such numbers
pub calls_once :
    (text set : Bytes) (n : ℕ) (before after : Buffers) (r : Report) → Expanded text set n before after r
    → EveryByteOnce (history_of (fresh_start text set) (setting_of before n)) (answer_number r.answer) (take r.output after.output)
unfolding run_in report_of left_by fronted
calls_once text set n before after r e =
    let x = run_in text set before n in
    rw (e.report, e.buffers, take-append_seam (output_of x) (drop (length (output_of x)) before.output)) (every_byte_once (fresh_start text set) (setting_of before n))

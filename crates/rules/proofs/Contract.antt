-- Two calls of any function that promises `Expanded` are monotone in room and budget, whatever the buffers held before.
use Prim.Native.Nat.{ℕ}
use mathlib.Core.Path.{◌≡◌, sym, ap, ◌∙◌}
use mathlib.Core.List.{[], ◌∷◌}
use lib.ListN.{length, drop}
use lib.Seq.{take-append_seam}
use Rattle.rules.specs.declared.Report.{Report}
use Rattle.rules.specs.Bytes.{Bytes}
use Rattle.rules.specs.Answers.{numbers}
use Rattle.rules.specs.State.{fresh_start}
use Rattle.rules.specs.Run.{Setting, Ended}
use Rattle.rules.specs.Room.{Lendable, NowhereSmaller, Monotone}
use Rattle.rules.specs.Contract.{Buffers, setting_of, output_of, errors_of, report_of, fronted, left_by, run_in, Expanded, written, Agree}
use Rattle.rules.proofs.Room.{monotone_in_room}

-- the written bytes are those of the run
pub written-run : (e : Ended) (b : Buffers) → written (report_of e) (left_by e b) ≡ output_of e ∷ errors_of e ∷ []
unfolding written report_of left_by fronted
written-run e b = rw (take-append_seam (output_of e) (drop (length (output_of e)) b.output), take-append_seam (errors_of e) (drop (length (errors_of e)) b.errors))

agree : {a b : Setting} (r t : Ended) (x y : Buffers) → Monotone a b r t → Agree a b (report_of r) (report_of t) (left_by r x) (left_by t y)
unfolding report_of
agree r t x y u =
    record {
      same =
          λ p. (
            ap (λ (e : Ended). numbers (report_of e)) (u.same p),
            written-run t y ∙ ap (λ (e : Ended). output_of e ∷ errors_of e ∷ []) (u.same p) ∙ sym (written-run r x),
          );
      further = λ p. u.further p;
      again = λ p q. ap (λ (e : Ended). numbers (report_of e)) (u.again p q);
    }

-- demand 3: two calls on one text with one set, the second's lengths and budget nowhere smaller and none of its lengths above 65,536
pub calls_agree :
    (text set : Bytes) (n m : ℕ) (before after before' after' : Buffers) (r t : Report) → Lendable (setting_of before' m)
    → NowhereSmaller (setting_of before n) (setting_of before' m) → Expanded text set n before after r → Expanded text set m before' after' t
    → Agree (setting_of before n) (setting_of before' m) r t after after'
unfolding run_in
calls_agree text set n m b x b' x' r t l w e f =
    rw (e.report, e.buffers, f.report, f.buffers)
    (agree (run_in text set b n) (run_in text set b' m) b b' (monotone_in_room (fresh_start text set) (setting_of b n) (setting_of b' m) l w))

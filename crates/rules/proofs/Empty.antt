-- The four empty programs of 01 are shut out: what each answers to the third worked text contradicts the promise `Expanded`, whatever the
-- lent buffers held.
use Prim.Native.Nat.{ℕ}
use mathlib.Core.Path.{◌≡◌, sym, ap, ◌∙◌}
use mathlib.Core.List.{List, [], ◌∷◌}
use native.Mathlib.Omega.{arith}
use lib.ListN.{length, get_or}
use Rattle.rules.specs.declared.Answer.TheVariants as answer
use Rattle.rules.specs.declared.Report.{Report}
use Rattle.rules.specs.Bytes.{Bytes, bytes_of}
use Rattle.rules.specs.Answers.{answer_number}
use Rattle.rules.specs.Sets.{empty_set}
use Rattle.rules.specs.State.{fresh_start}
use Rattle.rules.specs.Run.{Setting, run}
use Rattle.rules.specs.Contract.{Buffers, setting_of, output_of, errors_of, report_of, run_in, Expanded, written}
use Rattle.rules.specs.Cases.{ample, lending, third_text}
use Rattle.rules.proofs.Book.{book}
use Rattle.rules.proofs.Contract.{written-run}

-- a call of the third text, in buffers of these lengths
pub record ThirdCall (lent : Setting) (r : Report) : Type 0 where
  pub before : Buffers
  pub after : Buffers
  pub budget : ℕ
  pub setting : setting_of before budget ≡ lent
  pub promise : Expanded (bytes_of third_text) empty_set budget before after r

-- it reports what the definition says
reports : {lent : Setting} {r : Report} → ThirdCall lent r → r ≡ report_of (run (fresh_start (bytes_of third_text) empty_set) lent)
unfolding run_in
reports c = c.promise.report ∙ ap (λ (a : Setting). report_of (run (fresh_start (bytes_of third_text) empty_set) a)) c.setting

-- and has written what the definition says: its output and its error text
writes : {lent : Setting} {r : Report} (c : ThirdCall lent r) → let e = run (fresh_start (bytes_of third_text) empty_set) lent in written r c.after ≡ output_of e ∷ errors_of e ∷ []
unfolding run_in
writes {r = r} c =
    ap (λ (x : Report). written x c.after) c.promise.report
    ∙ ap (written (report_of (run_in (bytes_of third_text) empty_set c.before c.budget))) c.promise.buffers
    ∙ written-run (run_in (bytes_of third_text) empty_set c.before c.budget) c.before
    ∙ ap (λ (a : Setting). output_of (run (fresh_start (bytes_of third_text) empty_set) a) ∷ errors_of (run (fresh_start (bytes_of third_text) empty_set) a) ∷ []) c.setting

-- in ample room: done, in 8 steps, with one byte of output, `5`
in_ample_room : {r : Report} → ThirdCall ample r → r ≡ record { answer = answer.Done; steps = 8; place = 16; output = 1; errors = 0 }
unfolding book
in_ample_room c = reports c

writes_five : {r : Report} (c : ThirdCall ample r) → written r c.after ≡ bytes_of "5" ∷ [] ∷ []
unfolding book
writes_five c = writes c

-- without room for pending text: room 1, after 5 steps
without_pending : {r : Report} → ThirdCall (lending 0 8 2 1) r → r ≡ record { answer = answer.Room 1; steps = 5; place = 15; output = 0; errors = 0 }
unfolding book
without_pending c = reports c

module _ (r : Report) (c : ThirdCall ample r) where
  -- one refuses everything with "room"
  pub not_always_room : answer_number r.answer ≡ 4 → ⊥
  unfolding answer_number
  not_always_room p = let z : answer_number r.answer ≡ 0 = ap (λ (x : Report). answer_number x.answer) (in_ample_room c) in omega arith

  -- the length of the output that was written
  one_byte : {w e : Bytes} → written r c.after ≡ w ∷ e ∷ [] → length w ≡ 1
  unfolding bytes_of
  one_byte p = ap (λ (ws : List Bytes). length (get_or ws 0 [])) (sym p ∙ writes_five c)

  -- one always answers an empty done
  pub not_always_empty : (e : Bytes) → written r c.after ≡ [] ∷ e ∷ [] → ⊥
  not_always_empty e p = let z : ◌≡◌ {A = ℕ} 0 1 = one_byte p in omega arith

  -- one copies its input
  pub not_a_copy : (e : Bytes) → written r c.after ≡ bytes_of third_text ∷ e ∷ [] → ⊥
  unfolding bytes_of third_text
  not_a_copy e p = let z : ◌≡◌ {A = ℕ} 16 1 = one_byte p in omega arith

  -- one invents a step count
  pub not_other_steps : (r.steps ≡ 8 → ⊥) → ⊥
  not_other_steps p = p (ap (λ (x : Report). x.steps) (in_ample_room c))

-- .. or expands all in its first step and idles through the rest: room is judged after each step, and here the sixth is refused
pub not_all_at_once : (r : Report) → ThirdCall (lending 0 8 2 1) r → (r.steps ≡ 5 → ⊥) → ⊥
not_all_at_once r c p = p (ap (λ (x : Report). x.steps) (without_pending c))

-- Results in front of the text ahead: refused where buffer 1 lacks room, else written just before the pending text.
use Rattle.rules.proofs.Base.{◌≤◌, ◌+◌, ℕ, ◌-◌, ◌<◌, ◌∙◌, refl, ap, ◌≡◌, subst, true, false, Bool, List, [], ◌++◌, arith, length, drop, take, get_or, length-append, eq-eqb, leb, leb-true, leb-false}
use borrow.Rule.Slice.PartMut.{put_mid}
use Rattle.rules.specs.declared.Answer.{Answer}
use Rattle.rules.specs.declared.Answer.TheVariants as answer
use Rattle.rules.specs.Bytes.{Bytes}
use Rattle.rules.specs.Answers.{Fault, fault_answer}
use Rattle.rules.specs.Marks.{MarkTexts}
use Rattle.rules.specs.Source.{push_back}
use Rattle.rules.specs.State.{State, Outcome, next, refused, resulting, with_source}
use Rattle.rules.specs.Run.{Setting}
use Rattle.rules.specs.Table.{Definition}
use Rattle.rules.specs.Arguments.{arg, commas, quoted_each, substituted}
use Rattle.rules.specs.Results.{Result as Given, yields, fails, defn_result, shift_result, transliterated, translit_result}
use Rattle.rules.specs.Macros.{giving, call_defn, call_shift, call_translit}
use Rattle.numerals.specs.Answers.{Written}
use Rattle.matching.specs.Partners.{partner_table, replaced}
use Rattle.matching.proofs.Partners.{table_puts}
use Rattle.expander.specs.declared.machine.Machine.{Machine}
use Rattle.expander.specs.declared.machine.Stepped.{Stepped}
use Rattle.expander.specs.declared.packed.Packed.{Packed}
use Rattle.expander.specs.Limits.{most_lent}
use Rattle.expander.specs.Defn.{measured_as}
use Rattle.expander.specs.Filled.{Filled}
use Rattle.expander.specs.Giving.{place_before, pushed_step}
use Rattle.expander.specs.Machine.{Memory, memory, Represents, Refines}
use Rattle.expander.specs.Table.{rows, DefinitionsIn}
use Rattle.std.specs.Prelude.{Result, Ok, Err}
use Rattle.expander.specs.Results.{answered}
use Rattle.expander.proofs.FilledLaws.{filled_long, filled_from, part_fills}
use Rattle.expander.proofs.MachineLaws.{over_pending, refines_next, refines_room}
use Rattle.expander.proofs.Packing.{string_fits}
use Rattle.expander.proofs.Parted.{with_source_lem}
use Rattle.expander.proofs.Parts.{part_long}
use Rattle.expander.proofs.SourceLaws.{pending_long, pushed_back}
use Rattle.expander.proofs.SteppedLaws.{refines_by, stepped_refused}

-- ---- what a machine makes of what is given

-- by what the code hands back
pub refines_given : {a : Setting} {o : Outcome} {before b : Memory} {t t' : Stepped} → t ≡ t' → Refines a before o b t' → Refines a before o b t
refines_given e g = refines_by refl e g

-- it is refused
pub giving_refused : {a : Setting} {o : Outcome} {b : Memory} {m : Machine} {s : State} → Represents a b m s → (f : Fault) → o ≡ refused f → Refines a b o b (pushed_step m (Err (fault_answer f)))
unfolding pushed_step
giving_refused r f e = stepped_refused f e refl

-- by the answer that refuses it
pub giving_answered :
    {a : Setting} {b : Memory} {m : Machine} {s : State} (v : Given) {x : Answer} → Represents a b m s → answered v ≡ Err x → Refines a b (giving v s) b (pushed_step m (Err x))
unfolding answered giving
giving_answered (yields w) r e = let z : ◌≡◌ {A = ℕ} 0 1 = cc in absurd (omega arith)
giving_answered {a} {b} {m} {s} (fails f) {x} r e = let k : fault_answer f ≡ x = cc in subst (λ (y : Answer). Refines a b (refused f) b (pushed_step m (Err y))) k (giving_refused r f refl)

-- by the text that it is
pub giving_text : (v : Given) (s : State) {w : Bytes} → answered v ≡ Ok w → giving v s ≡ next (resulting w s)
unfolding answered giving
giving_text (yields w) s e = let k : w ≡ _ = cc in ap (λ (y : Bytes). next (resulting y s)) k
giving_text (fails f) s e = let z : ◌≡◌ {A = ℕ} 0 1 = cc in absurd (omega arith)

-- ---- a text of n bytes in front of the text ahead

-- where it begins, if there is room for it
pub record At (from n at : ℕ) : Type 0 where
  pub fits : n ≤ from
  pub is : at ≡ from - n

pub placed_at : (from n : ℕ) {at : ℕ} → place_before from n ≡ Ok at → At from n at
unfolding place_before
placed_at from n {at} e = go (leb n from) refl e
  where
    go : (t : Bool) → leb n from ≡ t → ◌≡◌ {A = Result ℕ Answer} (elim t [ true ↦ Ok (from - n) | false ↦ Err (answer.Room 1) ]) (Ok at) → At from n at
    go true q f = record { fits = leb-true n from q; is = cc }
    go false q f = let z : ◌≡◌ {A = ℕ} 0 1 = cc in absurd (omega arith)

-- how long the part of a buffer is that it is written into
pub gap_long : (d : Bytes) (from n : ℕ) {at : ℕ} → place_before from n ≡ Ok at → from ≤ length d → length (take (from - at) (drop at d)) ≡ n
gap_long d from n {at} e k = let q = placed_at from n e in omega (arith, part_long d at from k, q.is, q.fits)

pub record NoRoom (from n : ℕ) (x : Answer) : Type 0 where
  pub over : from < n
  pub is : x ≡ answer.Room 1

pub placed_nowhere : (from n : ℕ) {x : Answer} → place_before from n ≡ Err x → NoRoom from n x
unfolding place_before
placed_nowhere from n {x} e = go (leb n from) refl e
  where
    go : (t : Bool) → leb n from ≡ t → ◌≡◌ {A = Result ℕ Answer} (elim t [ true ↦ Ok (from - n) | false ↦ Err (answer.Room 1) ]) (Err x) → NoRoom from n x
    go true q f = let z : ◌≡◌ {A = ℕ} 0 1 = cc in absurd (omega arith)
    go false q f = record { over = leb-false n from q; is = cc }

module _
    {a : Setting} {text set pending calls : Bytes} {call_ends stack : List ℕ} {definitions : Bytes} {table_ends : List ℕ} {streams : Bytes} {owners : List ℕ}
    {wrap errors output : Bytes} {m : Machine} {s : State}
    (r : Represents a (memory text set pending calls call_ends stack definitions table_ends streams owners wrap errors output) m s)
    (w : Bytes) (n : ℕ) (e : length w ≡ n)
  where
    resulting_long : length (resulting w s).source.pending ≡ n + (length pending - m.source.from)
    unfolding resulting with_source push_back
    resulting_long = length-append w s.source.pending ∙ omega (arith, pending_long r.source)

    -- there is no room for it
    pub giving_room :
        {x : Answer} → place_before m.source.from n ≡ Err x
        → Refines a (memory text set pending calls call_ends stack definitions table_ends streams owners wrap errors output) (next (resulting w s))
        (memory text set pending calls call_ends stack definitions table_ends streams owners wrap errors output) (pushed_step m (Err x))
    unfolding pushed_step
    giving_room k =
        let q = placed_nowhere m.source.from n k in
        rw q.is (refines_room (resulting w s) 0 (over_pending a (resulting w s) (omega (arith, resulting_long, q.over, r.limits.pending, r.source.from_in))))

    module _ {at : ℕ} (k : place_before m.source.from n ≡ Ok at) where
      placed_lem : At m.source.from n at
      placed_lem = placed_at m.source.from n k

      -- it stands there
      pub giving_front :
          {before : Memory} {pending' : Bytes} → length pending' ≡ length pending → drop at pending' ≡ w ++ drop m.source.from pending
          → Refines a before (next (resulting w s)) (memory text set pending' calls call_ends stack definitions table_ends streams owners wrap errors output)
          (pushed_step m (Ok at))
      unfolding resulting pushed_step
      giving_front l g = refines_next (with_source_lem r (pushed_back w at r.source (omega (arith, r.source.from_in, placed_lem.is, placed_lem.fits)) g) l)

      -- it was written there, into the buffer
      pub giving_filled :
          {before : Memory} {pending' : Bytes} → Filled pending at w pending'
          → Refines a before (next (resulting w s)) (memory text set pending' calls call_ends stack definitions table_ends streams owners wrap errors output)
          (pushed_step m (Ok at))
      giving_filled f =
          let l : at + length w ≡ m.source.from = omega (arith, placed_lem.is, placed_lem.fits) in
          giving_front (filled_long f) (filled_from f ∙ ap (λ (i : ℕ). w ++ drop i pending) l)

      -- or into the part of it that ends before the pending text
      pub giving_part :
          {before : Memory} {y : Bytes} → y ≡ w
          → Refines a before (next (resulting w s))
          (memory text set (put_mid at (m.source.from - at) pending y) calls call_ends stack definitions table_ends streams owners wrap errors output)
          (pushed_step m (Ok at))
      giving_part {y = y} f =
          giving_filled (rw f (part_fills pending w at m.source.from (omega (arith, placed_lem.is, placed_lem.fits)) r.source.from_in))

-- ---- what a result comes to

pub giving_yields : {v : Given} {w : Bytes} (s : State) → v ≡ yields w → giving v s ≡ next (resulting w s)
unfolding giving
giving_yields s e = rw e refl

pub giving_fails : {v : Given} {f : Fault} (s : State) → v ≡ fails f → giving v s ≡ refused f
unfolding giving
giving_fails s e = rw e refl

-- written into a slice of its length
pub number-written : {good r : Bool} {w before after : Bytes} → Written good w before r after → good ≡ true → length w ≡ length before → after ≡ w
number-written {w} {before} k g l = rw (g, eq-eqb (length w) (length before) l) at k.written

-- ---- the macros

-- the table of translit's second and third arguments replaces a text as the rules do
pub table_is : (y z : Bytes) {t : Bytes} → ((i : ℕ) → get_or y i 0 < 256) → ((i : ℕ) → get_or z i 0 < 256) → t ≡ partner_table y z → (w : Bytes) → replaced t w ≡ transliterated y z w
table_is y z b d g w = ap (λ (u : Bytes). replaced u w) g ∙ table_puts y z b d w

module _ (s : State) (args : List Bytes) where
  pub translit_refines : {x y z : Bytes} → x ≡ arg 1 args → y ≡ arg 2 args → z ≡ arg 3 args → call_translit args s ≡ next (resulting (transliterated y z x) s)
  unfolding call_translit translit_result giving
  translit_refines e f g = rw (e, f, g) refl

  module _ {k : MarkTexts} (e : s.marks ≡ k) where
    pub shift_refines : call_shift args s ≡ next (resulting (commas (quoted_each k (drop 1 args))) s)
    unfolding call_shift shift_result giving
    shift_refines = rw e refl

    pub text_refines : (name : Bytes) {x y : Bytes} → y ≡ x → giving (yields (substituted name args s.marks x)) s ≡ next (resulting (substituted name args k y) s)
    unfolding giving
    text_refines name f = rw (e, f) refl

    pub defn_refines : call_defn args s ≡ giving (defn_result k s.table args) s
    unfolding call_defn
    defn_refines = ap (λ (x : MarkTexts). giving (defn_result x s.table args) s) e

-- the text of a definition is no longer than its buffer
pub text_short :
    {bytes : Bytes} {ends : List ℕ} {p : Packed} {ds : List Definition} → DefinitionsIn bytes ends p ds → (k : ℕ) → k < p.count → {y : Bytes} → y ≡ get_or (rows ds) k []
    → length y ≤ most_lent
text_short h k l e = omega (arith, ap length e, string_fits h.packs k l, h.packs.used_in, h.bytes_most)

-- ---- a result of defn by its length

pub record Measured (v : Given) (n : ℕ) : Type 0 where
  pub text : Bytes
  pub is : v ≡ yields text
  pub long : length text ≡ n

pub defn_measured : (v : Given) (n : ℕ) → measured_as v ≡ Ok n → Measured v n
unfolding measured_as
defn_measured (yields w) n e = record { text = w; is = refl; long = cc }
defn_measured (fails f) n e = let z : ◌≡◌ {A = ℕ} 0 1 = cc in absurd (omega arith)

pub defn_unmeasured : (v : Given) {x : Answer} → measured_as v ≡ Err x → answered v ≡ Err x
unfolding measured_as answered
defn_unmeasured (yields w) e = let z : ◌≡◌ {A = ℕ} 0 1 = cc in absurd (omega arith)
defn_unmeasured (fails f) e = let k : fault_answer f ≡ _ = cc in ap Err k

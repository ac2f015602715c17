-- define, copydef, pushdef, popdef and undefine: a table that is changed once, or in turn by each argument.
use Rattle.rules.proofs.Base.{◌≤◌, ◌+◌, ℕ, ◌<◌, suc, zero, ◌∙◌, refl, sym, ap, ◌≡◌, subst, true, Bool, false, not, Some, None, Option, List, [], ◌++◌, ◌∷◌, set, add-one, arith, length, drop, drop_of_length-le, drop-cons, not-true, not-false}
use Rattle.rules.specs.declared.Answer.TheVariants as answer
use Rattle.rules.specs.Answers.{no_name, no_definition, fault_answer}
use Rattle.rules.specs.Arguments.{arg}
use Rattle.rules.specs.Bytes.{Bytes, is_name}
use Rattle.rules.specs.Macros.{naming, call_define, call_popdef, call_pushdef, call_undefine, copying, call_copydef}
use Rattle.rules.specs.Run.{Setting}
use Rattle.rules.specs.State.{State, Outcome, next, refused, with_table}
use Rattle.rules.specs.Table.{Meaning, text, Definition, Table, own_lost, newest_place, meaning_of, pushed, defined, popped, undefined, in_turn, meaning_cost, table_cost}
use Rattle.expander.specs.declared.machine.Machine.{Machine}
use Rattle.expander.specs.declared.machine.Stepped.{Stepped}
use Rattle.expander.specs.declared.machine.Progress.TheVariants as progress
use Rattle.expander.specs.declared.packed.Packed.{Packed}
use Rattle.expander.specs.declared.table.Definitions.{Definitions}
use Rattle.expander.specs.Machine.{Memory, memory, Represents, Refines, table_set, stepped}
use Rattle.expander.specs.Table.{Means, DefinitionsIn, TableIn}
use Rattle.expander.proofs.ArgumentLaws.{arg_next}
use Rattle.expander.proofs.Changing.{meaning_cost_lem, cost_used}
use Rattle.expander.proofs.MachineLaws.{pending_fits, calls_fit, over_table}
use Rattle.expander.proofs.Parted.{with_table_lem}
use Rattle.expander.proofs.SteppedLaws.{stepped_on, stepped_refused, stepped_full}

-- ---- a name

name_some : (w : Bytes) → is_name w ≡ true → 0 < length w
unfolding is_name
name_some [] e = absurd (let z : ◌≡◌ {A = ℕ} 0 1 = cc in omega arith)
name_some (x ∷ w) e = omega arith

pub name_long : (w : Bytes) {q : Bool} → q ≡ is_name w → not q ≡ false → 0 < length w
name_long w {q} e n = name_some w (sym e ∙ not-false q n)

-- ---- what the definitions cost with one more

cost_more : (ds : List Definition) (w x : Bytes) → table_cost (ds ++ (record { name = w; meaning = text x } ∷ [])) ≡ table_cost ds + (length w + length x)
unfolding table_cost meaning_cost
cost_more [] w x = omega arith
cost_more (d ∷ ds) w x = omega (arith, cost_more ds w x)

pub cost_pushed : {bytes : Bytes} {ends : List ℕ} {p : Packed} (t : Table) → DefinitionsIn bytes ends p t.definitions → (w x : Bytes)
    → table_cost (pushed w (text x) t).definitions ≡ p.used + (length w + length x)
unfolding pushed
cost_pushed t h w x = cost_more t.definitions w x ∙ ap (λ (n : ℕ). n + (length w + length x)) (cost_used h)

-- and with a meaning that is as long as a text
cost_set : (ds : List Definition) (i : ℕ) (w x : Bytes) (m : Meaning) → meaning_cost m ≡ length x
    → table_cost (set ds i (record { name = w; meaning = m })) ≡ table_cost (set ds i (record { name = w; meaning = text x }))
unfolding table_cost meaning_cost
cost_set [] i w x m e = refl
cost_set (d ∷ ds) zero w x m e = omega arith
cost_set (d ∷ ds) (suc i) w x m e = omega (arith, cost_set ds i w x m e)

cost_last : (ds : List Definition) (w x : Bytes) (m : Meaning) → meaning_cost m ≡ length x
    → table_cost (ds ++ (record { name = w; meaning = m } ∷ [])) ≡ table_cost (ds ++ (record { name = w; meaning = text x } ∷ []))
unfolding table_cost meaning_cost
cost_last [] w x m e = omega arith
cost_last (d ∷ ds) w x m e = omega (arith, cost_last ds w x m e)

pub cost_means : {m : Meaning} {x : Bytes} {k : ℕ} → Means m x k → (w : Bytes) (t : Table) → table_cost (defined w m t).definitions ≡ table_cost (defined w (text x) t).definitions
unfolding defined pushed
cost_means {m} {x} h w t = go (newest_place w t.definitions)
  where
    same : meaning_cost m ≡ length x
    same = meaning_cost_lem m ∙ ap length h.text_is

    go : (o : Option ℕ)
        → table_cost (elim o as (λ _. Table) [ Some i ↦ record { definitions = set t.definitions i (record { name = w; meaning = m }); own = t.own } | None ↦ pushed w m (record { definitions = t.definitions; own = own_lost w t.own }) ]).definitions
        ≡ table_cost (elim o as (λ _. Table) [ Some i ↦ record { definitions = set t.definitions i (record { name = w; meaning = text x }); own = t.own } | None ↦ pushed w (text x) (record { definitions = t.definitions; own = own_lost w t.own }) ]).definitions
    go (Some i) = cost_set t.definitions i w x m same
    go None = cost_last t.definitions w x m same

-- ---- a name gets a meaning

pub define_is : (args : List Bytes) (s : State) → call_define args s ≡ naming defined args s
unfolding call_define
define_is args s = refl

pub pushdef_is : (args : List Bytes) (s : State) → call_pushdef args s ≡ naming pushed args s
unfolding call_pushdef
pushdef_is args s = refl

-- by the name that is judged, w, and what its test said, q
module _ {w : Bytes} {q : Bool} (i : q ≡ is_name w) where
  -- it is none
  module _ (n : not q ≡ true) where
    none_is : {v : Bytes} → w ≡ v → is_name v ≡ false
    none_is e = ap is_name (sym e) ∙ sym i ∙ not-true q n

    pub naming_none : (f : Bytes → Meaning → Table → Table) (args : List Bytes) (s : State) {o : Outcome} → o ≡ naming f args s → w ≡ arg 1 args → o ≡ refused no_name
    unfolding naming
    naming_none f args s is e = let h = none_is e in is ∙ rw (h, naming)

    pub copydef_none : (args : List Bytes) (s : State) → w ≡ arg 2 args → call_copydef args s ≡ refused no_name
    unfolding call_copydef
    copydef_none args s e = let h = none_is e in rw (h, call_copydef)

  -- it is one
  module _ (n : not q ≡ false) where
    one_is : {v : Bytes} → w ≡ v → is_name v ≡ true
    one_is e = ap is_name (sym e) ∙ sym i ∙ not-false q n

    pub naming_is : (f : Bytes → Meaning → Table → Table) (args : List Bytes) (s : State) {o : Outcome} → o ≡ naming f args s → w ≡ arg 1 args → {x : Bytes} → x ≡ arg 2 args
        → o ≡ next (with_table (f w (text x) s.table) s)
    unfolding naming
    naming_is f args s is e l = let h = one_is e in is ∙ rw (h, naming, e, l)

    pub copydef_is : (args : List Bytes) (s : State) → w ≡ arg 2 args → {v : Bytes} → v ≡ arg 1 args → {o : Option Meaning} → meaning_of v s.table ≡ o → call_copydef args s ≡ copying o w s
    unfolding call_copydef
    copydef_is args s e l g =
        let h = one_is e in
        let m : meaning_of (arg 1 args) s.table ≡ _ = ap (λ (z : Bytes). meaning_of z s.table) (sym l) ∙ g in
        rw (h, call_copydef, m, e)

-- the meaning that is copied, and that there is none
pub copying_some : (m : Meaning) (w : Bytes) (s : State) → copying (Some m) w s ≡ next (with_table (defined w m s.table) s)
unfolding copying
copying_some m w s = refl

pub copying_none : (w : Bytes) (s : State) → copying None w s ≡ refused no_definition
unfolding copying
copying_none w s = refl

pub refines_name : {a : Setting} {b : Memory} {m : Machine} {o : Outcome} {t : Stepped} → o ≡ refused no_name → t ≡ stepped (progress.Refused answer.Name) m → Refines a b o b t
unfolding fault_answer
refines_name {m = m} e g = stepped_refused {m = m} no_name e g

pub refines_no_definition : {a : Setting} {b : Memory} {m : Machine} {o : Outcome} {t : Stepped} → o ≡ refused no_definition → t ≡ stepped (progress.Refused answer.NoDefinition) m → Refines a b o b t
unfolding fault_answer
refines_no_definition {m = m} e g = stepped_refused {m = m} no_definition e g

-- ---- the table u comes next

module _
    {a : Setting} {text' set pending calls : Bytes} {call_ends stack : List ℕ} {definitions : Bytes} {table_ends : List ℕ} {streams : Bytes} {owners : List ℕ}
    {wrap errors output : Bytes} {m : Machine} {s : State}
    (r : Represents a (memory text' set pending calls call_ends stack definitions table_ends streams owners wrap errors output) m s) (u : Table) {o : Outcome} (is : o ≡ next (with_table u s))
    {t : Stepped}
  where
    -- it does not fit
    pub overfilled :
        length definitions < table_cost u.definitions → t ≡ stepped (progress.Refused (answer.Room 3)) m
        → Refines a (memory text' set pending calls call_ends stack definitions table_ends streams owners wrap errors output) o
        (memory text' set pending calls call_ends stack definitions table_ends streams owners wrap errors output) t
    unfolding with_table
    overfilled h g =
        let v = with_table u s in
        stepped_full v 2 (over_table a v (pending_fits r) (calls_fit r) (omega (arith, h, r.limits.definitions))) is g

    -- the buffers hold it
    pub changed :
        {before : Memory} {definitions' : Bytes} {table_ends' : List ℕ} {d : Definitions} {m' : Machine} → TableIn definitions' table_ends' d.packed d.own u
        → length definitions' ≡ length definitions → length table_ends' ≡ length table_ends → m' ≡ table_set d m → t ≡ stepped progress.On m'
        → Refines a before o (memory text' set pending calls call_ends stack definitions' table_ends' streams owners wrap errors output) t
    changed h j k y g = stepped_on (with_table_lem r h j k) is (g ∙ ap (stepped progress.On) y)

pub popdef_is : (args : List Bytes) (s : State) → call_popdef args s ≡ next (with_table (in_turn popped args s.table) s)
unfolding call_popdef
popdef_is args s = refl

pub undefine_is : (args : List Bytes) (s : State) → call_undefine args s ≡ next (with_table (in_turn undefined args s.table) s)
unfolding call_undefine
undefine_is args s = refl

-- ---- a loop over the arguments: k of them have changed the table u; what the buffers hold now goes on to what u comes to

pub record InTurn (f : Bytes → Table → Table) (args : List Bytes) (u : Table) (bytes : Bytes) (ends : List ℕ) (d : Definitions) (k : ℕ) : Type 0 where
  pub table : Table
  pub holds : TableIn bytes ends d.packed d.own table
  pub same : in_turn f (drop k args) table ≡ in_turn f args u

pub turns_begin : (f : Bytes → Table → Table) (args : List Bytes) {u : Table} {bytes : Bytes} {ends : List ℕ} {d : Definitions}
    → TableIn bytes ends d.packed d.own u → InTurn f args u bytes ends d 0
turns_begin f args {u} h = record { table = u; holds = h; same = refl }

module _ {f : Bytes → Table → Table} {args : List Bytes} {u : Table} {bytes : Bytes} {ends : List ℕ} {d : Definitions} {k : ℕ} (h : InTurn f args u bytes ends d k) where
  -- the next argument's turn
  pub turns_on :
      {bytes' : Bytes} {ends' : List ℕ} {d' : Definitions} (w : Bytes) → k < length args → w ≡ arg (k + 1) args
      → ((v : Table) → TableIn bytes ends d.packed d.own v → TableIn bytes' ends' d'.packed d'.own (f w v)) → InTurn f args u bytes' ends' d' (k + 1)
  unfolding in_turn
  turns_on w l e g =
      let c : drop k args ≡ w ∷ drop (k + 1) args =
      rw add-one (drop-cons args k [] l ∙ ap (λ (z : Bytes). z ∷ drop (suc k) args) (sym (e ∙ arg_next k args))) in
      record {
        table = f w h.table;
        holds = g h.table h.holds;
        same = sym (ap (λ (l : List Bytes). in_turn f l h.table) c) ∙ h.same;
      }

  -- all have had their turn
  pub turns_end : length args ≤ k → TableIn bytes ends d.packed d.own (in_turn f args u)
  unfolding in_turn
  turns_end l = subst (TableIn bytes ends d.packed d.own) (sym (ap (λ (l : List Bytes). in_turn f l h.table) (drop_of_length-le args {i = k} l)) ∙ h.same) h.holds

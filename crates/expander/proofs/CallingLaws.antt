-- Laws of calls that are made: what a name that means something is, the innermost call when it is closed, and the state then.
use Rattle.rules.proofs.Base.{◌≤◌, ◌+◌, ℕ, ◌-◌, ◌<◌, suc, ◌*◌, ◌∙◌, refl, sym, ap, ◌≡◌, subst, true, Bool, false, Some, None, Option, List, [], ◌++◌, ◌∷◌, arith, length, drop, take, get_or, length-append, length-drop, drop_of_length-le, length-take-le, take_at, take-append-le}
use Rattle.rules.specs.Bytes.{Bytes, bytes_of, same_bytes}
use Rattle.rules.specs.declared.Answer.TheVariants as answer
use Rattle.rules.specs.Arguments.{substituted}
use Rattle.rules.specs.Results.{yields}
use Rattle.rules.specs.Streams.{total_length}
use Rattle.rules.specs.Table.{Meaning, predefined, Table, predefined_names, number_from, predefined_number, keeps_own, own_meaning, newest_place, meaning_at, meaning_of}
use Rattle.rules.specs.Source.{ahead, advance}
use Rattle.rules.specs.State.{Call, State, Outcome, with_calls, with_source, taking}
use Rattle.rules.specs.Macros.{giving, perform, performed, called}
use Rattle.rules.specs.Step.{closed}
use Rattle.rules.specs.Run.{Setting}
use Rattle.hashing.specs.Hashing.{bucket_of}
use Rattle.expander.specs.declared.calls.Calls.{Calls}
use Rattle.std.specs.Prelude.{Result}
use Rattle.rules.specs.declared.Answer.{Answer}
use Rattle.expander.specs.declared.machine.Machine.{Machine}
use Rattle.expander.specs.declared.machine.Stepped.{Stepped}
use Rattle.expander.specs.declared.machine.Progress.TheVariants as progress
use Rattle.expander.specs.declared.packed.Packed.{Packed}
use Rattle.expander.specs.declared.source.Position.{Position}
use Rattle.expander.specs.declared.table.Meaning.{Meaning as Looked}
use Rattle.expander.specs.declared.table.Meaning.TheVariants as looked
use Rattle.expander.specs.Limits.{most_lent, call_ends_length}
use Rattle.expander.specs.Held.{Held, strings_from}
use Rattle.expander.specs.Calls.{open_strings, CallsIn}
use Rattle.expander.specs.Giving.{pushed_step}
use Rattle.expander.specs.Machine.{Memory, Represents, Refines, Reach, bytes_ahead, calls_set, source_set, stepped}
use Rattle.expander.specs.Packed.{Packs}
use Rattle.expander.specs.Source.{SourceIn}
use Rattle.expander.specs.Table.{rows, meaning_for, text_end, TableIn, Finds}
use Rattle.expander.proofs.Parts.{empty_of}
use Rattle.expander.proofs.CallsLaws.{first_in_lem, closed_arguments, closed_name}
use Rattle.rules.proofs.SameBytes.{same_is}
use Rattle.expander.proofs.Changing.{newest_name}
use Rattle.expander.proofs.MacroLaws.{refines_gone}
use Rattle.expander.proofs.Packing.{count_is, string_fits, strings_are}
use Rattle.expander.proofs.ArgumentLaws.{held_by}
use Rattle.expander.proofs.Parted.{with_source_lem, with_calls_lem}
use Rattle.expander.proofs.SourceLaws.{ahead_is, ahead_long}
use Rattle.expander.proofs.SteppedLaws.{refines_by, refines_as}
use Rattle.expander.proofs.Rows.{name_at_lem, newest_in_lem, string_count, finds_text, finds_within}

-- ---- a name that means something

-- the number of a name among others
module _ (w : Bytes) where
  number_long : (k : ℕ) (ns : List Bytes) (j : ℕ) → number_from k w ns ≡ Some j → length w ≤ total_length ns
  unfolding number_from total_length
  number_long k [] j e = absurd (let z : ◌≡◌ {A = ℕ} 0 1 = cc in omega arith)
  number_long k (n ∷ ns) j e = go (same_bytes w n) refl e (number_long (suc k) ns j)
    where
      go : (t : Bool) → same_bytes w n ≡ t → elim t [ true ↦ Some k | false ↦ number_from (suc k) w ns ] ≡ Some j
          → (number_from (suc k) w ns ≡ Some j → length w ≤ total_length ns) → length w ≤ length n + total_length ns
      go true s q f = omega (arith, ap length (same_is w n s))
      go false s q f = omega (arith, f q)

names_long : total_length predefined_names ≤ most_lent
unfolding total_length predefined_names bytes_of
names_long = omega arith

-- an own meaning is that of a number
pub record Own (w : Bytes) (x : Meaning) : Type 0 where
  pub number : ℕ
  pub found : predefined_number w ≡ Some number
  pub is : x ≡ predefined number

own_number : (w : Bytes) (own : ℕ) (x : Meaning) → own_meaning w own ≡ Some x → Own w x
unfolding own_meaning
own_number w own x e = go (predefined_number w) refl e
  where
    go : (o : Option ℕ) → predefined_number w ≡ o
        → ◌≡◌ {A = Option Meaning} (elim o [ None ↦ None | Some k ↦ elim (keeps_own k own) [ true ↦ Some (predefined k) | false ↦ None ] ]) (Some x) → Own w x
    go None q e = absurd (let z : ◌≡◌ {A = ℕ} 0 1 = cc in omega arith)
    go (Some k) q e = on (keeps_own k own) e
      where
        on : (t : Bool) → ◌≡◌ {A = Option Meaning} (elim t [ true ↦ Some (predefined k) | false ↦ None ]) (Some x) → Own w x
        on true e = record { number = k; found = q; is = cc }
        on false e = absurd (let z : ◌≡◌ {A = ℕ} 0 1 = cc in omega arith)

module _ {bytes : Bytes} {ends : List ℕ} {p : Packed} {own : ℕ} {t : Table} (h : TableIn bytes ends p own t) (w : Bytes) where
  -- what is defined has a name that fits the buffer
  known_short : (x : Meaning) → meaning_of w t ≡ Some x → length w ≤ most_lent
  unfolding meaning_of predefined_number
  known_short x e = go (newest_place w t.definitions) refl e
    where
      go : (o : Option ℕ) → newest_place w t.definitions ≡ o
          → ◌≡◌ {A = Option Meaning} (elim o [ Some i ↦ meaning_at i t.definitions | None ↦ own_meaning w t.own ]) (Some x) → length w ≤ most_lent
      go (Some i) q e =
          let ds = t.definitions in
          let lt = newest_in_lem w ds i q in
          let d = h.holds in
          omega (arith, ap length (newest_name w ds i q ∙ sym (name_at_lem ds i)), string_fits d.packs (2 * i) (omega (arith, lt, string_count d)), d.packs.used_in, d.bytes_most)
      go None q e =
          let o = own_number w t.own x e in
          omega (arith, number_long w 1 predefined_names o.number o.found, names_long)

  -- a name that fits no buffer means nothing
  pub unknown_long : most_lent < length w → Finds t.definitions (meaning_of w t) looked.Undefined
  unfolding meaning_for text_end
  unknown_long l = record { is = go (meaning_of w t) refl; within = omega arith }
    where
      go : (o : Option Meaning) → meaning_of w t ≡ o → meaning_of w t ≡ None
      go None q = q
      go (Some x) q = absurd (omega (arith, known_short x q))

  -- what was found of a name
  module _ {r : Looked} (f : Finds t.definitions (meaning_of w t) r) where
    pub found_short : {i : ℕ} → r ≡ looked.Text i → length w ≤ most_lent
    found_short {i} e = known_short _ (finds_text (subst (λ (y : Looked). Finds t.definitions (meaning_of w t) y) e f))

-- ---- the innermost call

-- there is one where a call is open
pub record Innermost (cs : List Call) : Type 0 where
  pub call : Call
  pub below : List Call
  pub is : cs ≡ call ∷ below

pub innermost : {bytes : Bytes} {ends stack : List ℕ} {x : Calls} {cs : List Call} → CallsIn bytes ends stack x cs → 0 < x.opens → Innermost cs
innermost {cs = []} m h = absurd (omega (arith, m.open_is))
innermost {cs = c ∷ cs} m h = record { call = c; below = cs; is = refl }

module _ {bytes : Bytes} {ends stack : List ℕ} {x : Calls} {c : Call} {cs : List Call} (m : CallsIn bytes ends stack x (c ∷ cs)) (first : ℕ) (e : first ≡ length (open_strings cs)) where
  -- its strings, from the first on
  pub first_within : first + 1 < x.strings.count
  first_within = omega (arith, first_in_lem m)

  pub first_few : first + 1 < call_ends_length
  first_few = omega (arith, first_in_lem m, m.open_few, m.args_few)

  -- its arguments stand behind its name
  pub arguments_closed : strings_from ends x.strings bytes (first + 1) ≡ c.finished ++ (c.current ∷ [])
  unfolding strings_from
  arguments_closed =
      ap (drop (first + 1)) (strings_are m.strings) ∙ ap (λ (n : ℕ). drop (n + 1) (open_strings (c ∷ cs))) e ∙ closed_arguments m

  pub held_closed : length bytes ≤ most_lent → Held bytes ends x.strings (first + 1)
  held_closed h = held_by m.strings (omega (arith, first_in_lem m)) (omega (arith, m.open_few, m.args_few)) h

  module _ {name : Bytes} (f : (ss : List Bytes) → Packs ends x.strings.count bytes x.strings.used ss → name ≡ get_or ss first []) where
    pub name_closed : name ≡ c.name
    name_closed = f (open_strings (c ∷ cs)) m.strings ∙ ap (λ (n : ℕ). get_or (open_strings (c ∷ cs)) n []) e ∙ closed_name m

    pub name_short : length bytes ≤ most_lent → length name ≤ most_lent
    name_short h =
        let n = open_strings (c ∷ cs) in
        omega (arith, ap length (f n m.strings), string_fits m.strings first (omega (arith, first_in_lem m)), m.strings.used_in)

-- no arguments: the strings behind the last
module _ {bytes : Bytes} {ends stack : List ℕ} {x : Calls} {cs : List Call} (m : CallsIn bytes ends stack x cs) where
  pub arguments_none : strings_from ends x.strings bytes x.strings.count ≡ []
  unfolding strings_from
  arguments_none = ap (drop x.strings.count) (strings_are m.strings) ∙ drop_of_length-le (open_strings cs) {i = x.strings.count} (omega (arith, count_is m.strings))

  pub held_none : length bytes ≤ most_lent → Held bytes ends x.strings x.strings.count
  held_none h = held_by m.strings (omega arith) (omega (arith, m.open_few, m.args_few)) h

-- ---- a call that is to be made

-- of a name that means w, which was found as r, with the strings that are given as arguments, in the state s
pub record Ready (a : Setting) (b : Memory) (m : Machine) (given : List Bytes) (w : Option Meaning) (r : Looked) (args : List Bytes) (s : State) : Type 0 where
  pub represents : Represents a b m s
  pub arguments : given ≡ args
  pub finds : Finds s.table.definitions w r

module _ {a : Setting} {b : Memory} {m : Machine} {given : List Bytes} {w : Option Meaning} {r : Looked} {args : List Bytes} {s : State} (q : Ready a b m given w r args s) where
  found_as : {y : Looked} → r ≡ y → Finds s.table.definitions w y
  found_as e = subst (λ (y : Looked). Finds s.table.definitions w y) e q.finds

  pub text_within : {i : ℕ} → r ≡ looked.Text i → 2 * i + 2 ≤ m.table.packed.count
  text_within e = omega (arith, finds_within q.represents.table.holds (found_as e))

  -- in a machine that was made the same
  pub ready_in : {after : Machine} → after ≡ m → Ready a b after given w r args s
  ready_in e = subst (λ (k : Machine). Ready a b k given w r args s) (sym e) q

  -- what it gives, by what was found
  module _ (name : Bytes) {b' : Memory} {t : Stepped} where
    pub calls_text :
        {before : Memory} {v : Bytes} {i : ℕ} → r ≡ looked.Text i → v ≡ name
        → Refines a before (giving (yields (substituted v given s.marks (get_or (rows s.table.definitions) (2 * i + 1) []))) s) b' t → Refines a before (called w name args s) b' t
    unfolding called performed
    calls_text {v = v} {i} e n g =
        let y = get_or (rows s.table.definitions) (2 * i + 1) [] in
        refines_as
        (ap (λ (o : Option Meaning). called o name args s) (finds_text (found_as e))
        ∙ ap (λ (u : Bytes). giving (yields (substituted u args s.marks y)) s) (sym n)
        ∙ ap (λ (l : List Bytes). giving (yields (substituted v l s.marks y)) s) (sym q.arguments)) g

    pub calls_number : {before : Memory} {k : ℕ} → r ≡ looked.Predefined k → Refines a before (perform k given s) b' t → Refines a before (called w name args s) b' t
    unfolding called performed meaning_for
    calls_number {k = k} e g =
        refines_as (ap (λ (o : Option Meaning). called o name args s) (found_as e).is ∙ ap (λ (l : List Bytes). perform k l s) (sym q.arguments)) g

    -- by what the macro of that number is called
    pub calls_as :
        {before : Memory} {k : ℕ} {f : List Bytes → State → Outcome} → r ≡ looked.Predefined k → perform k ≡ f → Refines a before (f given s) b' t
        → Refines a before (called w name args s) b' t
    calls_as e p g = calls_number e (refines_as (ap (λ (f : List Bytes → State → Outcome). f given s) p) g)

    pub calls_nothing : {m' : Machine} → r ≡ looked.Undefined → t ≡ stepped (progress.Refused answer.Gone) m' → Refines a b' (called w name args s) b' t
    unfolding called meaning_for
    calls_nothing e g = refines_as (ap (λ (o : Option Meaning). called o name args s) (found_as e).is) (refines_gone g)

-- what a machine makes of a result that was pushed, once it was made the same
pub refines_after :
    {a : Setting} {o : Outcome} {before b : Memory} {m after : Machine} (g : Result ℕ Answer) {t : Stepped} → after ≡ m → t ≡ pushed_step after g
    → Refines a before o b (pushed_step m g) → Refines a before o b t
refines_after g e f h = refines_by refl (f ∙ ap (λ (k : Machine). pushed_step k g) e) h

-- the innermost call, when it is closed
module _ {a : Setting} {b : Memory} {m : Machine} {s : State} {c : Call} {cs : List Call} (h : Represents a b m s) (e : s.calls ≡ c ∷ cs) where
  pub opened_calls : CallsIn b.calls b.call_ends b.stack m.calls (c ∷ cs)
  opened_calls = subst (λ (l : List Call). CallsIn b.calls b.call_ends b.stack m.calls l) e h.calls

  pub ready_closed :
      {first : ℕ} {name : Bytes} {x : Calls} {r : Looked} → first ≡ length (open_strings cs)
      → ((ss : List Bytes) → Packs b.call_ends m.calls.strings.count b.calls m.calls.strings.used ss → name ≡ get_or ss first [])
      → CallsIn b.calls b.call_ends b.stack x cs
      → ((t : Table) → TableIn b.definitions b.table_ends m.table.packed m.table.own t → Finds t.definitions (meaning_of name t) r)
      → Ready a b (calls_set x m) (strings_from b.call_ends m.calls.strings b.calls (first + 1)) (meaning_of c.name (with_calls cs s).table) r
      (c.finished ++ (c.current ∷ [])) (with_calls cs s)
  unfolding with_calls
  ready_closed {first} {name} {x} {r} f n k l =
      let o = opened_calls in
      record {
        represents = with_calls_lem h k refl refl refl;
        arguments = arguments_closed o first f;
        finds = subst (λ (v : Bytes). Finds s.table.definitions (meaning_of v s.table) r) (name_closed o first f n) (l s.table h.table);
      }

pub closes :
    {a : Setting} {before b : Memory} {t : Stepped} (c : Call) (cs : List Call) (s : State)
    → Refines a before (called (meaning_of c.name (with_calls cs s).table) c.name (c.finished ++ (c.current ∷ [])) (with_calls cs s)) b t → Refines a before (closed c cs s) b t
unfolding closed with_calls
closes c cs s g = g

-- ---- a name ahead

-- copied to the front of d
pub name_copied :
    (input pending d : Bytes) (taken from n : ℕ) {y t : Bytes} → n ≤ (length pending - from) + (length input - taken) → n ≤ length d
    → t ≡ drop from pending ++ drop taken input → y ≡ take (length (take n d)) (drop 0 t)
    → take n (y ++ drop n d) ≡ take n (drop from pending ++ drop taken input)
name_copied input pending d taken from n {y} k h i e =
    let l = drop from pending ++ drop taken input in
    let f : y ≡ take n l = e ∙ rw (length-take-le n d h, i) refl in
    let g : length y ≡ n =
    ap length f ∙ length-take-le n l (omega (arith, length-append (drop from pending) (drop taken input), length-drop from pending, length-drop taken input)) in
    take_at y (drop n d) n (omega (arith, g)) ∙ f

-- a part of so many bytes
pub part_long : (l : Bytes) (at n : ℕ) → at + n ≤ length l → length (take (at + n - at) (drop at l)) ≡ n
part_long l at n h =
    let e : at + n - at ≡ n = omega arith in
    rw e (length-take-le n (drop at l) (omega (arith, length-drop at l)))

-- where it lies in one buffer
module _ (input pending : Bytes) (taken from n : ℕ) where
  pub name_pending : n ≤ length pending - from → take (from + n - from) (drop from pending) ≡ take n (drop from pending ++ drop taken input)
  name_pending h =
      let e : from + n - from ≡ n = omega arith in
      rw e (sym (take-append-le n (drop from pending) (drop taken input) (omega (arith, length-drop from pending))))

  pub name_input : length pending - from ≡ 0 → take (taken + n - taken) (drop taken input) ≡ take n (drop from pending ++ drop taken input)
  name_input h =
      let e : taken + n - taken ≡ n = omega arith in
      let f : drop from pending ≡ [] = empty_of (drop from pending) (omega (arith, length-drop from pending)) in
      rw (e, f) refl

module _ {a : Setting} {b : Memory} {m : Machine} {s : State} (h : Represents a b m s) {n : ℕ} (k : Reach b.text b.pending m.source 0 n n) where
  pub name_ahead : n ≤ length (ahead s.source)
  name_ahead = omega (arith, k.some, ahead_long h.source)

  pub name_long : length (take n (ahead s.source)) ≡ n
  name_long = length-take-le n (ahead s.source) name_ahead

  pub name_is : {v : Bytes} → v ≡ take n (drop m.source.from b.pending ++ drop m.source.taken b.text) → v ≡ take n (ahead s.source)
  name_is e = e ∙ ap (take n) (sym (ahead_is h.source))

  pub name_fits : {v : Bytes} → v ≡ take n (drop m.source.from b.pending ++ drop m.source.taken b.text) → n ≤ most_lent → length v ≤ most_lent
  name_fits e l = omega (arith, ap length (name_is e), name_long)

  pub represents_ahead :
      {v : Bytes} {r : Looked} → v ≡ take n (drop m.source.from b.pending ++ drop m.source.taken b.text)
      → ((t : Table) → TableIn b.definitions b.table_ends m.table.packed m.table.own t → Finds t.definitions (meaning_of v t) r)
      → Finds s.table.definitions (meaning_of (take n (ahead s.source)) s.table) r
  represents_ahead {v} {r} e f = subst (λ (u : Bytes). Finds s.table.definitions (meaning_of u s.table) r) (name_is e) (f s.table h.table)

  pub represents_nothing : most_lent < n → Finds s.table.definitions (meaning_of (take n (ahead s.source)) s.table) looked.Undefined
  represents_nothing l = unknown_long h.table (take n (ahead s.source)) (omega (arith, name_long))

  -- its bucket has nothing
  pub represents_none :
      {bucket : ℕ} → bucket ≡ bucket_of (take n (bytes_ahead b.text b.pending m.source))
      → ((bytes : Bytes) (p : Packed) (own : ℕ) (t : Table) (w : Bytes) → TableIn bytes b.table_ends p own t → bucket_of w ≡ bucket → meaning_of w t ≡ None)
      → Finds s.table.definitions (meaning_of (take n (ahead s.source)) s.table) looked.Undefined
  unfolding meaning_for text_end
  represents_none e f =
      record {
        is = f b.definitions m.table.packed m.table.own s.table (take n (ahead s.source)) h.table (sym (e ∙ ap bucket_of (name_is refl)));
        within = omega arith;
      }

  -- and called without arguments
  pub ready_bare :
      {to : Position} {w : Option Meaning} {r : Looked} → SourceIn b.text b.pending to (advance n s.source) → Finds s.table.definitions w r
      → Ready a b (source_set to m) (strings_from b.call_ends m.calls.strings b.calls m.calls.strings.count) w r [] (taking n s)
  unfolding taking with_source
  ready_bare i f =
      record {
        represents = with_source_lem h i refl;
        arguments = arguments_none h.calls;
        finds = f;
      }

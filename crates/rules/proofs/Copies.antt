-- Laws of a name that gets a meaning, as define and copydef give it: what each name means then, and what a copy costs (02, request 7).
-- Assumes nothing.
use Rattle.rules.proofs.Base.{◌+◌, ℕ, suc, ◌∙◌, refl, sym, ap, ◌≡◌, true, Bool, false, Some, None, Option, List, [], ◌++◌, ◌∷◌, arith, length, set}
use Rattle.rules.specs.Bytes.{Bytes, same_bytes, is_name}
use Rattle.rules.specs.Answers.{Fault}
use Rattle.rules.specs.Table.{Meaning, predefined, Definition, Table, newest_place, meaning_at, meaning_of, pushed, defined, meaning_cost, table_cost}
use Rattle.rules.specs.State.{State, Outcome, next, stop, refused, with_table}
use Rattle.rules.specs.Arguments.{arg}
use Rattle.rules.specs.Macros.{copying, call_copydef}
use Rattle.rules.proofs.SameBytes.{same_self, same_is}
use Rattle.rules.proofs.Own.{own_other}

-- ---- the newest definition of a name

abbrev either : Bool → Meaning → Option Meaning → Option Meaning
either true m o = Some m
either false m o = o

-- its meaning, or o where there is none
abbrev newest_or : Bytes → List Definition → Option Meaning → Option Meaning
newest_or v ds o = elim (newest_place v ds) [ Some i ↦ meaning_at i ds | None ↦ o ]

newest_none : (v : Bytes) (ds : List Definition) (o : Option Meaning) → newest_place v ds ≡ None → newest_or v ds o ≡ o
newest_none v ds o e = rw (e, newest_or)

-- the first of some definitions counts where no other is of the name, and the last before all
newest_first : (v : Bytes) (d : Definition) (ds : List Definition) (o : Option Meaning)
    → newest_or v (d ∷ ds) o ≡ newest_or v ds (either (same_bytes v d.name) d.meaning o)
unfolding newest_place meaning_at
newest_first v d ds o = go (newest_place v ds) (same_bytes v d.name)
  where
    go : (p : Option ℕ) (t : Bool)
        → ◌≡◌ {A = Option Meaning}
        (elim (elim p as (λ _. Option ℕ) [ Some i ↦ Some (suc i) | None ↦ elim t [ true ↦ Some 0 | false ↦ None ] ]) [ Some i ↦ meaning_at i (d ∷ ds) | None ↦ o ])
        (elim p [ Some i ↦ meaning_at i ds | None ↦ either t d.meaning o ])
    go (Some i) t = refl
    go None true = refl
    go None false = refl

newest_behind : (v : Bytes) (d : Definition) (ds : List Definition) (o : Option Meaning) → same_bytes v d.name ≡ false → newest_or v (d ∷ ds) o ≡ newest_or v ds o
newest_behind v d ds o e = newest_first v d ds o ∙ ap (λ (t : Bool). newest_or v ds (either t d.meaning o)) e

newest_last : (v : Bytes) (ds : List Definition) (d : Definition) (o : Option Meaning) {b : Bool} → same_bytes v d.name ≡ b
    → newest_or v (ds ++ (d ∷ [])) o ≡ either b d.meaning (newest_or v ds o)
unfolding newest_place
newest_last v [] d o e = newest_first v d [] o ∙ ap (λ (b : Bool). either b d.meaning o) e
newest_last v (c ∷ ds) d o {b} e =
    newest_first v c (ds ++ (d ∷ [])) o ∙ newest_last v ds d (either (same_bytes v c.name) c.meaning o) e ∙ ap (either b d.meaning) (sym (newest_first v c ds o))

module _ (w : Bytes) where
  -- where the newest stands: behind the first, or first, and the first is then of the name
  place_of : (P : ℕ → Type 0) (d : Definition) (ds : List Definition) (i : ℕ) → newest_place w (d ∷ ds) ≡ Some i
      → ((j : ℕ) → newest_place w ds ≡ Some j → P (suc j)) → (newest_place w ds ≡ None → w ≡ d.name → P 0) → P i
  unfolding newest_place
  place_of P d ds i e behind first = go (newest_place w ds) refl (same_bytes w d.name) refl e
    where
      go : (o : Option ℕ) → newest_place w ds ≡ o → (t : Bool) → same_bytes w d.name ≡ t
          → ◌≡◌ {A = Option ℕ} (elim o [ Some j ↦ Some (suc j) | None ↦ elim t [ true ↦ Some 0 | false ↦ None ] ]) (Some i) → P i
      go (Some j) q t s e =
          let n : suc j ≡ i = cc in
          rw (sym n) (behind j q)
      go None q true s e =
          let n : 0 ≡ i = cc in
          rw (sym n) (first q (same_is w d.name s))
      go None q false s e = absurd (let z : ◌≡◌ {A = ℕ} 0 1 = cc in omega arith)

  module _ (m : Meaning) where
    abbrev new : Definition
    new = record { name = w; meaning = m }

    -- the newest replaced: by itself, nothing changes; by another, the name has the new meaning and other names have theirs
    replaced_self : (ds : List Definition) (i : ℕ) → newest_place w ds ≡ Some i → meaning_at i ds ≡ Some m → set ds i new ≡ ds
    unfolding newest_place meaning_at
    replaced_self [] i e h = refl
    replaced_self (d ∷ ds) i e h =
        place_of (λ i. meaning_at i (d ∷ ds) ≡ Some m → set (d ∷ ds) i new ≡ d ∷ ds) d ds i e
        (λ j q h. ap (λ (x : List Definition). d ∷ x) (replaced_self ds j q h))
        (λ q s h. ap (λ (x : Definition). x ∷ ds) (alike d s h))
        h
      where
        alike : (d : Definition) → w ≡ d.name → Some d.meaning ≡ Some m → new ≡ d
        alike d s h =
            let e : m ≡ d.meaning = cc in
            rw (e, s)

    replaced : (ds : List Definition) (i : ℕ) (o : Option Meaning) → newest_place w ds ≡ Some i → newest_or w (set ds i new) o ≡ Some m
    unfolding newest_place
    replaced [] i o e = absurd (let z : ◌≡◌ {A = ℕ} 0 1 = cc in omega arith)
    replaced (d ∷ ds) i o e =
        place_of (λ i. newest_or w (set (d ∷ ds) i new) o ≡ Some m) d ds i e
        (λ j q. newest_first w d (set ds j new) o ∙ replaced ds j _ q)
        (λ q s. newest_first w new ds o ∙ newest_none w ds _ q ∙ ap (λ (t : Bool). either t m o) (same_self w))

    replaced_other : (v : Bytes) → same_bytes v w ≡ false → (ds : List Definition) (i : ℕ) (o : Option Meaning) → newest_place w ds ≡ Some i
        → newest_or v (set ds i new) o ≡ newest_or v ds o
    unfolding newest_place
    replaced_other v ne [] i o e = refl
    replaced_other v ne (d ∷ ds) i o e =
        place_of (λ i. newest_or v (set (d ∷ ds) i new) o ≡ newest_or v (d ∷ ds) o) d ds i e
        (λ j q. newest_first v d (set ds j new) o ∙ replaced_other v ne ds j _ q ∙ sym (newest_first v d ds o))
        (λ q s. newest_behind v new ds o ne ∙ sym (newest_behind v d ds o (ap (same_bytes v) (sym s) ∙ ne)))

-- ---- what 02 says of a copy

-- "the second argument gets the meaning of the first"
pub defined_means : (w : Bytes) (m : Meaning) (t : Table) → meaning_of w (defined w m t) ≡ Some m
unfolding meaning_of defined pushed
defined_means w m t = go (newest_place w t.definitions) refl
  where
    go : (o : Option ℕ) → newest_place w t.definitions ≡ o → meaning_of w (defined w m t) ≡ Some m
    go (Some i) e = rw (e, defined) (replaced w m t.definitions i _ e)
    go None e = rw (e, defined) (newest_last w t.definitions (new w m) _ (same_self w))

-- and no other name: every other one means what it meant
pub others_keep : (v w : Bytes) (m : Meaning) (t : Table) → same_bytes v w ≡ false → meaning_of v (defined w m t) ≡ meaning_of v t
unfolding meaning_of defined pushed
others_keep v w m t ne = go (newest_place w t.definitions) refl
  where
    go : (o : Option ℕ) → newest_place w t.definitions ≡ o → meaning_of v (defined w m t) ≡ meaning_of v t
    go (Some i) e = rw (e, defined) (replaced_other w m v ne t.definitions i _ e)
    go None e = rw (e, defined) (newest_last v t.definitions (new w m) _ ne ∙ ap (newest_or v t.definitions) (own_other v w t.own ne))

-- a copydef that goes on gives its second argument the meaning that the first had
pub copydef_means : (args : List Bytes) (s u : State) → call_copydef args s ≡ next u → meaning_of (arg 2 args) u.table ≡ meaning_of (arg 1 args) s.table
unfolding call_copydef copying with_table
copydef_means args s u e = go (is_name (arg 2 args)) (meaning_of (arg 1 args) s.table) _ e
  where
    table_in : Outcome → Table
    table_in (next u) = u.table
    table_in (stop x u) = u.table
    table_in (refused f) = s.table

    go : (b : Bool) (o : Option Meaning) (f : Fault) → elim b [ true ↦ copying o (arg 2 args) s | false ↦ refused f ] ≡ next u
        → meaning_of (arg 2 args) u.table ≡ o
    go true (Some m) f e = ap (λ (x : Outcome). meaning_of (arg 2 args) (table_in x)) (sym e) ∙ defined_means (arg 2 args) m s.table
    go true None f e = absurd (let z : ◌≡◌ {A = ℕ} 0 1 = cc in omega arith)
    go false o f e = absurd (let z : ◌≡◌ {A = ℕ} 0 1 = cc in omega arith)

-- "as define would set it", in the place of the newest: a definition copied onto its own name changes nothing
pub copied_onto_itself : (w : Bytes) (m : Meaning) (t : Table) (i : ℕ) → newest_place w t.definitions ≡ Some i → meaning_at i t.definitions ≡ Some m
    → defined w m t ≡ t
unfolding defined
copied_onto_itself w m t i e h = rw (e, defined, replaced_self w m t.definitions i e h)

-- "The copy of a predefined meaning costs its name only"
pub copy_costs_name : (w : Bytes) (k : ℕ) (t : Table) → table_cost (pushed w (predefined k) t).definitions ≡ table_cost t.definitions + length w
unfolding pushed table_cost meaning_cost
copy_costs_name w k t = go t.definitions
  where
    go : (ds : List Definition) → table_cost (ds ++ (record { name = w; meaning = predefined k } ∷ [])) ≡ table_cost ds + length w
    go [] = omega arith
    go (d ∷ ds) = omega (arith, go ds)

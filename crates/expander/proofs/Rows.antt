-- Laws of definitions and of the strings that they are. Assumes nothing.
use Rattle.rules.proofs.Base.{◌≤◌, ◌+◌, ℕ, ◌-◌, ◌<◌, suc, zero, ◌*◌, ◌/◌, ◌∙◌, refl, sym, ap, ◌≡◌, subst, true, Bool, false, Some, None, Option, List, [], ◌++◌, ◌∷◌, not-suc-le-zero, le_of_suc-le-suc, arith, lit<, length, take, get_or, length-take, take_all, take-suc}
use Rattle.rules.specs.Bytes.{Bytes, same_bytes}
use Rattle.rules.specs.Streams.{joined}
use Rattle.rules.specs.Table.{Meaning, text, predefined, Definition, Table, predefined_names, fresh_table, number_from, predefined_number, keeps_own, own_meaning, newest_place, meaning_at, meaning_of}
use Rattle.expander.specs.Limits.{most_lent, all_own, table_ends_length}
use Rattle.expander.specs.Packed.{ends_from}
use Rattle.expander.specs.Meanings.{number_at}
use Rattle.expander.specs.Buckets.{Chained}
use Rattle.expander.specs.Table.{meaning_text, rows, meaning_number, Numbered, Sound, blank, DefinitionsIn, ValidDefinitions, TableIn, meaning_for, text_end, Finds}
use Rattle.expander.specs.declared.packed.Packed.{Packed}
use Rattle.expander.specs.declared.table.Meaning.{Meaning as Looked}
use Rattle.expander.specs.declared.table.Meaning.TheVariants as looked
use Rattle.expander.proofs.Packing.{count_is}

pub length-rows : (ds : List Definition) → length (rows ds) ≡ 2 * length ds
unfolding rows
length-rows [] = refl
length-rows (d ∷ ds) = omega (arith, length-rows ds)

pub name_at_lem : (ds : List Definition) (i : ℕ) → get_or (rows ds) (2 * i) [] ≡ (get_or ds i blank).name
unfolding rows blank
name_at_lem [] i = refl
name_at_lem (d ∷ ds) zero = refl
name_at_lem (d ∷ ds) (suc i) =
    let e : 2 * suc i ≡ suc (suc (2 * i)) = omega arith in
    rw e (name_at_lem ds i)

pub text_at_lem : (ds : List Definition) (i : ℕ) → get_or (rows ds) (2 * i + 1) [] ≡ meaning_text (get_or ds i blank).meaning
unfolding rows blank meaning_text
text_at_lem [] i = refl
text_at_lem (d ∷ ds) zero = refl
text_at_lem (d ∷ ds) (suc i) =
    let e : 2 * suc i + 1 ≡ suc (suc (2 * i + 1)) = omega arith in
    rw e (text_at_lem ds i)

-- a meaning is told by its byte
numbered_at : (ds : List Definition) (i : ℕ) → Sound ds → i < length ds → Numbered (get_or ds i blank).meaning
unfolding Sound
numbered_at [] i p h = absurd (not-suc-le-zero h)
numbered_at (d ∷ ds) zero p h = p.1
numbered_at (d ∷ ds) (suc i) p h = numbered_at ds i p.2 (le_of_suc-le-suc h)

is_text : (m : Meaning) → Numbered m → meaning_number m ≡ 0 → m ≡ text (meaning_text m)
unfolding meaning_number meaning_text Numbered
is_text (text x) n e = refl
is_text (predefined k) n e = absurd (omega (arith, n))

is_predefined : (m : Meaning) {k : ℕ} → meaning_number m ≡ k → (k ≡ 0 → ⊥) → m ≡ predefined k
unfolding meaning_number
is_predefined (text x) e f = absurd (f (sym e))
is_predefined (predefined k) e f = ap predefined e

pub meaning_at_lem : (ds : List Definition) (i : ℕ) → i < length ds → meaning_at i ds ≡ Some (get_or ds i blank).meaning
unfolding meaning_at
meaning_at_lem [] i h = absurd (not-suc-le-zero h)
meaning_at_lem (d ∷ ds) zero h = refl
meaning_at_lem (d ∷ ds) (suc i) h = meaning_at_lem ds i (le_of_suc-le-suc h)

-- the newest definition of a name
module _ (w : Bytes) where
  newest_snoc : (ds : List Definition) (d : Definition)
      → newest_place w (ds ++ (d ∷ [])) ≡ elim (same_bytes w d.name) [ true ↦ Some (length ds) | false ↦ newest_place w ds ]
  unfolding newest_place
  newest_snoc [] d = refl
  newest_snoc (e ∷ ds) d = rw (newest_snoc ds d, newest_place) (go (same_bytes w d.name))
    where
      go : (t : Bool)
          → ◌≡◌ {A = Option ℕ}
          (elim (elim t as (λ _. Option ℕ) [ true ↦ Some (length ds) | false ↦ newest_place w ds ])
          [ Some i ↦ Some (suc i) | None ↦ elim (same_bytes w e.name) [ true ↦ Some 0 | false ↦ None ] ])
          (elim t [ true ↦ Some (suc (length ds)) | false ↦ newest_place w (e ∷ ds) ])
      go true = refl
      go false = refl

  pub newest_in_lem : (ds : List Definition) (i : ℕ) → newest_place w ds ≡ Some i → i < length ds
  unfolding newest_place
  newest_in_lem [] i e = absurd (let z : ◌≡◌ {A = ℕ} 0 1 = cc in omega arith)
  newest_in_lem (d ∷ ds) i e = go (newest_place w ds) (newest_in_lem ds) (same_bytes w d.name) e
    where
      go : (o : Option ℕ) → ((j : ℕ) → o ≡ Some j → j < length ds) → (t : Bool)
          → ◌≡◌ {A = Option ℕ} (elim o [ Some j ↦ Some (suc j) | None ↦ elim t [ true ↦ Some 0 | false ↦ None ] ]) (Some i) → i < suc (length ds)
      go (Some j) f t e =
          let s : suc j ≡ i = cc in
          omega (arith, f j refl)
      go None f true e =
          let s : 0 ≡ i = cc in
          omega arith
      go None f false e = absurd (let z : ◌≡◌ {A = ℕ} 0 1 = cc in omega arith)

  -- the definition at place i is of the name, or not
  pub newest_turn : (ds : List Definition) (i : ℕ) → i < length ds
      → newest_place w (take (suc i) ds) ≡ elim (same_bytes w (get_or ds i blank).name) [ true ↦ Some i | false ↦ newest_place w (take i ds) ]
  newest_turn ds i h =
      ap (newest_place w) (take-suc ds i blank h)
      ∙ newest_snoc (take i ds) (get_or ds i blank)
      ∙ ap (λ (n : ℕ). elim (same_bytes w (get_or ds i blank).name) as (λ _. Option ℕ) [ true ↦ Some n | false ↦ newest_place w (take i ds) ]) (omega (arith, length-take i ds))

module _ {bytes : Bytes} {ends : List ℕ} {p : Packed} {ds : List Definition} (h : DefinitionsIn bytes ends p ds) where
  pub valid : ValidDefinitions bytes ends p
  valid = record { definitions = ds; holds = h }

  pub string_count : 2 * length ds ≡ p.count
  string_count = sym (length-rows ds) ∙ count_is h.packs

  -- a search has come down to place i: what is newest is among the first i definitions
  module _ (w : Bytes) (i : ℕ) (e : newest_place w ds ≡ newest_place w (take i ds)) where
    search_turn : {t : Bool} → 0 < i → i ≤ p.count / 2 → t ≡ same_bytes w (get_or (rows ds) (2 * (i - 1)) [])
        → newest_place w ds ≡ elim t as (λ _. Option ℕ) [ true ↦ Some (i - 1) | false ↦ newest_place w (take (i - 1) ds) ]
    search_turn pos le f =
        let n : i ≡ suc (i - 1) = omega arith in
        e ∙ ap (λ (k : ℕ). newest_place w (take k ds)) n ∙ newest_turn w ds (i - 1) (omega (arith, string_count)) ∙ rw (sym (name_at_lem ds (i - 1)), sym f)

    pub search_found : {t : Bool} → 0 < i → i ≤ p.count / 2 → t ≡ same_bytes w (get_or (rows ds) (2 * (i - 1)) []) → t ≡ true → Some (i - 1) ≡ newest_place w ds
    search_found pos le f b = sym (search_turn pos le f ∙ rw b)

    pub search_on : {t : Bool} → 0 < i → i ≤ p.count / 2 → t ≡ same_bytes w (get_or (rows ds) (2 * (i - 1)) []) → t ≡ false → newest_place w ds ≡ newest_place w (take (i - 1) ds)
    search_on pos le f b = search_turn pos le f ∙ rw b

    pub search_ended : i ≡ 0 → None ≡ newest_place w ds
    unfolding newest_place
    search_ended z = sym (e ∙ ap (λ (k : ℕ). newest_place w (take k ds)) z)

  pub search_begins : (w : Bytes) → newest_place w ds ≡ newest_place w (take (p.count / 2) ds)
  search_begins w = ap (newest_place w) (sym (take_all (p.count / 2) ds (omega (arith, string_count))))

-- what a name means, from where its newest definition is
module _ {bytes : Bytes} {ends : List ℕ} {p : Packed} {own : ℕ} {t : Table} (h : TableIn bytes ends p own t) (w : Bytes) where
  -- the newest definition's byte is k
  module _ (i : ℕ) (e : newest_place w t.definitions ≡ Some i) {k : ℕ} (f : k ≡ number_at ends i) where
    its_number : meaning_number (get_or t.definitions i blank).meaning ≡ k
    its_number = sym (f ∙ h.holds.numbers i (newest_in_lem w t.definitions i e))

    pub represents_text : k ≡ 0 → Finds t.definitions (meaning_of w t) (looked.Text i)
    unfolding meaning_of meaning_for text_end
    represents_text z =
        let ds = t.definitions in
        let lt = newest_in_lem w ds i e in
        let m = is_text _ (numbered_at ds i h.holds.sound lt) (its_number ∙ z) in
        record {
          is = rw (e, meaning_of) (meaning_at_lem ds i lt ∙ ap Some (m ∙ ap text (sym (text_at_lem ds i))));
          within = omega (arith, length-rows ds);
        }

    pub represents_copy : (k ≡ 0 → ⊥) → Finds t.definitions (meaning_of w t) (looked.Predefined k)
    unfolding meaning_of meaning_for text_end
    represents_copy z =
        let ds = t.definitions in
        let lt = newest_in_lem w ds i e in
        record { is = rw (e, meaning_of) (meaning_at_lem ds i lt ∙ ap Some (is_predefined _ its_number z)); within = omega arith }

  pub represents_own : {r : Looked} → newest_place w t.definitions ≡ None → ((ds : List Definition) → Finds ds (own_meaning w own) r)
      → Finds t.definitions (meaning_of w t) r
  unfolding meaning_of
  represents_own e f =
      let g = f t.definitions in
      record { is = rw (e, meaning_of, h.own_is) g.is; within = g.within }

-- a predefined meaning has a number from 1
number_least : (k : ℕ) (w : Bytes) (ns : List Bytes) {j : ℕ} → number_from k w ns ≡ Some j → k ≤ j
unfolding number_from
number_least k w [] e = absurd (let z : ◌≡◌ {A = ℕ} 0 1 = cc in omega arith)
number_least k w (n ∷ ns) {j} e = go (λ q. number_least (suc k) w ns q) (same_bytes w n) e
  where
    go : (number_from (suc k) w ns ≡ Some j → suc k ≤ j) → (t : Bool) → ◌≡◌ {A = Option ℕ} (elim t [ true ↦ Some k | false ↦ number_from (suc k) w ns ]) (Some j) → k ≤ j
    go f true q = let z : k ≡ j = cc in omega arith
    go f false q = omega (arith, f q)

own_numbered : (w : Bytes) (own : ℕ) {m : Meaning} → own_meaning w own ≡ Some m → Numbered m
unfolding own_meaning predefined_number Numbered
own_numbered w own {m} e = go (predefined_number w) refl e
  where
    go : (o : Option ℕ) → predefined_number w ≡ o
        → ◌≡◌ {A = Option Meaning} (elim o [ None ↦ None | Some k ↦ elim (keeps_own k own) [ true ↦ Some (predefined k) | false ↦ None ] ]) (Some m) → Numbered m
    go None n q = absurd (let z : ◌≡◌ {A = ℕ} 0 1 = cc in omega arith)
    go (Some k) n q = kept (keeps_own k own) q
      where
        kept : (b : Bool) → ◌≡◌ {A = Option Meaning} (elim b [ true ↦ Some (predefined k) | false ↦ None ]) (Some m) → Numbered m
        kept true p =
            let z : predefined k ≡ m = cc in
            subst Numbered z (number_least 1 w predefined_names n)
        kept false p = absurd (let z : ◌≡◌ {A = ℕ} 0 1 = cc in omega arith)

means_number : {bytes : Bytes} {ends : List ℕ} {p : Packed} {own : ℕ} {t : Table} → TableIn bytes ends p own t → (w : Bytes) {m : Meaning} → meaning_of w t ≡ Some m → Numbered m
unfolding meaning_of
means_number {t = t} h w {m} e = go (newest_place w t.definitions) refl e
  where
    go : (o : Option ℕ) → newest_place w t.definitions ≡ o
        → ◌≡◌ {A = Option Meaning} (elim o [ Some i ↦ meaning_at i t.definitions | None ↦ own_meaning w t.own ]) (Some m) → Numbered m
    go (Some i) n q =
        let lt = newest_in_lem w t.definitions i n in
        let y : Some (get_or t.definitions i blank).meaning ≡ Some m = sym (meaning_at_lem t.definitions i lt) ∙ q in
        let z : (get_or t.definitions i blank).meaning ≡ m = cc in
        subst Numbered z (numbered_at t.definitions i h.holds.sound lt)
    go None n q = own_numbered w t.own q

pub predefined_number_lem : {bytes : Bytes} {ends : List ℕ} {p : Packed} {own : ℕ} {t : Table} → TableIn bytes ends p own t → (w : Bytes) {k : ℕ} → meaning_of w t ≡ Some (predefined k) → 0 < k
unfolding Numbered
predefined_number_lem h w {k} e = means_number h w {m = predefined k} e

-- what was found, by the answer
pub finds_predefined : {ds : List Definition} {m : Option Meaning} {r : Looked} {k : ℕ} → Finds ds m r → r ≡ looked.Predefined k → m ≡ Some (predefined k)
unfolding meaning_for
finds_predefined {ds} h e = h.is ∙ ap (meaning_for (rows ds)) e

pub finds_nothing : {ds : List Definition} {m : Option Meaning} {r : Looked} → Finds ds m r → r ≡ looked.Undefined → m ≡ None
unfolding meaning_for
finds_nothing {ds} h e = h.is ∙ ap (meaning_for (rows ds)) e

pub finds_as : {ds : List Definition} {m : Option Meaning} {r q : Looked} → Finds ds m r → r ≡ q → Finds ds m q
finds_as {ds} {m} h e = subst (Finds ds m) e h

-- what a text that was found is, and that it is there
pub finds_text : {ds : List Definition} {m : Option Meaning} {i : ℕ} → Finds ds m (looked.Text i) → m ≡ Some (text (get_or (rows ds) (2 * i + 1) []))
unfolding meaning_for
finds_text h = h.is

pub finds_within : {bytes : Bytes} {ends : List ℕ} {p : Packed} {ds : List Definition} → DefinitionsIn bytes ends p ds → {m : Option Meaning} {i : ℕ} → Finds ds m (looked.Text i)
    → 2 * i + 1 < p.count
unfolding text_end
finds_within {ds = ds} d h = omega (arith, h.within, length-rows ds, string_count d)

-- a run begins with no definition and with every predefined name's own meaning
pub fresh_in : (bytes : Bytes) (ends : List ℕ) → length bytes ≤ most_lent → length ends ≡ table_ends_length → Chained ends [] → TableIn bytes ends (record { count = 0; used = 0 }) all_own fresh_table
unfolding fresh_table predefined_names rows Sound ends_from joined
fresh_in bytes ends hb he hc = record {
  holds = record {
    packs = record { ends_are = refl; bytes_are = refl; count_in = omega arith; used_in = omega arith };
    sound = tt;
    numbers = λ i l. absurd (not-suc-le-zero l);
    chained = hc;
    bytes_most = hb;
    ends_are = he;
  };
  own_is = refl;
  own_few = lit< tt;
}

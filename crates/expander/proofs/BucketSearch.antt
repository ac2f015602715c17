-- Laws of a search through the bucket of a name. Assumes nothing.
use Rattle.rules.proofs.Base.{◌≤◌, ◌+◌, ℕ, ◌-◌, ◌<◌, suc, zero, ◌∙◌, refl, sym, ap, ◌≡◌, true, Bool, false, Some, None, Option, List, [], ◌∷◌, ◌*◌, ◌/◌, ◌%◌, arith, ℕ_discrete, length, take, take_all, get_or}
use Rattle.std.specs.declared.ops.ControlFlow.{ControlFlow}
use Rattle.std.specs.declared.ops.ControlFlow.TheVariants.{Break, Continue}
use Rattle.rules.specs.Bytes.{Bytes, same_bytes}
use Rattle.rules.proofs.SameBytes.{same_is}
use Rattle.rules.specs.Table.{Definition, Table, predefined_number, newest_place, meaning_of}
use Rattle.hashing.specs.Hashing.{bucket_of}
use Rattle.hashing.proofs.Laws.{bucket_below}
use Rattle.builtins.specs.Numbers.{candidate_in}
use Rattle.builtins.proofs.Naming.{confirmed_number}
use Rattle.expander.specs.Limits.{most_lent, bucket_count, heads_start}
use Rattle.expander.specs.Buckets.{link_at, head_at, candidate_at, newest_in, Chained, InBucket}
use Rattle.expander.specs.Table.{rows, blank, DefinitionsIn, TableIn, visited_at}
use Rattle.expander.specs.declared.packed.Packed.{Packed}
use Rattle.expander.proofs.MaskLaws.{own_none}
use Rattle.expander.proofs.Rows.{newest_turn, name_at_lem, string_count, represents_own, finds_nothing}
use Rattle.expander.proofs.Changing.{few_definitions}
use Rattle.expander.proofs.Chains.{candidate_none, newest_hit, newest_miss, newest_below, newest_is}

-- a name's newest definition is in its bucket
pub newest_in_bucket : (w : Bytes) (ds : List Definition) (n : ℕ) → n ≤ length ds → newest_place w (take n ds) ≡ newest_place w (take (newest_in (bucket_of w) ds n) ds)
newest_in_bucket w ds zero l =
    let z : newest_in (bucket_of w) ds 0 ≡ 0 = omega (arith, newest_below (bucket_of w) ds 0) in
    ap (λ (k : ℕ). newest_place w (take k ds)) (sym z)
newest_in_bucket w ds (suc n) l = go (ℕ_discrete (bucket_of (get_or ds n blank).name) (bucket_of w)) (newest_in_bucket w ds n (omega (arith, l)))
  where
    other : (bucket_of (get_or ds n blank).name ≡ bucket_of w → ⊥) → (t : Bool) → same_bytes w (get_or ds n blank).name ≡ t → t ≡ false
    other ne true s = absurd (ne (ap bucket_of (sym (same_is w (get_or ds n blank).name s))))
    other ne false s = refl

    go : Dec (bucket_of (get_or ds n blank).name ≡ bucket_of w) → newest_place w (take n ds) ≡ newest_place w (take (newest_in (bucket_of w) ds n) ds)
        → newest_place w (take (suc n) ds) ≡ newest_place w (take (newest_in (bucket_of w) ds (suc n)) ds)
    go (yes e) f = ap (λ (k : ℕ). newest_place w (take k ds)) (sym (newest_hit (bucket_of w) ds n e))
    go (no ne) f =
        newest_turn w ds n l ∙ rw (other ne (same_bytes w (get_or ds n blank).name) refl) f
        ∙ ap (λ (k : ℕ). newest_place w (take k ds)) (sym (newest_miss (bucket_of w) ds n ne))

nothing_newest : (w : Bytes) → newest_place w [] ≡ None
unfolding newest_place
nothing_newest w = refl

-- where its bucket has no head, or there is no definition at all, it has none
pub none_headed : {ends : List ℕ} (ds : List Definition) (w : Bytes) {b : ℕ} → Chained ends ds → bucket_of w ≡ b → head_at ends b ≡ 0 → newest_place w ds ≡ None
unfolding newest_place
none_headed {ends} ds w h e z =
    let n : newest_in (bucket_of w) ds (length ds) ≡ 0 = sym (h.heads (bucket_of w) (bucket_below w)) ∙ ap (head_at ends) e ∙ z in
    ap (newest_place w) (sym (take_all (length ds) ds (omega arith))) ∙ newest_in_bucket w ds (length ds) (omega arith) ∙ ap (λ (k : ℕ). newest_place w (take k ds)) n

pub none_counted : {bytes : Bytes} {ends : List ℕ} {p : Packed} (ds : List Definition) (w : Bytes) → DefinitionsIn bytes ends p ds → p.count ≡ 0 → newest_place w ds ≡ None
none_counted ds w h z = go ds (omega (arith, string_count h, z))
  where
    go : (es : List Definition) → length es ≡ 0 → newest_place w es ≡ None
    go [] e = nothing_newest w
    go (d ∷ es) e = absurd (omega (arith, e))

-- a search through the bucket of w has come down to `left`: what is newest is among the first `left` definitions, the last of which is in the bucket
pub record SearchAt (w : Bytes) (ds : List Definition) (left : ℕ) : Type 0 where
  pub within : left ≤ length ds
  pub so_far : newest_place w ds ≡ newest_place w (take left ds)
  pub bucket_is : 0 < left → bucket_of (get_or ds (left - 1) blank).name ≡ bucket_of w

module _ (w : Bytes) (ds : List Definition) where
  -- of the first n definitions, those of the bucket are left
  came_to : (n : ℕ) → n ≤ length ds → newest_place w ds ≡ newest_place w (take n ds) → SearchAt w ds (newest_in (bucket_of w) ds n)
  came_to n l e = record {
    within = omega (arith, l, newest_below (bucket_of w) ds n);
    so_far = e ∙ newest_in_bucket w ds n l;
    bucket_is = newest_is (bucket_of w) ds n;
  }

  pub search_begins : {ends : List ℕ} {b left : ℕ} → Chained ends ds → b ≡ bucket_of w → left ≡ head_at ends b → SearchAt w ds left
  search_begins {ends} h e f =
      rw (f ∙ ap (head_at ends) e ∙ h.heads (bucket_of w) (bucket_below w)) (came_to (length ds) (omega arith) (ap (newest_place w) (sym (take_all (length ds) ds (omega arith)))))

  module _ {left : ℕ} (h : SearchAt w ds left) where
    pub may_visit : 0 < left → InBucket (bucket_of w) ds left
    may_visit pos = record { positive = pos; within = h.within; bucket_is = h.bucket_is pos }

    pub search_ended : left ≡ 0 → None ≡ newest_place w ds
    unfolding newest_place
    search_ended z = sym (h.so_far ∙ ap (λ (k : ℕ). newest_place w (take k ds)) z)

    module _ (pos : 0 < left) where
      turn : {t : Bool} → same_bytes w (get_or ds (left - 1) blank).name ≡ t
          → newest_place w ds ≡ elim t as (λ _. Option ℕ) [ true ↦ Some (left - 1) | false ↦ newest_place w (take (left - 1) ds) ]
      turn e =
          let n : left ≡ suc (left - 1) = omega arith in
          h.so_far ∙ ap (λ (k : ℕ). newest_place w (take k ds)) n ∙ newest_turn w ds (left - 1) (omega (arith, h.within)) ∙ rw e

      pub search_found : {at : ℕ} → visited_at w ds left ≡ Break at → Some at ≡ newest_place w ds
      unfolding visited_at
      search_found {at} e = go (same_bytes w (get_or ds (left - 1) blank).name) refl e
        where
          go : (t : Bool) → same_bytes w (get_or ds (left - 1) blank).name ≡ t
              → elim t as (λ _. ControlFlow ℕ ℕ) [ true ↦ Break (left - 1) | false ↦ Continue (newest_in (bucket_of w) ds (left - 1)) ] ≡ Break at → Some at ≡ newest_place w ds
          go true s q =
              let z : left - 1 ≡ at = cc in
              sym (turn s ∙ ap Some z)
          go false s q = absurd (let z : ◌≡◌ {A = ℕ} 0 1 = cc in omega arith)

      pub search_on : {next : ℕ} → visited_at w ds left ≡ Continue next → SearchAt w ds next × (next < left)
      unfolding visited_at
      search_on {next} e = go (same_bytes w (get_or ds (left - 1) blank).name) refl e
        where
          go : (t : Bool) → same_bytes w (get_or ds (left - 1) blank).name ≡ t
              → elim t as (λ _. ControlFlow ℕ ℕ) [ true ↦ Break (left - 1) | false ↦ Continue (newest_in (bucket_of w) ds (left - 1)) ] ≡ Continue next → SearchAt w ds next × (next < left)
          go true s q = absurd (let z : ◌≡◌ {A = ℕ} 0 1 = cc in omega arith)
          go false s q =
              let z : newest_in (bucket_of w) ds (left - 1) ≡ next = cc in
              (rw (sym z) (came_to (left - 1) (omega (arith, h.within)) (turn s)), omega (arith, newest_below (bucket_of w) ds (left - 1), z, pos))

-- ---- one step

module _ {bytes : Bytes} {ends : List ℕ} {p : Packed} {ds : List Definition} (h : DefinitionsIn bytes ends p ds) (w : Bytes) (left : ℕ) (b : InBucket (bucket_of w) ds left) where
  pub visit_within : (2 * (left - 1) < p.count) × (left ≤ most_lent)
  visit_within = (omega (arith, string_count h, b.within, b.positive), omega (arith, b.within, few_definitions h))

  module _ {t : Bool} (e : t ≡ same_bytes w (get_or (rows ds) (2 * (left - 1)) [])) where
    compared : t ≡ same_bytes w (get_or ds (left - 1) blank).name
    compared = e ∙ ap (same_bytes w) (name_at_lem ds (left - 1))

    pub visited_named : t ≡ true → Break (left - 1) ≡ visited_at w ds left
    unfolding visited_at
    visited_named q = rw (sym compared ∙ q, visited_at)

    pub visited_older : t ≡ false → {next : ℕ} → next ≡ link_at ends (left - 1) → Continue next ≡ visited_at w ds left
    unfolding visited_at
    visited_older q {next} f =
        let l : next ≡ newest_in (bucket_of w) ds (left - 1) = f ∙ h.chained.links (left - 1) (omega (arith, b.within, b.positive)) ∙ ap (λ (c : ℕ). newest_in c ds (left - 1)) b.bucket_is in
        rw (sym compared ∙ q, l, visited_at)

-- ---- a bucket without a definition and without a predefined name

-- a name whose bucket has no predefined name is none
not_predefined : (w : Bytes) → candidate_in (bucket_of w) ≡ None → predefined_number w ≡ None
not_predefined w e = sym ((confirmed_number w (sym e) refl).0)

pub means_nothing : {bytes : Bytes} {ends : List ℕ} {p : Packed} {own : ℕ} {t : Table} (w : Bytes) {b : ℕ} → TableIn bytes ends p own t → bucket_of w ≡ b → b < bucket_count
    → get_or ends (heads_start + b) 0 ≡ 0 → meaning_of w t ≡ None
unfolding head_at candidate_at
means_nothing {ends = ends} {own = own} {t = t} w {b} h e l z =
    let c = h.holds.chained in
    let n : candidate_in (bucket_of w) ≡ None = ap candidate_in e ∙ candidate_none b (c.candidates b l) (ap (λ (k : ℕ). k / 131072) z) in
    let f = none_headed t.definitions w c e (ap (λ (k : ℕ). k % 131072) z) in
    finds_nothing (represents_own h w f (own_none w (not_predefined w n) own)) refl

-- ---- one answer

-- 02, request 9 "the answer equals that of the plain newest-first search": what `newest` and `newest_plain` promise of a table leaves them one answer
pub same_answer : (w : Bytes) (ds : List Definition) {by-bucket plain : Option ℕ} → by-bucket ≡ newest_place w ds → plain ≡ newest_place w ds → by-bucket ≡ plain
same_answer w ds e f = e ∙ sym f

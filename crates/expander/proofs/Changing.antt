-- Laws of changes to a table, to the strings that it is and to the bytes of its meanings. Assumes nothing.
use Rattle.rules.proofs.Base.{◌≤◌, ◌+◌, ◌-◌, ℕ, ◌<◌, suc, zero, ◌*◌, ◌/◌, ◌∙◌, refl, sym, ap, ◌≡◌, subst, true, Bool, false, Some, None, Option, List, [], ◌++◌, ◌∷◌, append_assoc, arith, length, drop, take, get_or, length-append, length-drop, set, length-set, ℕ_discrete, dec_lt, length-take-le, get_or-set_same, get_or-set_other, get_or-take, get_or-drop, List·getD-append, get_or-append-add}
use Rattle.rules.specs.Bytes.{Bytes, same_bytes}
use Rattle.rules.specs.Streams.{joined}
use Rattle.rules.proofs.SameBytes.{same_is}
use Rattle.rules.specs.Table.{Meaning, text, predefined, Definition, Table, own_lost, newest_place, pushed, defined, popped, meaning_cost, table_cost}
use Rattle.hashing.specs.Hashing.{bucket_of}
use Rattle.expander.specs.Limits.{most_lent, bucket_count, meanings_start, links_start}
use Rattle.expander.specs.Meanings.{number_at, Put, ClosedUp}
use Rattle.expander.specs.Buckets.{head_at, Chained}
use Rattle.expander.specs.Packed.{Packs}
use Rattle.expander.specs.Table.{meaning_text, rows, meaning_number, Numbered, Means, Sound, blank, DefinitionsIn, TableIn}
use Rattle.expander.specs.declared.packed.Packed.{Packed}
use Rattle.expander.proofs.Packing.{joined-append, count_is, used_is, length-replaced}
use Rattle.expander.proofs.MaskLaws.{lost_less}
use Rattle.expander.proofs.MeaningLaws.{numbers_kept, numbers_before, packs_kept, packs_before}
use Rattle.expander.proofs.Chains.{chained_kept, chained_set, head_small}
use Rattle.expander.proofs.Parts.{drop_later}
use Rattle.expander.proofs.Rows.{length-rows, string_count, newest_in_lem}

-- the strings of a changed list
pub rows_append : (ds es : List Definition) → rows (ds ++ es) ≡ rows ds ++ rows es
unfolding rows
rows_append [] es = refl
rows_append (d ∷ ds) es = rw (rows_append ds es)

pub rows_take : (i : ℕ) (ds : List Definition) → take (2 * i) (rows ds) ≡ rows (take i ds)
unfolding rows
rows_take zero ds = refl
rows_take (suc i) [] =
    let e : 2 * suc i ≡ suc (suc (2 * i)) = omega arith in
    rw e
rows_take (suc i) (d ∷ ds) =
    let e : 2 * suc i ≡ suc (suc (2 * i)) = omega arith in
    rw (e, rows_take i ds)

pub rows_drop : (i : ℕ) (ds : List Definition) → drop (2 * i) (rows ds) ≡ rows (drop i ds)
unfolding rows
rows_drop zero ds = refl
rows_drop (suc i) [] =
    let e : 2 * suc i ≡ suc (suc (2 * i)) = omega arith in
    rw e
rows_drop (suc i) (d ∷ ds) =
    let e : 2 * suc i ≡ suc (suc (2 * i)) = omega arith in
    rw (e, rows_drop i ds)

strings_of_one : (w : Bytes) (m : Meaning) → rows (record { name = w; meaning = m } ∷ []) ≡ w ∷ meaning_text m ∷ []
unfolding rows
strings_of_one w m = refl

length_two : (w x : Bytes) → length (joined (w ∷ x ∷ [])) ≡ length w + length x
unfolding joined
length_two w x = omega (arith, length-append w (x ++ []), length-append x [])

-- another meaning for a name that stays
rows-set : (ds : List Definition) (i : ℕ) (m : Meaning) → rows (set ds i (record { name = (get_or ds i blank).name; meaning = m })) ≡ set (rows ds) (2 * i + 1) (meaning_text m)
unfolding rows
rows-set [] i m = refl
rows-set (d ∷ ds) zero m = refl
rows-set (d ∷ ds) (suc i) m =
    let e : 2 * suc i + 1 ≡ suc (suc (2 * i + 1)) = omega arith in
    rw (e, rows-set ds i m)

sound_append : (ds es : List Definition) → Sound ds → Sound es → Sound (ds ++ es)
unfolding Sound
sound_append [] es p q = q
sound_append (d ∷ ds) es p q = (p.0, p.1, sound_append ds es p.2 q)

sound_take : (i : ℕ) (ds : List Definition) → Sound ds → Sound (take i ds)
unfolding Sound
sound_take zero ds p = tt
sound_take (suc i) [] p = tt
sound_take (suc i) (d ∷ ds) p = (p.0, p.1, sound_take i ds p.2)

sound_drop : (i : ℕ) (ds : List Definition) → Sound ds → Sound (drop i ds)
unfolding Sound
sound_drop zero ds p = p
sound_drop (suc i) [] p = tt
sound_drop (suc i) (d ∷ ds) p = sound_drop i ds p.2

sound_one : (w : Bytes) (m : Meaning) → 0 < length w → Numbered m → Sound (record { name = w; meaning = m } ∷ [])
unfolding Sound
sound_one w m h n = (h, n, tt)

sound_set : (ds : List Definition) (i : ℕ) (w : Bytes) (m : Meaning) → 0 < length w → Numbered m → Sound ds → Sound (set ds i (record { name = w; meaning = m }))
unfolding Sound
sound_set [] i w m h n p = tt
sound_set (d ∷ ds) zero w m h n p = (h, n, p.2)
sound_set (d ∷ ds) (suc i) w m h n p = (p.0, p.1, sound_set ds i w m h n p.2)

sound_removed : (i : ℕ) (ds : List Definition) → Sound ds → Sound (take i ds ++ drop (suc i) ds)
sound_removed i ds p = sound_append (take i ds) (drop (suc i) ds) (sound_take i ds p) (sound_drop (suc i) ds p)

-- one definition taken out, as its strings
pub removed_rows : {bytes : Bytes} {ends₁ : List ℕ} {r : Packed} (ds : List Definition) (i : ℕ) → Packs ends₁ r.count bytes r.used (take (2 * i) (rows ds) ++ drop (2 * i + 2) (rows ds))
    → Packs ends₁ r.count bytes r.used (rows (take i ds ++ drop (suc i) ds))
removed_rows ds i k =
    let n : 2 * i + 2 ≡ 2 * suc i = omega arith in
    rw (rows_append (take i ds) (drop (suc i) ds), ← rows_take i ds, ← rows_drop (suc i) ds, sym n) k

-- a text, by itself and its byte
pub text_means : (x : Bytes) → Means (text x) x 0
unfolding meaning_text meaning_number Numbered
text_means x = record { text_is = refl; number_is = refl; numbered = tt }

-- what definitions cost is how many bytes their strings have
pub meaning_cost_lem : (m : Meaning) → meaning_cost m ≡ length (meaning_text m)
unfolding meaning_cost meaning_text
meaning_cost_lem (text x) = refl
meaning_cost_lem (predefined k) = refl

pub cost_is : (ds : List Definition) → table_cost ds ≡ length (joined (rows ds))
unfolding table_cost rows joined
cost_is [] = refl
cost_is (d ∷ ds) =
    omega (
      arith,
      cost_is ds,
      meaning_cost_lem d.meaning,
      length-append d.name (meaning_text d.meaning ++ joined (rows ds)),
      length-append (meaning_text d.meaning) (joined (rows ds)),
    )

-- and one byte at least for each
cost_least : (ds : List Definition) → Sound ds → length ds ≤ table_cost ds
unfolding table_cost Sound
cost_least [] p = omega arith
cost_least (d ∷ ds) p = omega (arith, cost_least ds p.2, p.0)

pub newest_name : (w : Bytes) (ds : List Definition) (i : ℕ) → newest_place w ds ≡ Some i → w ≡ (get_or ds i blank).name
unfolding newest_place
newest_name w [] i e = absurd (let z : ◌≡◌ {A = ℕ} 0 1 = cc in omega arith)
newest_name w (d ∷ ds) i e = go (newest_place w ds) (newest_name w ds) (same_bytes w d.name) refl e
  where
    go : (o : Option ℕ) → ((j : ℕ) → o ≡ Some j → w ≡ (get_or ds j blank).name) → (t : Bool) → same_bytes w d.name ≡ t
        → ◌≡◌ {A = Option ℕ} (elim o [ Some j ↦ Some (suc j) | None ↦ elim t [ true ↦ Some 0 | false ↦ None ] ]) (Some i) → w ≡ (get_or (d ∷ ds) i blank).name
    go (Some j) f t s e =
        let n : suc j ≡ i = cc in
        rw (sym n) (f j refl)
    go None f true s e =
        let n : 0 ≡ i = cc in
        rw (sym n) (same_is w d.name s)
    go None f false s e = absurd (let z : ◌≡◌ {A = ℕ} 0 1 = cc in omega arith)

-- ---- the bytes of the meanings

-- each definition's byte is that of its meaning
abbrev pub Told : List ℕ → List Definition → Type 0
Told ends ds = (i : ℕ) → i < length ds → number_at ends i ≡ meaning_number (get_or ds i blank).meaning

pub told_kept : (c : ℕ) (ends ends' : List ℕ) (ds : List Definition) → drop c ends' ≡ drop c ends → c ≤ meanings_start → Told ends ds → Told ends' ds
told_kept c ends ends' ds e l f i h = numbers_kept c ends ends' e l i ∙ f i h

-- one more, behind all others
pub told_last : (ends : List ℕ) (ds : List Definition) (d : Definition) → Told ends ds → number_at ends (length ds) ≡ meaning_number d.meaning → Told ends (ds ++ (d ∷ []))
told_last ends ds d f n i l = go (ℕ_discrete i (length ds))
  where
    go : Dec (i ≡ length ds) → number_at ends i ≡ meaning_number (get_or (ds ++ (d ∷ [])) i blank).meaning
    go (yes q) =
        let z : i ≡ length ds + 0 = omega (arith, q) in
        ap (number_at ends) q ∙ n ∙ ap (λ (x : Definition). meaning_number x.meaning) (sym (ap (λ (m : ℕ). get_or (ds ++ (d ∷ [])) m blank) z ∙ get_or-append-add ds (d ∷ []) 0 blank))
    go (no q) =
        let m : i < length ds = omega (arith, l, length-append ds (d ∷ []), q) in
        f i m ∙ ap (λ (x : Definition). meaning_number x.meaning) (sym (List·getD-append ds (d ∷ []) blank i m))

module _ {ends ends' : List ℕ} (ds : List Definition) (f : Told ends ds) where
  -- a new one
  told_pushed : (d : Definition) {i k : ℕ} → Put ends i k ends' → i ≡ length ds → meaning_number d.meaning ≡ k → Told ends' (ds ++ (d ∷ []))
  told_pushed d p e n = told_last ends' ds d (λ j l. p.others j (λ q. omega (arith, q, l)) ∙ f j l) (ap (number_at ends') (sym e) ∙ p.same ∙ sym n)

  -- another in the place of one
  told_set : (d : Definition) (i : ℕ) {k : ℕ} → Put ends i k ends' → meaning_number d.meaning ≡ k → Told ends' (set ds i d)
  told_set d i p n j l = go (ℕ_discrete j i)
    where
      m : j < length ds
      m = omega (arith, l, length-set ds i d)

      go : Dec (j ≡ i) → number_at ends' j ≡ meaning_number (get_or (set ds i d) j blank).meaning
      go (yes q) = rw q (p.same ∙ sym n ∙ ap (λ (x : Definition). meaning_number x.meaning) (sym (get_or-set_same ds i d blank (omega (arith, m, q)))))
      go (no q) = p.others j q ∙ f j m ∙ ap (λ (x : Definition). meaning_number x.meaning) (sym (get_or-set_other ds i j d blank q))

  -- one gone
  told_removed : (i : ℕ) {n : ℕ} → ClosedUp ends i n ends' → n ≡ length ds → i < length ds → Told ends' (take i ds ++ drop (suc i) ds)
  told_removed i c e h j l = go (dec_lt j i)
    where
      front : length (take i ds) ≡ i
      front = length-take-le i ds (omega arith)

      all : j < i + (length ds - suc i)
      all = omega (arith, l, length-append (take i ds) (drop (suc i) ds), front, length-drop (suc i) ds)

      go : Dec (j < i) → number_at ends' j ≡ meaning_number (get_or (take i ds ++ drop (suc i) ds) j blank).meaning
      go (yes q) =
          c.front j q ∙ f j (omega arith)
          ∙ ap (λ (x : Definition). meaning_number x.meaning) (sym (List·getD-append (take i ds) (drop (suc i) ds) blank j (omega (arith, front, q)) ∙ get_or-take i ds j blank q))
      go (no q) =
          let z : length (take i ds) + (j - i) ≡ j = omega (arith, front, q) in
          let y : suc i + (j - i) ≡ j + 1 = omega (arith, q) in
          c.moved j (omega (arith, q)) (omega (arith, all)) ∙ f (j + 1) (omega (arith, all))
          ∙ ap (λ (x : Definition). meaning_number x.meaning)
          (sym (ap (λ (m : ℕ). get_or (take i ds ++ drop (suc i) ds) m blank) (sym z) ∙ get_or-append-add (take i ds) (drop (suc i) ds) (j - i) blank ∙ get_or-drop (suc i) ds (j - i) blank ∙ ap (λ (m : ℕ). get_or ds m blank) y))

-- what a buffer that holds definitions has
module _ {bytes : Bytes} {ends : List ℕ} {p : Packed} {ds : List Definition} (h : DefinitionsIn bytes ends p ds) where
  pub cost_used : table_cost ds ≡ p.used
  cost_used = cost_is ds ∙ used_is h.packs

  pub few_definitions : length ds ≤ most_lent
  few_definitions = omega (arith, cost_least ds h.sound, cost_used, h.packs.used_in, h.bytes_most)

  pub few_strings : p.count ≤ meanings_start
  few_strings = omega (arith, string_count h, few_definitions)

  -- a definition of n bytes more has room for its two ends
  pub room_for_two : (n : ℕ) → 0 < n → p.used + n ≤ length bytes → p.count + 2 ≤ meanings_start
  room_for_two n pos fits = omega (arith, string_count h, cost_least ds h.sound, cost_used, h.bytes_most)

  -- its strings have changed, then bytes of meanings, and then chains: it holds others
  module _ {bytes' : Bytes} (lb : length bytes' ≡ length bytes) where
    pub others_few : {ends₁ : List ℕ} {r : Packed} (es : List Definition) → Packs ends₁ r.count bytes' r.used (rows es) → Sound es → length es ≤ most_lent
    others_few es k q = omega (arith, used_is k, cost_is es, cost_least es q, k.used_in, h.bytes_most, lb)

    pub removed_few : (i : ℕ) {ends₁ : List ℕ} {r : Packed} → Packs ends₁ r.count bytes' r.used (rows (take i ds ++ drop (suc i) ds)) → r.count ≤ meanings_start
    removed_few i {r = r} k =
        let es = take i ds ++ drop (suc i) ds in
        omega (arith, length-rows es, count_is k, others_few {r = r} es k (sound_removed i ds h.sound))

    pub holds_others : {ends₁ : List ℕ} (ends₂ : List ℕ) {ends' : List ℕ} {r : Packed} {es : List Definition} → Packs ends₁ r.count bytes' r.used (rows es) → Sound es
        → take meanings_start ends₂ ≡ take meanings_start ends₁ → Told ends₂ es → take links_start ends' ≡ take links_start ends₂ → Chained ends' es
        → length ends₁ ≡ length ends → length ends₂ ≡ length ends₁ → length ends' ≡ length ends₂ → DefinitionsIn bytes' ends' r es
    holds_others {ends₁} ends₂ {ends'} {r} {es} k q e f c ch l₁ l₂ l' =
        let few = others_few {r = r} es k q in
        let count : r.count ≤ meanings_start = omega (arith, length-rows es, count_is k, few) in
        record {
          packs = packs_before {before = ends₂} c l' count (packs_kept e l₂ count k);
          sound = q;
          numbers = λ i l. numbers_before ends₂ ends' c i (omega (arith, l, few)) ∙ f i l;
          chained = ch;
          bytes_most = omega (arith, h.bytes_most, lb);
          ends_are = l' ∙ l₂ ∙ l₁ ∙ h.ends_are;
        }

  -- the chains are as they were where only strings have changed, and then bytes of meanings
  pub chains_stay : (ends₁ : List ℕ) {ends₂ : List ℕ} (c : ℕ) → c ≤ meanings_start → drop c ends₁ ≡ drop c ends → drop links_start ends₂ ≡ drop links_start ends₁ → Chained ends₂ ds
  chains_stay ends₁ c few kept e = chained_kept h.chained (e ∙ drop_later c links_start ends₁ ends (omega (arith, few)) kept)

  -- and every head is one of the definitions
  pub heads_stay : (ends₁ ends₂ : List ℕ) (c : ℕ) → c ≤ meanings_start → drop c ends₁ ≡ drop c ends → drop links_start ends₂ ≡ drop links_start ends₁ → (b : ℕ) → b < bucket_count → head_at ends₂ b ≤ p.count / 2
  heads_stay ends₁ ends₂ c few kept e b l = omega (arith, head_small (chains_stay ends₁ {ends₂ = ends₂} c few kept e) b l, string_count h)

  -- the definition that a search found has its two strings
  pub found_strings : (w : Bytes) (i : ℕ) → newest_place w ds ≡ Some i → 2 * i + 2 ≤ p.count
  found_strings w i e = omega (arith, string_count h, newest_in_lem w ds i e)

module _ {bytes : Bytes} {ends : List ℕ} {p : Packed} {own : ℕ} {t : Table} (h : TableIn bytes ends p own t) (w : Bytes) where
  -- the name's own meaning is gone
  own_less : TableIn bytes ends p (own_lost w own) (record { definitions = t.definitions; own = own_lost w t.own })
  own_less = record { holds = h.holds; own_is = ap (own_lost w) h.own_is; own_few = omega (arith, lost_less w own, h.own_few) }

  -- the strings have changed, to ends₁, then a byte
  module _
      {bytes' : Bytes} {ends₁ ends₂ : List ℕ} {r : Packed} (lb : length bytes' ≡ length bytes) (l₁ : length ends₁ ≡ length ends) (l₂ : length ends₂ ≡ length ends₁)
      (c : ℕ) (few : c ≤ meanings_start) (kept : drop c ends₁ ≡ drop c ends)
    where
      pub replaced_in : (i : ℕ) (m : Meaning) {x : Bytes} {k : ℕ} → Means m x k → 0 < length w → newest_place w t.definitions ≡ Some i
          → Packs ends₁ r.count bytes' r.used (set (rows t.definitions) (2 * i + 1) x) → Put ends₁ i k ends₂ → TableIn bytes' ends₂ r own (defined w m t)
      unfolding defined
      replaced_in i m {x} means pos e k put =
          let ds = t.definitions in
          let d : Definition = record { name = w; meaning = m } in
          let told = told_kept c ends ends₁ ds kept few h.holds.numbers in
          let same : set (rows ds) (2 * i + 1) x ≡ rows (set ds i d) =
          ap (set (rows ds) (2 * i + 1)) (sym means.text_is) ∙ sym (rows-set ds i m) ∙ ap (λ (n : Bytes). rows (set ds i (record { name = n; meaning = m }))) (sym (newest_name w ds i e)) in
          rw (e, defined)
          (record {
            holds =
                holds_others h.holds lb {ends₁ = ends₁} ends₂ (rw same at k) (sound_set ds i w m pos means.numbered h.holds.sound) put.ends
                (told_set ds told d i put means.number_is) refl
                (chained_set {before = ends₂} ds i d (chains_stay h.holds ends₁ c few kept put.chains) refl (newest_name w ds i e)) l₁ l₂ refl;
            own_is = h.own_is;
            own_few = h.own_few;
          })

      -- and then chains
      module _ {ends' : List ℕ} (l' : length ends' ≡ length ends₂) (before : take links_start ends' ≡ take links_start ends₂) where
        pub pushed_in : (m : Meaning) {x : Bytes} {i k : ℕ} → Means m x k → 0 < length w → i ≡ p.count / 2
            → Packs ends₁ r.count bytes' r.used ((rows t.definitions ++ (w ∷ [])) ++ (x ∷ [])) → Put ends₁ i k ends₂
            → ((ds : List Definition) (d : Definition) → i ≡ length ds → bucket_of w ≡ bucket_of d.name → Chained ends₂ ds → Chained ends' (ds ++ (d ∷ [])))
            → TableIn bytes' ends' r own (pushed w m t)
        unfolding pushed
        pushed_in m {x} means pos e k put join =
            let ds = t.definitions in
            let d : Definition = record { name = w; meaning = m } in
            let told = told_kept c ends ends₁ ds kept few h.holds.numbers in
            let at_last : _ ≡ length ds = e ∙ omega (arith, string_count h.holds) in
            let one : rows (d ∷ []) ≡ w ∷ x ∷ [] = strings_of_one w m ∙ ap (λ (y : Bytes). w ∷ y ∷ []) means.text_is in
            record {
              holds =
                  holds_others h.holds lb {ends₁ = ends₁} ends₂ (rw (rows_append ds (d ∷ []), one) (rw (append_assoc (rows ds) (w ∷ []) (x ∷ [])) at k))
                  (sound_append ds (d ∷ []) h.holds.sound (sound_one w m pos means.numbered)) put.ends (told_pushed ds told d put at_last means.number_is) before
                  (join ds d at_last refl (chains_stay h.holds ends₁ c few kept put.chains)) l₁ l₂ l';
              own_is = h.own_is;
              own_few = h.own_few;
            }

        pub popped_in : (i : ℕ) {n : ℕ} → newest_place w t.definitions ≡ Some i → n ≡ p.count / 2
            → Packs ends₁ r.count bytes' r.used (take (2 * i) (rows t.definitions) ++ drop (2 * i + 2) (rows t.definitions)) → ClosedUp ends₁ i n ends₂
            → ((ds : List Definition) → i < length ds → bucket_of w ≡ bucket_of (get_or ds i blank).name → Chained ends₂ ds
            → Packs ends₂ r.count bytes' r.used (rows (take i ds ++ drop (suc i) ds)) → Chained ends' (take i ds ++ drop (suc i) ds))
            → TableIn bytes' ends' r own (popped w t)
        unfolding popped
        popped_in i e en k closed leave =
            let ds = t.definitions in
            let told = told_kept c ends ends₁ ds kept few h.holds.numbers in
            let k' = removed_rows {ends₁ = ends₁} {r = r} ds i k in
            let count = removed_few h.holds lb i {ends₁ = ends₁} {r = r} k' in
            rw (e, popped)
            (record {
              holds =
                  holds_others h.holds lb {ends₁ = ends₁} ends₂ k' (sound_removed i ds h.holds.sound) closed.ends
                  (told_removed ds told i closed (en ∙ omega (arith, string_count h.holds)) (newest_in_lem w ds i e)) before
                  (leave ds (newest_in_lem w ds i e) (ap bucket_of (newest_name w ds i e)) (chains_stay h.holds ends₁ c few kept closed.chains) (packs_kept {before = ends₁} closed.ends l₂ count k')) l₁ l₂ l';
              own_is = h.own_is;
              own_few = h.own_few;
            })

  pub popped_own : newest_place w t.definitions ≡ None → {lost : ℕ} → lost ≡ own_lost w own → TableIn bytes ends p lost (popped w t)
  unfolding popped
  popped_own e f = rw (e, f, popped) own_less

  pub defined_own : {bytes' : Bytes} {ends' : List ℕ} {r : Packed} {o : ℕ} (m : Meaning) → newest_place w t.definitions ≡ None → {lost : ℕ} → lost ≡ own_lost w own
      → ((u : Table) → u.definitions ≡ t.definitions → TableIn bytes ends p lost u → TableIn bytes' ends' r o (pushed w m u)) → TableIn bytes' ends' r o (defined w m t)
  unfolding defined
  defined_own m e f push =
      let u : Table = record { definitions = t.definitions; own = own_lost w t.own } in
      rw (e, defined) (push u refl (subst (λ (n : ℕ). TableIn bytes ends p n u) (sym f) own_less))

-- what the definitions cost once a name means another text
module _ {bytes : Bytes} {ends : List ℕ} {p : Packed} (t : Table) (h : DefinitionsIn bytes ends p t.definitions) (w x : Bytes) where
  pub size_replaced : (i : ℕ) → newest_place w t.definitions ≡ Some i
      → table_cost (defined w (text x) t).definitions + length (get_or (rows t.definitions) (2 * i + 1) []) ≡ p.used + length x
  unfolding defined meaning_text
  size_replaced i e =
      let ds = t.definitions in
      let lt = newest_in_lem w ds i e in
      let s : rows (set ds i (record { name = w; meaning = text x })) ≡ set (rows ds) (2 * i + 1) x =
      ap (λ (n : Bytes). rows (set ds i (record { name = n; meaning = text x }))) (newest_name w ds i e) ∙ rows-set ds i (text x) in
      rw (e, defined)
      (omega (
        arith,
        cost_is (set ds i (record { name = w; meaning = text x })),
        ap (λ (l : List Bytes). length (joined l)) s,
        length-replaced (rows ds) (2 * i + 1) x (omega (arith, length-rows ds)),
        used_is h.packs,
      ))

  pub size_pushed : newest_place w t.definitions ≡ None → table_cost (defined w (text x) t).definitions ≡ p.used + (length w + length x)
  unfolding defined pushed meaning_text
  size_pushed e =
      let ds = t.definitions in
      let d : Definition = record { name = w; meaning = text x } in
      rw (e, defined)
      (omega (
        arith,
        cost_is (ds ++ (d ∷ [])),
        ap (λ (l : List Bytes). length (joined l)) (rows_append ds (d ∷ []) ∙ ap (λ (l : List Bytes). rows ds ++ l) (strings_of_one w (text x))),
        ap length (joined-append (rows ds) (w ∷ x ∷ [])),
        length-append (joined (rows ds)) (joined (w ∷ x ∷ [])),
        length_two w x,
        used_is h.packs,
      ))

-- Laws of the chains of the buckets. Assumes nothing.
use Rattle.rules.proofs.Base.{◌≤◌, ◌+◌, ℕ, ◌-◌, ◌<◌, suc, zero, ◌*◌, ◌/◌, ◌%◌, ◌∙◌, refl, sym, ap, ◌≡◌, subst, true, false, not, Some, None, Option, List, [], ◌++◌, ◌∷◌, add-one, ℕ_discrete, not-suc-le-zero, arith, eqb, eq-eqb, ne_eqb, length, drop, take, get_or, set, length-append, length-drop, length-set, length-take-le, take-suc, get_or-take, List·getD-append, get_or-append-add, get_or-set_same, get_or-set_other, take-set-le, take-take}
use Rattle.std.specs.Bool.{then_some}
use Rattle.std.specs.Option.{unwrap_or}
use Rattle.rules.specs.Bytes.{Bytes}
use Rattle.rules.specs.Table.{Definition}
use Rattle.hashing.specs.Hashing.{bucket_of}
use Rattle.builtins.specs.Numbers.{candidate_in}
use Rattle.builtins.proofs.Naming.{candidate_few}
use Rattle.expander.specs.Limits.{most_lent, bucket_count, links_start, heads_start}
use Rattle.expander.specs.Fields.{field_of, field_at, FieldPut}
use Rattle.expander.specs.Buckets.{blank, link_at, head_at, candidate_at, newest_in, Candidates, Chained, Linked, Headed}
use Rattle.expander.proofs.MeaningLaws.{word_behind, word_before}

-- ---- the link of a definition

pub linked_is : {ends after : List ℕ} (i : ℕ) {x : ℕ} → i < most_lent → FieldPut 16 links_start ends i x after → Linked ends i x after
unfolding link_at
linked_is i m p = record { same = p.same; others = p.others; ends = p.front; heads = p.behind heads_start (omega (arith, m)) }

pub link_small : (ends : List ℕ) (i : ℕ) → link_at ends i < 65536
unfolding link_at field_at field_of
link_small ends i = omega arith

-- what stands behind a place is as it was: so are links, heads and numbers of predefined names
module _ (c : ℕ) (before after : List ℕ) (e : drop c after ≡ drop c before) where
  pub links_kept : c ≤ links_start → (i : ℕ) → link_at after i ≡ link_at before i
  unfolding link_at field_at
  links_kept l i = ap (field_of 16 (i % 2)) (word_behind c before after e (links_start + i / 2) (omega arith))

  pub heads_kept : c ≤ heads_start → (b : ℕ) → head_at after b ≡ head_at before b
  unfolding head_at
  heads_kept l b = ap (λ (n : ℕ). n % 131072) (word_behind c before after e (heads_start + b) (omega arith))

  pub candidates_kept : c ≤ heads_start → (b : ℕ) → candidate_at after b ≡ candidate_at before b
  unfolding candidate_at
  candidates_kept l b = ap (λ (n : ℕ). n / 131072) (word_behind c before after e (heads_start + b) (omega arith))

links_before : (before after : List ℕ) → take heads_start after ≡ take heads_start before → (i : ℕ) → i < most_lent → link_at after i ≡ link_at before i
unfolding link_at field_at
links_before before after e i l = ap (field_of 16 (i % 2)) (word_before heads_start before after e (links_start + i / 2) (omega (arith, l)))

-- ---- the word of a bucket

pub headed_at : (ends : List ℕ) (b head : ℕ) → head < 131072 → heads_start + b < length ends
    → Headed ends b head (set ends (heads_start + b) (get_or ends (heads_start + b) 0 - get_or ends (heads_start + b) 0 % 131072 + head))
unfolding head_at candidate_at
headed_at ends b head h l =
    let old = get_or ends (heads_start + b) 0 in
    let new = old - old % 131072 + head in
    let s : get_or (set ends (heads_start + b) new) (heads_start + b) 0 ≡ new = get_or-set_same ends (heads_start + b) new 0 l in
    record {
      same = ap (λ (n : ℕ). n % 131072) s ∙ omega (arith, h);
      others = λ c ne. ap (λ (n : ℕ). n % 131072) (get_or-set_other ends (heads_start + b) (heads_start + c) new 0 (λ q. ne (omega (arith, q))));
      candidates = λ c. go c (ℕ_discrete c b);
      ends = take-set-le heads_start ends (heads_start + b) new (omega arith);
    }
  where
    go : (c : ℕ) → Dec (c ≡ b)
        → get_or (set ends (heads_start + b) (get_or ends (heads_start + b) 0 - get_or ends (heads_start + b) 0 % 131072 + head)) (heads_start + c) 0 / 131072 ≡ get_or ends (heads_start + c) 0 / 131072
    go c (yes e) =
        let old = get_or ends (heads_start + b) 0 in
        let new = old - old % 131072 + head in
        rw e (ap (λ (n : ℕ). n / 131072) (get_or-set_same ends (heads_start + b) new 0 l) ∙ omega (arith, h))
    go c (no ne) = ap (λ (n : ℕ). n / 131072) (get_or-set_other ends (heads_start + b) (heads_start + c) _ 0 (λ q. ne (omega (arith, q))))

-- the number that stands with a bucket is a byte, and tells which predefined name has it, or that none has it
module _ (b : ℕ) {k : ℕ} (e : k ≡ unwrap_or (candidate_in b) 0) where
  pub candidate_byte : k < 256
  candidate_byte = go (candidate_in b) refl e
    where
      go : (o : Option ℕ) → candidate_in b ≡ o → k ≡ unwrap_or o 0 → k < 256
      go None q z = omega (arith, z)
      go (Some j) q z = omega (arith, z, (candidate_few b q).1)

  pub candidate_none : k ≡ 0 → candidate_in b ≡ None
  candidate_none n = go (candidate_in b) refl e
    where
      go : (o : Option ℕ) → candidate_in b ≡ o → k ≡ unwrap_or o 0 → candidate_in b ≡ None
      go None q z = q
      go (Some j) q z = absurd (omega (arith, z, (candidate_few b q).0, n))

  pub candidate_told : then_some (not (eqb k 0)) k ≡ candidate_in b
  candidate_told = go (candidate_in b) refl e
    where
      go : (o : Option ℕ) → candidate_in b ≡ o → k ≡ unwrap_or o 0 → then_some (not (eqb k 0)) k ≡ candidate_in b
      go None q z = rw z (sym q)
      go (Some j) q z = rw (ne_eqb k 0 (λ n. omega (arith, z, n, (candidate_few b q).0))) (ap Some z ∙ sym q)

-- ---- the newest of a bucket

module _ (b : ℕ) (ds : List Definition) where
  pub newest_hit : (n : ℕ) → bucket_of (get_or ds n blank).name ≡ b → newest_in b ds (suc n) ≡ suc n
  unfolding newest_in
  newest_hit n e = rw (eq-eqb (bucket_of (get_or ds n blank).name) b e, newest_in)

  pub newest_miss : (n : ℕ) → (bucket_of (get_or ds n blank).name ≡ b → ⊥) → newest_in b ds (suc n) ≡ newest_in b ds n
  unfolding newest_in
  newest_miss n ne = rw (ne_eqb (bucket_of (get_or ds n blank).name) b ne, newest_in)

  pub newest_below : (n : ℕ) → newest_in b ds n ≤ n
  unfolding newest_in
  newest_below zero = omega arith
  newest_below (suc n) = go (ℕ_discrete (bucket_of (get_or ds n blank).name) b) (newest_below n)
    where
      go : Dec (bucket_of (get_or ds n blank).name ≡ b) → newest_in b ds n ≤ n → newest_in b ds (suc n) ≤ suc n
      go (yes e) h = omega (arith, newest_hit n e)
      go (no ne) h = omega (arith, newest_miss n ne, h)

  -- it is one of the bucket
  pub newest_is : (n : ℕ) → 0 < newest_in b ds n → bucket_of (get_or ds (newest_in b ds n - 1) blank).name ≡ b
  newest_is zero h = absurd (omega (arith, newest_below zero, h))
  newest_is (suc n) h = go (ℕ_discrete (bucket_of (get_or ds n blank).name) b) (newest_is n)
    where
      go : Dec (bucket_of (get_or ds n blank).name ≡ b) → (0 < newest_in b ds n → bucket_of (get_or ds (newest_in b ds n - 1) blank).name ≡ b)
          → bucket_of (get_or ds (newest_in b ds (suc n) - 1) blank).name ≡ b
      go (yes e) f =
          let z : suc n - 1 ≡ n = omega arith in
          rw (newest_hit n e, z) e
      go (no ne) f = rw (newest_miss n ne) (f (omega (arith, newest_miss n ne, h)))

-- definitions of the same names have the same chains
newest_alike : (b : ℕ) (ds es : List Definition) (n : ℕ) → ((j : ℕ) → j < n → (get_or es j blank).name ≡ (get_or ds j blank).name) → newest_in b es n ≡ newest_in b ds n
unfolding newest_in
newest_alike b ds es zero f = refl
newest_alike b ds es (suc n) f =
    ap (λ (w : Bytes). elim (eqb (bucket_of w) b) as (λ _. ℕ) [ true ↦ suc n | false ↦ newest_in b es n ]) (f n (omega arith))
    ∙ ap (λ (m : ℕ). elim (eqb (bucket_of (get_or ds n blank).name) b) as (λ _. ℕ) [ true ↦ suc n | false ↦ m ]) (newest_alike b ds es n (λ j l. f j (omega (arith, l))))

-- ---- chains kept

-- only what stands before the links has changed, and the names are the same
pub chained_alike : {before after : List ℕ} {ds es : List Definition} → Chained before ds → drop links_start after ≡ drop links_start before → length es ≡ length ds
    → ((j : ℕ) → j < length ds → (get_or es j blank).name ≡ (get_or ds j blank).name) → Chained after es
chained_alike {before} {after} {ds} {es} h k e f = record {
  heads = λ b l. heads_kept links_start before after k (omega arith) b ∙ h.heads b l ∙ sym (newest_alike b ds es (length ds) f) ∙ ap (newest_in b es) (sym e);
  links = λ i l.
      let m : i < length ds = omega (arith, l, e) in
      links_kept links_start before after k (omega arith) i ∙ h.links i m
      ∙ ap (λ (w : Bytes). newest_in (bucket_of w) ds i) (sym (f i m))
      ∙ sym (newest_alike (bucket_of (get_or es i blank).name) ds es i (λ j q. f j (omega (arith, q, m))));
  candidates = λ b l. candidates_kept links_start before after k (omega arith) b ∙ h.candidates b l;
}

pub chained_kept : {before after : List ℕ} {ds : List Definition} → Chained before ds → drop links_start after ≡ drop links_start before → Chained after ds
chained_kept h k = chained_alike h k refl (λ j l. refl)

-- another meaning for a name that stays
pub chained_set : {before after : List ℕ} (ds : List Definition) (i : ℕ) (d : Definition) → Chained before ds → drop links_start after ≡ drop links_start before → d.name ≡ (get_or ds i blank).name
    → Chained after (set ds i d)
chained_set ds i d h k e = chained_alike h k (length-set ds i d) (λ j l. go j l (ℕ_discrete j i))
  where
    go : (j : ℕ) → j < length ds → Dec (j ≡ i) → (get_or (set ds i d) j blank).name ≡ (get_or ds j blank).name
    go j l (yes q) = rw q (ap (λ (x : Definition). x.name) (get_or-set_same ds i d blank (omega (arith, l, q))) ∙ e)
    go j l (no q) = ap (λ (x : Definition). x.name) (get_or-set_other ds i j d blank q)

-- ---- one more definition, behind all others

module _ {before mid after : List ℕ} (ds : List Definition) (d : Definition) (b : ℕ) (mine : b ≡ bucket_of d.name) (inside : b < bucket_count) (few : length ds < most_lent) (h : Chained before ds)
    (l : Linked before (length ds) (head_at before b) mid) (k : Headed mid b (length ds + 1) after)
  where
    abbrev more : List Definition
    more = ds ++ (d ∷ [])

    last_is : (get_or more (length ds) blank).name ≡ d.name
    last_is =
        let z : length ds ≡ length ds + 0 = omega arith in
        ap (λ (x : Definition). x.name) (ap (λ (n : ℕ). get_or more n blank) z ∙ get_or-append-add ds (d ∷ []) 0 blank)

    front_is : (j : ℕ) → j < length ds → (get_or more j blank).name ≡ (get_or ds j blank).name
    front_is j q = ap (λ (x : Definition). x.name) (List·getD-append ds (d ∷ []) blank j q)

    front_newest : (c n : ℕ) → n ≤ length ds → newest_in c more n ≡ newest_in c ds n
    front_newest c n q = newest_alike c ds more n (λ j m. front_is j (omega (arith, m, q)))

    one_more : length more ≡ suc (length ds)
    one_more = length-append ds (d ∷ []) ∙ omega arith

    head_is : (c : ℕ) → c < bucket_count → Dec (bucket_of (get_or more (length ds) blank).name ≡ c) → head_at after c ≡ newest_in c more (length more)
    head_is c m (yes e) =
        let z : c ≡ b = sym e ∙ ap bucket_of last_is ∙ sym mine in
        ap (head_at after) z ∙ k.same ∙ omega (arith, newest_hit c more (length ds) e, ap (newest_in c more) one_more)
    head_is c m (no ne) =
        k.others c (λ z. ne (ap bucket_of last_is ∙ sym mine ∙ sym z))
        ∙ heads_kept heads_start before mid l.heads (omega arith) c ∙ h.heads c m ∙ sym (front_newest c (length ds) (omega arith))
        ∙ sym (newest_miss c more (length ds) ne) ∙ ap (newest_in c more) (sym one_more)

    link_is : (j : ℕ) → j < length more → Dec (j ≡ length ds) → link_at after j ≡ newest_in (bucket_of (get_or more j blank).name) more j
    link_is j m (yes e) =
        rw e
        (links_before mid after k.ends (length ds) few ∙ l.same ∙ h.heads b inside ∙ sym (front_newest b (length ds) (omega arith))
        ∙ ap (λ (c : ℕ). newest_in c more (length ds)) (mine ∙ ap bucket_of (sym last_is)))
    link_is j m (no ne) =
        let q : j < length ds = omega (arith, m, one_more, ne) in
        links_before mid after k.ends j (omega (arith, q, few)) ∙ l.others j ne ∙ h.links j q
        ∙ ap (λ (w : Bytes). newest_in (bucket_of w) ds j) (sym (front_is j q)) ∙ sym (front_newest (bucket_of (get_or more j blank).name) j (omega (arith, q)))

    pub chained_joined : Chained after (ds ++ (d ∷ []))
    chained_joined = record {
      heads = λ c m. head_is c m (ℕ_discrete (bucket_of (get_or more (length ds) blank).name) c);
      links = λ j m. link_is j m (ℕ_discrete j (length ds));
      candidates = λ c m. k.candidates c ∙ candidates_kept heads_start before mid l.heads (omega arith) c ∙ h.candidates c m;
    }

-- ---- the newest of all goes

pub chained_left : {before after : List ℕ} (ds : List Definition) (i b : ℕ) → length ds ≡ suc i → i < most_lent → b ≡ bucket_of (get_or ds i blank).name → Chained before ds
    → Headed before b (link_at before i) after → Chained after (take i ds ++ drop (suc i) ds)
chained_left {before} {after} ds i b n few mine h k =
    record {
      heads = λ c m. head_is c m (ℕ_discrete (bucket_of (get_or ds i blank).name) c);
      links = λ j m.
          let q : j < i = omega (arith, m, size) in
          links_before before after k.ends j (omega (arith, q, few)) ∙ h.links j (omega (arith, q, n))
          ∙ ap (λ (w : Bytes). newest_in (bucket_of w) ds j) (sym (same j q)) ∙ sym (alike (bucket_of (get_or less j blank).name) j (omega (arith, q)));
      candidates = λ c m. k.candidates c ∙ h.candidates c m;
    }
  where
    less : List Definition
    less = take i ds ++ drop (suc i) ds

    front : length (take i ds) ≡ i
    front = length-take-le i ds (omega (arith, n))

    size : length less ≡ i
    size = omega (arith, length-append (take i ds) (drop (suc i) ds), front, length-drop (suc i) ds, n)

    same : (j : ℕ) → j < i → (get_or less j blank).name ≡ (get_or ds j blank).name
    same j q = ap (λ (x : Definition). x.name) (List·getD-append (take i ds) (drop (suc i) ds) blank j (omega (arith, front, q)) ∙ get_or-take i ds j blank q)

    alike : (c m : ℕ) → m ≤ i → newest_in c less m ≡ newest_in c ds m
    alike c m q = newest_alike c ds less m (λ j p. same j (omega (arith, p, q)))

    head_is : (c : ℕ) → c < bucket_count → Dec (bucket_of (get_or ds i blank).name ≡ c) → head_at after c ≡ newest_in c less (length less)
    head_is c m (yes e) =
        let z : c ≡ b = sym e ∙ sym mine in
        ap (head_at after) z ∙ k.same ∙ h.links i (omega (arith, n)) ∙ ap (λ (x : ℕ). newest_in x ds i) e ∙ sym (alike c i (omega arith)) ∙ ap (newest_in c less) (sym size)
    head_is c m (no ne) =
        k.others c (λ z. ne (sym mine ∙ sym z)) ∙ h.heads c m ∙ ap (newest_in c ds) n ∙ newest_miss c ds i ne ∙ sym (alike c i (omega arith)) ∙ ap (newest_in c less) (sym size)

-- ---- no definition yet

pub chained_none : (ends : List ℕ) → ((b : ℕ) → b < bucket_count → head_at ends b ≡ 0) → Candidates ends → Chained ends []
unfolding newest_in
chained_none ends f c = record { heads = f; links = λ i l. absurd (not-suc-le-zero l); candidates = c }

-- what stands before the links is as it was, where links and then heads are written
pub joined_before : (before mid after : List ℕ) → take links_start mid ≡ take links_start before → take heads_start after ≡ take heads_start mid → take links_start after ≡ take links_start before
joined_before before mid after e f = sym (take-take links_start heads_start after (omega arith)) ∙ ap (take links_start) f ∙ take-take links_start heads_start mid (omega arith) ∙ e

-- one more head is 0
pub zero_on : {before after : List ℕ} {b : ℕ} → Headed before b 0 after → ((c : ℕ) → c < b → head_at before c ≡ 0) → (c : ℕ) → c < b + 1 → head_at after c ≡ 0
zero_on {before} {after} {b} k f c l = go (ℕ_discrete c b)
  where
    go : Dec (c ≡ b) → head_at after c ≡ 0
    go (yes e) = ap (head_at after) e ∙ k.same
    go (no ne) = k.others c ne ∙ f c (omega (arith, l, ne))

-- the words of the first b buckets have the numbers of the predefined names, or 0, and no head
abbrev pub Fresh : List ℕ → ℕ → Type 0
Fresh ends b = (c : ℕ) → c < b → get_or ends (heads_start + c) 0 ≡ unwrap_or (candidate_in c) 0 * 131072

pub fresh_on : (ends : List ℕ) (b : ℕ) → heads_start + b < length ends → Fresh ends b → {x : ℕ} → x ≡ unwrap_or (candidate_in b) 0 → Fresh (set ends (heads_start + b) (x * 131072)) (b + 1)
fresh_on ends b l f {x} e c m = go (ℕ_discrete c b)
  where
    go : Dec (c ≡ b) → get_or (set ends (heads_start + b) (x * 131072)) (heads_start + c) 0 ≡ unwrap_or (candidate_in c) 0 * 131072
    go (yes q) = rw q (get_or-set_same ends (heads_start + b) (x * 131072) 0 l ∙ ap (λ (n : ℕ). n * 131072) e)
    go (no ne) = get_or-set_other ends (heads_start + b) (heads_start + c) (x * 131072) 0 (λ q. ne (omega (arith, q))) ∙ f c (omega (arith, m, ne))

pub chained_fresh : {ends : List ℕ} {b : ℕ} → Fresh ends b → bucket_count ≤ b → Chained ends []
unfolding head_at candidate_at
chained_fresh {ends} {b} f l = chained_none ends (λ c m. omega (arith, f c (omega (arith, m, l)))) (λ c m. omega (arith, f c (omega (arith, m, l))))

-- ---- the chains anew, one definition after the other

-- a head is one of the definitions
pub head_small : {ends : List ℕ} {ds : List Definition} → Chained ends ds → (b : ℕ) → b < bucket_count → head_at ends b ≤ length ds
head_small {ends} {ds} h b l = omega (arith, h.heads b l, newest_below b ds (length ds))

module _ {ends : List ℕ} (ds : List Definition) (i : ℕ) (l : i < length ds) (h : Chained ends (take i ds)) where
  pub rebuilt_head : (b : ℕ) → b < bucket_count → head_at ends b ≤ i
  rebuilt_head b m = omega (arith, head_small h b m, length-take-le i ds (omega (arith, l)))

  pub rebuilt_on : {ends' : List ℕ} (b : ℕ) → b ≡ bucket_of (get_or ds i blank).name → ((es : List Definition) (d : Definition) → i ≡ length es → b ≡ bucket_of d.name → Chained ends es → Chained ends' (es ++ (d ∷ [])))
      → Chained ends' (take (i + 1) ds)
  rebuilt_on {ends'} b e f = subst (Chained ends') (sym (ap (λ (n : ℕ). take n ds) (add-one i) ∙ take-suc ds i blank l)) (f (take i ds) (get_or ds i blank) (sym (length-take-le i ds (omega (arith, l)))) e h)

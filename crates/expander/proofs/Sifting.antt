-- Laws of a pass over the definitions that drops those of a name. Assumes nothing.
use Rattle.rules.proofs.Base.{◌≤◌, ◌+◌, ℕ, ◌-◌, ◌*◌, ◌/◌, ◌<◌, suc, ◌∙◌, refl, sym, ap, ◌≡◌, true, Bool, false, List, [], ◌++◌, ◌∷◌, append_assoc, append-nil, add-one, arith, length, drop, take, get_or, length-append, length-drop, set, length-set, drop-drop, get_or-drop, take-suc-set, drop-set-lt, take-append_seam, take-add, drop-append_seam, not-suc-le-zero, ℕ_discrete, take-take, take-append-drop, drop-append-le, length-take-le, take_at}
use Rattle.rules.specs.Bytes.{Bytes, same_bytes}
use Rattle.rules.specs.Streams.{joined}
use Rattle.rules.specs.Table.{Definition, Table, own_lost, without, undefined}
use Rattle.expander.specs.Packed.{ends_from, Packs, overlaid}
use Rattle.expander.specs.Limits.{meanings_start, links_start}
use Rattle.expander.specs.Buckets.{Chained}
use Rattle.expander.specs.Meanings.{number_at, Put}
use Rattle.expander.specs.Table.{meaning_text, rows, meaning_number, Sound, blank, DefinitionsIn, TableIn, unless_named, Sifted}
use Rattle.expander.specs.declared.packed.Packed.{Packed}
use Rattle.expander.proofs.Packing.{joined-append, ends_append, length_ends, used_is, count_is, bytes_split, ends_split}
use Rattle.expander.proofs.Overwriting.{part_length, length-overlaid, take-overlaid, drop-overlaid}
use Rattle.expander.proofs.Rows.{string_count, length-rows}
use Rattle.expander.proofs.MeaningLaws.{numbers_kept, packs_kept}
use Rattle.expander.proofs.Changing.{Told, told_last, rows_append, few_strings, others_few, holds_others}
use Rattle.expander.proofs.MaskLaws.{lost_less}
use Rattle.expander.proofs.Parts.{drop-take, drop_later, part_long}

-- two parts one after the other
two_parts : (l : List ℕ) (from middle end : ℕ) → from ≤ middle → middle ≤ end
    → drop from (take end l) ≡ take (middle - from) (drop from l) ++ take (end - middle) (drop middle l)
two_parts l from middle end h k =
    let n : end - from ≡ (middle - from) + (end - middle) = omega arith in
    let m : from + (middle - from) ≡ middle = omega arith in
    drop-take from end l
    ∙ ap (λ (i : ℕ). take i (drop from l)) n
    ∙ take-add (middle - from) (end - middle) (drop from l)
    ∙ ap (λ (x : List ℕ). take (middle - from) (drop from l) ++ take (end - middle) x) (drop-drop (middle - from) from l ∙ ap (λ (i : ℕ). drop i l) m)

-- the definition that a pass has come to is of the name
pub sifted_named : (w bytes : Bytes) (ends : List ℕ) (kept : Packed) (from middle end : ℕ) {t : Bool} → kept.used ≤ end
    → t ≡ same_bytes w (take (middle - from) (drop from bytes)) → t ≡ true → Sifted w bytes ends kept from middle end bytes ends kept
unfolding unless_named
sifted_named w bytes ends kept from middle end le e f = record {
  packs = λ ss h. rw (sym e ∙ f, unless_named, append-nil ss) h;
  bytes_behind = refl;
  ends_behind = refl;
  count_most = omega arith;
  used_most = le;
}

ends_two : (ss : List Bytes) (x y : Bytes) (u m n : ℕ) (es : List ℕ) → es ≡ ends_from 0 ss → length (joined ss) ≡ u → length x ≡ m → length x + length y ≡ n
    → es ++ ((u + m) ∷ (u + n) ∷ []) ≡ ends_from 0 (ss ++ (x ∷ y ∷ []))
unfolding ends_from
ends_two ss x y u m n es ee eu em en =
    let z : 0 + length (joined ss) + length x ≡ u + m = omega arith in
    let v : u + m + length y ≡ u + n = omega arith in
    ap (λ (l : List ℕ). l ++ ((u + m) ∷ (u + n) ∷ [])) ee ∙ sym (ends_append 0 ss (x ∷ y ∷ []) ∙ rw (z, v))

-- it is not, and is put behind those kept
module _ {ends : List ℕ} {kept : Packed} {bytes : Bytes} {ss : List Bytes} (h : Packs ends kept.count bytes kept.used ss) (from middle end : ℕ)
    (lo : kept.used ≤ from) (mid : from ≤ middle) (hi : middle ≤ end) (fits : end ≤ length bytes) (room : kept.count + 2 ≤ length ends) where
  moved_two : Packs (set (set ends kept.count (kept.used + (middle - from))) (kept.count + 1) (kept.used + (end - from))) (kept.count + 2)
      (overlaid kept.used (drop from (take end bytes)) bytes) (kept.used + (end - from))
      (ss ++ (take (middle - from) (drop from bytes) ∷ take (end - middle) (drop middle bytes) ∷ []))
  unfolding ends_from joined
  moved_two =
      let c = kept.count in
      let u = kept.used in
      let x = take (middle - from) (drop from bytes) in
      let y = take (end - middle) (drop middle bytes) in
      let s = drop from (take end bytes) in
      let lx : length x ≡ middle - from = part_long bytes from middle (omega arith) in
      let ly : length y ≡ end - middle = part_long bytes middle end fits in
      let ls : length s ≡ end - from = part_length bytes from end fits in
      let ends₁ = set ends c (u + (middle - from)) in
      let two : c + 2 ≡ suc (suc c) = omega arith in
      record {
        ends_are =
            rw (two, add-one c)
            (take-suc-set ends₁ (suc c) (u + (end - from)) (rw (length-set ends c (u + (middle - from))) (omega arith))
            ∙ ap (λ (l : List ℕ). l ++ ((u + (end - from)) ∷ [])) (take-suc-set ends c (u + (middle - from)) (omega arith))
            ∙ append_assoc (take c ends) ((u + (middle - from)) ∷ []) ((u + (end - from)) ∷ [])
            ∙ ends_two ss x y u (middle - from) (end - from) (take c ends) h.ends_are (used_is h) lx (omega arith));
        bytes_are =
            ap (λ (n : ℕ). take (u + n) (overlaid u s bytes)) (sym ls)
            ∙ take-overlaid u s bytes (omega arith)
            ∙ rw (h.bytes_are, two_parts bytes from middle end mid hi) (sym (joined-append ss (x ∷ y ∷ []) ∙ ap (λ (l : Bytes). joined ss ++ (x ++ l)) (append-nil y)));
        count_in = rw (length-set ends₁ (c + 1) (u + (end - from)), length-set ends c (u + (middle - from))) room;
        used_in = omega (arith, length-overlaid u s bytes (omega arith));
      }

pub sifted_kept : (w bytes : Bytes) (ends : List ℕ) (kept : Packed) (from middle end : ℕ) {t : Bool} {bytes' : Bytes}
    → kept.used ≤ from → from ≤ middle → middle ≤ end → end ≤ length bytes → kept.count + 2 ≤ length ends
    → t ≡ same_bytes w (take (middle - from) (drop from bytes)) → t ≡ false → bytes' ≡ overlaid kept.used (drop from (take end bytes)) bytes
    → Sifted w bytes ends kept from middle end bytes' (set (set ends kept.count (kept.used + (middle - from))) (kept.count + 1) (kept.used + (end - from)))
    (record { count = kept.count + 2; used = kept.used + (end - from) })
unfolding unless_named
sifted_kept w bytes ends kept from middle end lo mid hi fits room e f eb =
    let ls : length (drop from (take end bytes)) ≡ end - from = part_length bytes from end fits in
    record {
      packs = λ ss h. rw (sym e ∙ f, unless_named, eb) (moved_two h from middle end lo mid hi fits room);
      bytes_behind = ap (drop end) eb ∙ drop-overlaid kept.used (drop from (take end bytes)) bytes end (omega arith) (omega arith);
      ends_behind =
          drop-set-lt (kept.count + 2) (set ends kept.count (kept.used + (middle - from))) (kept.count + 1) (kept.used + (end - from)) (omega arith)
          ∙ drop-set-lt (kept.count + 2) ends kept.count (kept.used + (middle - from)) (omega arith);
      count_most = omega arith;
      used_most = omega arith;
    }

-- a pass that has come to definition i, which starts at `from`: `done` are kept, `rest` is to come
pub record Sifting (w : Bytes) (ds : List Definition) (count : ℕ) (bytes : Bytes) (ends : List ℕ) (kept : Packed) (i from : ℕ) : Type 0 where
  pub done : List Definition
  pub rest : List Definition
  pub so_far : without w ds ≡ done ++ without w rest
  pub packs : Packs ends kept.count bytes kept.used (rows done)
  pub free_ends : List ℕ
  pub ends_are : drop (2 * i) ends ≡ ends_from from (rows rest) ++ free_ends
  pub free_bytes : Bytes
  pub bytes_are : drop from bytes ≡ joined (rows rest) ++ free_bytes
  pub left : 2 * i + length (rows rest) ≡ count
  pub count_behind : kept.count ≤ 2 * i
  pub used_behind : kept.used ≤ from
  pub from_in : from ≤ length bytes
  pub count_in : count ≤ length ends
  pub count_few : count ≤ meanings_start
  pub done_told : Told ends done
  pub rest_told : (j : ℕ) → j < length rest → number_at ends (i + j) ≡ meaning_number (get_or rest j blank).meaning

pub sifting_begins : (w : Bytes) {bytes : Bytes} {ends : List ℕ} {p : Packed} {ds : List Definition} {count : ℕ} → p.count ≡ count → DefinitionsIn bytes ends p ds
    → Sifting w ds count bytes ends (record { count = 0; used = 0 }) 0 0
unfolding ends_from joined rows
sifting_begins w {bytes} {ends} {p} {ds} e h = record {
  done = [];
  rest = ds;
  so_far = refl;
  packs = record { ends_are = refl; bytes_are = refl; count_in = omega arith; used_in = omega arith };
  free_ends = drop p.count ends;
  ends_are = ends_split h.packs;
  free_bytes = drop p.used bytes;
  bytes_are = bytes_split h.packs;
  left = omega (arith, length-rows ds, string_count h);
  count_behind = omega arith;
  used_behind = omega arith;
  from_in = omega arith;
  count_in = omega (arith, h.packs.count_in);
  count_few = omega (arith, few_strings h);
  done_told = λ i l. absurd (not-suc-le-zero l);
  rest_told = λ i l. ap (number_at ends) (omega arith) ∙ h.numbers i l;
}

-- the definition that the pass comes to
pub record Facing (w : Bytes) (ds : List Definition) (count : ℕ) (bytes : Bytes) (ends : List ℕ) (kept : Packed) (i from middle end : ℕ) : Type 0 where
  pub at : Sifting w ds count bytes ends kept i from
  pub first : Definition
  pub others : List Definition
  pub rest_is : at.rest ≡ first ∷ others
  pub name_is : take (middle - from) (drop from bytes) ≡ first.name
  pub text_is : take (end - middle) (drop middle bytes) ≡ meaning_text first.meaning
  pub from_middle : from ≤ middle
  pub middle_end : middle ≤ end
  pub end_in : end ≤ length bytes
  pub ends_are : drop (2 * i + 2) ends ≡ ends_from end (rows others) ++ at.free_ends
  pub bytes_are : drop end bytes ≡ joined (rows others) ++ at.free_bytes
  pub left : 2 * i + 2 + length (rows others) ≡ count

module _ {w : Bytes} {ds : List Definition} {count : ℕ} {bytes : Bytes} {ends : List ℕ} {kept : Packed} {i from : ℕ} (h : Sifting w ds count bytes ends kept i from) where
  pub facing : (middle end : ℕ) → i < count / 2 → middle ≡ get_or ends (2 * i) 0 → end ≡ get_or ends (2 * i + 1) 0 → Facing w ds count bytes ends kept i from middle end
  unfolding rows ends_from joined
  facing middle end lt em ee = go h.rest refl
    where
      go : (r : List Definition) → h.rest ≡ r → Facing w ds count bytes ends kept i from middle end
      go [] e = absurd (omega (arith, h.left, ap (λ (l : List Definition). length (rows l)) e))
      go (d ∷ rs) e =
          let x = d.name in
          let y = meaning_text d.meaning in
          let k = 2 * i in
          let E : drop k ends ≡ (from + length x) ∷ (from + length x + length y) ∷ (ends_from (from + length x + length y) (rows rs) ++ h.free_ends) =
          h.ends_are ∙ ap (λ (l : List Definition). ends_from from (rows l) ++ h.free_ends) e in
          let B : drop from bytes ≡ x ++ (y ++ (joined (rows rs) ++ h.free_bytes)) =
          h.bytes_are ∙ ap (λ (l : List Definition). joined (rows l) ++ h.free_bytes) e
          ∙ append_assoc x (y ++ joined (rows rs)) h.free_bytes ∙ ap (λ (l : Bytes). x ++ l) (append_assoc y (joined (rows rs)) h.free_bytes) in
          let zero_more : k + 0 ≡ k = omega arith in
          let m : middle ≡ from + length x =
          em ∙ ap (λ (i : ℕ). get_or ends i 0) (sym zero_more) ∙ sym (get_or-drop k ends 0 0) ∙ ap (λ (l : List ℕ). get_or l 0 0) E in
          let n : end ≡ from + length x + length y = ee ∙ sym (get_or-drop k ends 1 0) ∙ ap (λ (l : List ℕ). get_or l 1 0) E in
          let B' : drop middle bytes ≡ y ++ (joined (rows rs) ++ h.free_bytes) =
          ap (λ (i : ℕ). drop i bytes) m ∙ sym (drop-drop (length x) from bytes) ∙ ap (drop (length x)) B ∙ drop-append_seam x (y ++ (joined (rows rs) ++ h.free_bytes)) in
          let lx : middle - from ≡ length x = omega arith in
          let ly : end - middle ≡ length y = omega arith in
          record {
            at = h;
            first = d;
            others = rs;
            rest_is = e;
            name_is = rw (lx, B) (take-append_seam x (y ++ (joined (rows rs) ++ h.free_bytes)));
            text_is = rw (ly, B') (take-append_seam y (joined (rows rs) ++ h.free_bytes));
            from_middle = omega arith;
            middle_end = omega arith;
            end_in =
                omega (
                  arith,
                  ap length B,
                  length-append x (y ++ (joined (rows rs) ++ h.free_bytes)),
                  length-append y (joined (rows rs) ++ h.free_bytes),
                  length-drop from bytes,
                  h.from_in,
                );
            ends_are = sym (drop-drop 2 k ends) ∙ ap (drop 2) E ∙ ap (λ (j : ℕ). ends_from j (rows rs) ++ h.free_ends) (sym n);
            bytes_are =
                let m : middle + length y ≡ end = omega arith in
                ap (λ (j : ℕ). drop j bytes) (sym m) ∙ sym (drop-drop (length y) middle bytes) ∙ ap (drop (length y)) B' ∙ drop-append_seam y (joined (rows rs) ++ h.free_bytes);
            left = omega (arith, h.left, ap (λ (l : List Definition). length (rows l)) e);
          }

  pub sifting_ends : count / 2 ≤ i → Packs ends kept.count bytes kept.used (rows (without w ds)) × Told ends (without w ds)
  unfolding rows without
  sifting_ends le = go h.rest refl
    where
      go : (r : List Definition) → h.rest ≡ r → Packs ends kept.count bytes kept.used (rows (without w ds)) × Told ends (without w ds)
      go [] e =
          let f : without w ds ≡ h.done = h.so_far ∙ ap (λ (l : List Definition). h.done ++ without w l) e ∙ append-nil h.done in
          rw f (h.packs, h.done_told)
      go (d ∷ rs) e = absurd (omega (arith, h.left, ap (λ (l : List Definition). length (rows l)) e))

-- the byte of definition j has been put in the place of another
pub put_both : {before after : List ℕ} (i j : ℕ) {x : ℕ} → x ≡ number_at before j → Put before i x after → number_at after i ≡ number_at after j
put_both {before} {after} i j {x} e p = p.same ∙ go (ℕ_discrete j i)
  where
    go : Dec (j ≡ i) → x ≡ number_at after j
    go (yes q) = sym (ap (number_at after) q ∙ p.same)
    go (no q) = e ∙ sym (p.others j q)

-- the byte of the definition that the pass comes to has been put behind those kept
pub sifting_put : {w : Bytes} {ds : List Definition} {count : ℕ} {bytes : Bytes} {ends : List ℕ} {kept : Packed} {i from : ℕ} → Sifting w ds count bytes ends kept i from
    → {ends' : List ℕ} {x : ℕ} → x ≡ number_at ends i → Put ends (kept.count / 2) x ends' → length ends' ≡ length ends → Sifting w ds count bytes ends' kept i from
sifting_put {count = count} {ends = ends} {kept = kept} {i = i} {from = from} h {ends'} {x} e p le =
    let k = 2 * i in
    let same : take count ends' ≡ take count ends =
    sym (take-take count meanings_start ends' h.count_few) ∙ ap (take count) p.ends ∙ take-take count meanings_start ends h.count_few in
    let long : (l : List ℕ) → count ≤ length l → drop k l ≡ drop k (take count l) ++ drop count l =
    λ l c. ap (drop k) (sym (take-append-drop count l)) ∙ drop-append-le k (take count l) (drop count l) (omega (arith, length-take-le count l c, h.left)) in
    let mine : drop k (take count ends) ≡ ends_from from (rows h.rest) =
    drop-take k count ends ∙ ap (take (count - k)) h.ends_are ∙ take_at (ends_from from (rows h.rest)) h.free_ends (count - k) (omega (arith, length_ends from (rows h.rest), h.left)) in
    record {
      done = h.done;
      rest = h.rest;
      so_far = h.so_far;
      packs = packs_kept p.ends le (omega (arith, h.count_behind, h.left, h.count_few)) h.packs;
      free_ends = drop count ends';
      ends_are = long ends' (omega (arith, h.count_in)) ∙ ap (λ (l : List ℕ). drop k l ++ drop count ends') same ∙ ap (λ (l : List ℕ). l ++ drop count ends') mine;
      free_bytes = h.free_bytes;
      bytes_are = h.bytes_are;
      left = h.left;
      count_behind = h.count_behind;
      used_behind = h.used_behind;
      from_in = h.from_in;
      count_in = omega (arith, h.count_in);
      count_few = h.count_few;
      done_told = λ j l. p.others j (λ q. omega (arith, q, l, done_count)) ∙ h.done_told j l;
      rest_told = λ j l. go j (ℕ_discrete (i + j) (kept.count / 2)) ∙ h.rest_told j l;
    }
  where
    done_count : 2 * length h.done ≡ kept.count
    done_count = sym (length-rows h.done) ∙ count_is h.packs

    go : (j : ℕ) → Dec (i + j ≡ kept.count / 2) → number_at ends' (i + j) ≡ number_at ends (i + j)
    go j (yes q) =
        let z : i ≡ i + j = omega (arith, q, h.count_behind, done_count) in
        ap (number_at ends') q ∙ p.same ∙ e ∙ ap (number_at ends) z
    go j (no q) = p.others _ q

-- one definition of a list
without_cons : (w : Bytes) (d : Definition) (ds : List Definition) → without w (d ∷ ds) ≡ without w (d ∷ []) ++ without w ds
unfolding without
without_cons w d ds = go (same_bytes w d.name)
  where
    go : (t : Bool) → elim t [ true ↦ without w ds | false ↦ d ∷ without w ds ] ≡ elim t as (λ _. List Definition) [ true ↦ [] | false ↦ d ∷ [] ] ++ without w ds
    go true = refl
    go false = refl

rows_unless : (w : Bytes) (d : Definition) → rows (without w (d ∷ [])) ≡ unless_named w d.name (meaning_text d.meaning)
unfolding without unless_named rows
rows_unless w d = go (same_bytes w d.name)
  where
    go : (t : Bool)
        → rows (elim t as (λ _. List Definition) [ true ↦ [] | false ↦ d ∷ [] ]) ≡ elim t as (λ _. List Bytes) [ true ↦ [] | false ↦ d.name ∷ meaning_text d.meaning ∷ [] ]
    go true = refl
    go false = refl

-- the bytes of those kept, with that of one more unless it is of the name
told_unless : (w : Bytes) (d : Definition) (ends : List ℕ) (ds : List Definition) → Told ends ds → number_at ends (length ds) ≡ meaning_number d.meaning → Told ends (ds ++ without w (d ∷ []))
unfolding without
told_unless w d ends ds f n = go (same_bytes w d.name)
  where
    go : (t : Bool) → Told ends (ds ++ elim t as (λ _. List Definition) [ true ↦ [] | false ↦ d ∷ [] ])
    go true = λ i l. f i (omega (arith, l, length-append ds [])) ∙ ap (λ (l : List Definition). meaning_number (get_or l i blank).meaning) (sym (append-nil ds))
    go false = told_last ends ds d f n

pub sifting_on : {w : Bytes} {ds : List Definition} {count : ℕ} {bytes : Bytes} {ends : List ℕ} {kept : Packed} {i from middle end : ℕ}
    → Facing w ds count bytes ends kept i from middle end → {bytes' : Bytes} {ends' : List ℕ} {r : Packed} → Sifted w bytes ends kept from middle end bytes' ends' r
    → number_at ends (kept.count / 2) ≡ number_at ends i → length bytes' ≡ length bytes → length ends' ≡ length ends → Sifting w ds count bytes' ends' r (i + 1) end
sifting_on {w} {ds} {bytes = bytes} {ends = ends} {kept = kept} {i = i} {from = from} {middle = middle} {end = end} f {bytes'} {ends'} {r} s both lb le =
    let h = f.at in
    let d = f.first in
    let one = without w (d ∷ []) in
    let u : rows h.done ++ unless_named w (take (middle - from) (drop from bytes)) (take (end - middle) (drop middle bytes)) ≡ rows (h.done ++ one) =
    rw (f.name_is, f.text_is, ← rows_unless w d) (sym (rows_append h.done one)) in
    record {
      done = h.done ++ one;
      rest = f.others;
      so_far =
          h.so_far
          ∙ ap (λ (l : List Definition). h.done ++ without w l) f.rest_is
          ∙ ap (λ (l : List Definition). h.done ++ l) (without_cons w d f.others)
          ∙ sym (append_assoc h.done one (without w f.others));
      packs = rw u at (s.packs (rows h.done) h.packs);
      free_ends = h.free_ends;
      ends_are =
          let two : 2 * (i + 1) ≡ 2 * i + 2 = omega arith in
          ap (λ (k : ℕ). drop k ends') two ∙ drop_later (kept.count + 2) (2 * i + 2) ends' ends (omega (arith, h.count_behind)) s.ends_behind ∙ f.ends_are;
      free_bytes = h.free_bytes;
      bytes_are = s.bytes_behind ∙ f.bytes_are;
      left = omega (arith, f.left);
      count_behind = omega (arith, s.count_most, h.count_behind);
      used_behind = s.used_most;
      from_in = omega (arith, f.end_in);
      count_in = omega (arith, h.count_in);
      count_few = h.count_few;
      done_told = told_unless w d ends' h.done (λ i l. stay i ∙ h.done_told i l) (stay (length h.done) ∙ ap (number_at ends) first_kept ∙ both ∙ mine);
      rest_told = λ j l. stay (i + 1 + j) ∙ ap (number_at ends) (omega arith) ∙ h.rest_told (suc j) (omega (arith, l, ap length f.rest_is)) ∙ ap (λ (l : List Definition). meaning_number (get_or l (suc j) blank).meaning) f.rest_is;
    }
  where
    stay : (j : ℕ) → number_at ends' j ≡ number_at ends j
    stay = numbers_kept (kept.count + 2) ends ends' s.ends_behind (omega (arith, f.at.count_behind, f.left, f.at.count_few))

    first_kept : length f.at.done ≡ kept.count / 2
    first_kept = omega (arith, length-rows f.at.done, count_is f.at.packs)

    mine : number_at ends i ≡ meaning_number f.first.meaning
    mine =
        let z : i ≡ i + 0 = omega arith in
        ap (number_at ends) z ∙ f.at.rest_told 0 (omega (arith, ap length f.rest_is)) ∙ ap (λ (l : List Definition). meaning_number (get_or l 0 blank).meaning) f.rest_is

sound_without : (w : Bytes) (ds : List Definition) → Sound ds → Sound (without w ds)
unfolding Sound without
sound_without w [] p = p
sound_without w (d ∷ ds) p = go (same_bytes w d.name) (sound_without w ds p.2)
  where
    go : (t : Bool) → Sound (without w ds) → Sound (elim t [ true ↦ without w ds | false ↦ d ∷ without w ds ])
    go true q = q
    go false q = (p.0, p.1, q)

-- the definitions that are left are as few, and they are a table
pub without_few : (w : Bytes) {bytes : Bytes} {ends : List ℕ} {p : Packed} {ds : List Definition} → DefinitionsIn bytes ends p ds → {bytes' : Bytes} → length bytes' ≡ length bytes → {ends₁ : List ℕ} {r : Packed}
    → Packs ends₁ r.count bytes' r.used (rows (without w ds)) → r.count ≤ meanings_start
without_few w {ds = ds} h lb {r = r} k = omega (arith, length-rows (without w ds), count_is k, others_few h lb {r = r} (without w ds) k (sound_without w ds h.sound))

pub without_in : (w : Bytes) {bytes : Bytes} {ends : List ℕ} {p : Packed} {ds : List Definition} → DefinitionsIn bytes ends p ds → {bytes' : Bytes} {ends₁ ends' : List ℕ} {r : Packed}
    → length bytes' ≡ length bytes → length ends₁ ≡ length ends → Packs ends₁ r.count bytes' r.used (rows (without w ds)) → Told ends₁ (without w ds)
    → length ends' ≡ length ends₁ → take links_start ends' ≡ take links_start ends₁ → Chained ends' (without w ds) → DefinitionsIn bytes' ends' r (without w ds)
without_in w {ds = ds} h {ends₁ = ends₁} lb l₁ k f l' c ch = holds_others h lb {ends₁ = ends₁} ends₁ k (sound_without w ds h.sound) refl f c ch l₁ refl l'

pub undefined_in : (w : Bytes) {bytes : Bytes} {ends : List ℕ} {p : Packed} {own : ℕ} {t : Table} → TableIn bytes ends p own t → {bytes' : Bytes} {ends' : List ℕ} {r : Packed} {lost : ℕ}
    → DefinitionsIn bytes' ends' r (without w t.definitions) → lost ≡ own_lost w own → TableIn bytes' ends' r lost (undefined w t)
unfolding undefined
undefined_in w {own = own} h k e = record { holds = k; own_is = ap (own_lost w) h.own_is ∙ sym e; own_few = omega (arith, lost_less w own, h.own_few) }

-- Laws of packed strings some of which give way to others in their place. Assumes nothing.
use Rattle.rules.proofs.Base.{◌≤◌, ◌+◌, ℕ, ◌-◌, ◌<◌, suc, ◌^◌, ◌∙◌, refl, sym, ap, ◌≡◌, ◌⊎◌, inl, inr, List, [], ◌++◌, ◌∷◌, append_assoc, map, add-one, dec_lt, arith, length, drop, take, get_or, length-append, length-drop, set, length-set, length-take, take-append-drop, length-take-le, drop-cons, get_or-take, take-append-le, drop_at, get_or-set_same, get_or-set_other, take-set-le, set-get_or, set_split, take-take, drop-append-le}
use Rattle.rules.specs.Bytes.{Bytes}
use Rattle.rules.specs.Streams.{joined}
use Rattle.expander.specs.Packed.{ends_from, Packs, start_of, overlaid, rebased}
use Rattle.expander.proofs.Overwriting.{length-overlaid, take-overlaid, drop-overlaid, mapped_length}
use Rattle.expander.proofs.Parts.{drop-take}
use Rattle.expander.proofs.Packing.{joined-append, joined_one, ends_append, drop_ends, packs, count_is, used_is, start_is, start_next, start_in_lem, front, lies}

-- ends that start elsewhere
rebased_ends : (at less more : ℕ) (ss : List Bytes) → map (rebased less more) (ends_from (at + less) ss) ≡ ends_from (at + more) ss
unfolding ends_from rebased
rebased_ends at less more [] = refl
rebased_ends at less more (s ∷ ss) =
    let e : at + less + length s ≡ at + length s + less = omega arith in
    let f : at + length s + less - less + more ≡ at + length s + more = omega arith in
    let g : at + more + length s ≡ at + length s + more = omega arith in
    rw (e, f, g, rebased_ends (at + length s) less more ss)

-- ends that were moved: what stands behind them is as it was
pub ends_behind : (f : ℕ → ℕ) (ends : List ℕ) (to from count : ℕ) {ends' : List ℕ} → to ≤ from → from ≤ count → count ≤ length ends
    → ends' ≡ overlaid to (map f (drop from (take count ends))) ends → drop count ends' ≡ drop count ends
ends_behind f ends to from count tf fc cl e =
    let long = mapped_length f ends from count cl in
    ap (drop count) e ∙ drop-overlaid to (map f (drop from (take count ends))) ends count (omega (arith, long)) (omega (arith, long))

pub packs_as : {ends : List ℕ} {count : ℕ} {bytes : Bytes} {used : ℕ} {ss : List Bytes} → Packs ends count bytes used ss
    → {count' used' : ℕ} → count ≡ count' → used ≡ used' → Packs ends count' bytes used' ss
packs_as h e f = rw (sym e, sym f) h

-- some strings lie from a up to e
pub record Spans (bytes : Bytes) (used a e : ℕ) : Type 0 where
  pub ordered : a ≤ e
  pub inside : e ≤ used
  pub all : used ≤ length bytes

module _ {ends : List ℕ} {count : ℕ} {bytes : Bytes} {used : ℕ} {ss : List Bytes} (h : Packs ends count bytes used ss) where
  pub start_order : (k m : ℕ) → k ≤ m → m ≤ count → start_of ends k ≤ start_of ends m
  start_order k m le lm =
      let e : joined (take m ss) ≡ joined (take k ss) ++ joined (drop k (take m ss)) =
      ap joined (sym (take-append-drop k (take m ss)) ∙ ap (λ (l : List Bytes). l ++ drop k (take m ss)) (take-take k m ss le)) ∙ joined-append (take k ss) (drop k (take m ss)) in
      omega (arith, start_is h k (omega arith), start_is h m lm, ap length e, length-append (joined (take k ss)) (joined (drop k (take m ss))))

  pub spans : (k m a e : ℕ) → k ≤ m → m ≤ count → a ≡ start_of ends k → e ≡ start_of ends m → Spans bytes used a e
  spans k m a e le lm ea ee = record { ordered = omega (arith, start_order k m le lm); inside = omega (arith, start_in_lem h m lm); all = h.used_in }

  -- end j is where the next string starts
  end_start : (j : ℕ) → get_or ends j 0 ≡ start_of ends (suc j)
  unfolding start_of
  end_start j = refl

  -- ends behind the start of string m may have the strings from k up to m taken out, and n bytes put in
  pub rebasable : (k m a e n : ℕ) → k ≤ m → m ≤ count → a ≡ start_of ends k → e ≡ start_of ends m → used + n < 2 ^ 32 + (e - a)
      → (j : ℕ) → m ≤ suc j → j < count → (e - a ≤ get_or ends j 0) × (rebased (e - a) n (get_or ends j 0) < 2 ^ 32)
  unfolding rebased
  rebasable k m a e n le lm ea ee fits j lj jc =
      let lo = start_order m (suc j) lj jc in
      let hi = start_in_lem h (suc j) jc in
      let an = start_order k m le lm in
      let es = end_start j in
      (omega arith, omega arith)

  tail_ends : (m : ℕ) → m ≤ count → drop m (take count ends) ≡ ends_from (start_of ends m) (drop m ss)
  tail_ends m lm = ap (drop m) h.ends_are ∙ drop_ends m 0 ss ∙ ap (λ (n : ℕ). ends_from n (drop m ss)) (omega (arith, start_is h m lm))

  tail_bytes : (m : ℕ) → m ≤ count → drop (start_of ends m) (take used bytes) ≡ joined (drop m ss)
  tail_bytes m lm =
      ap (drop (start_of ends m)) (h.bytes_are ∙ ap joined (sym (take-append-drop m ss)) ∙ joined-append (take m ss) (drop m ss))
      ∙ drop_at (joined (take m ss)) (joined (drop m ss)) (start_of ends m) (sym (start_is h m lm))

  -- the strings from k up to m give way to others, which are x one after the other
  spliced : (k m : ℕ) (new : List Bytes) (x : Bytes) {ends' : List ℕ} {bytes' : Bytes} (es : List ℕ) (bs : Bytes) → k ≤ m → m ≤ count → joined new ≡ x
      → ends' ≡ take k ends ++ (ends_from (start_of ends k) new ++ (map (rebased (start_of ends m - start_of ends k) (length x)) (drop m (take count ends)) ++ es))
      → bytes' ≡ take (start_of ends k) bytes ++ (x ++ (drop (start_of ends m) (take used bytes) ++ bs))
      → Packs ends' (k + length new + (count - m)) bytes' (used - (start_of ends m - start_of ends k) + length x) (take k ss ++ (new ++ drop m ss))
  spliced k m new x es bs le lm ex ee eb =
      let A = take k ss in
      let B = drop m ss in
      let a = start_of ends k in
      let n = length x in
      let before = front h k (omega arith) in
      let la : length (joined A) ≡ a = sym (start_is h k (omega arith)) in
      let lc : length A ≡ k = length-take-le k ss (omega (arith, count_is h)) in
      let at : a + (start_of ends m - a) ≡ start_of ends m = omega (arith, start_order k m le lm) in
      let te : map (rebased (start_of ends m - a) n) (drop m (take count ends)) ≡ ends_from (a + n) B =
      ap (map (rebased (start_of ends m - a) n)) (tail_ends m lm ∙ ap (λ (i : ℕ). ends_from i B) (sym at)) ∙ rebased_ends a (start_of ends m - a) n B in
      let E : ends_from 0 (A ++ (new ++ B)) ≡ ends_from 0 A ++ (ends_from a new ++ ends_from (a + n) B) =
      ends_append 0 A (new ++ B)
      ∙ ap (λ (i : ℕ). ends_from 0 A ++ ends_from i (new ++ B)) (omega arith)
      ∙ ap (λ (l : List ℕ). ends_from 0 A ++ l) (ends_append a new B ∙ ap (λ (y : Bytes). ends_from a new ++ ends_from (a + length y) B) ex) in
      let J : joined (A ++ (new ++ B)) ≡ joined A ++ (x ++ joined B) =
      joined-append A (new ++ B) ∙ ap (λ (l : Bytes). joined A ++ l) (joined-append new B ∙ ap (λ (y : Bytes). y ++ joined B) ex) in
      let whole : start_of ends m + length (joined B) ≡ used =
      omega (
        arith,
        start_is h m lm,
        used_is h,
        ap (λ (l : List Bytes). length (joined l)) (take-append-drop m ss),
        ap length (joined-append (take m ss) B),
        length-append (joined (take m ss)) (joined B),
      ) in
      packs (A ++ (new ++ B)) es bs
      (ee ∙ rw (before.ends_are, te, E) (simp append_assoc))
      (eb ∙ rw (before.bytes_are, tail_bytes m lm, J) (simp append_assoc))
      (omega (arith, length-append A (new ++ B), length-append new B, length-drop m ss, count_is h))
      (omega (arith, start_order k m le lm, ap length J, length-append (joined A) (x ++ joined B), length-append x (joined B)))

  -- strings k and k + 1 are gone
  pub removed_two : (k a e : ℕ) {ends' : List ℕ} {bytes' : Bytes} → k + 2 ≤ count → a ≡ start_of ends k → e ≡ start_of ends (k + 2)
      → ends' ≡ overlaid k (map (rebased (e - a) 0) (drop (k + 2) (take count ends))) ends
      → bytes' ≡ overlaid a (drop e (take used bytes)) bytes
      → Packs ends' (count - 2) bytes' (used - (e - a)) (take k ss ++ drop (k + 2) ss)
  unfolding overlaid ends_from joined
  removed_two k a e le ea ee eE eB =
      packs_as (spliced k (k + 2) [] [] _ _ (omega arith) le refl (rw (ea, ee) at eE) (rw (ea, ee) at eB)) (omega arith) (omega arith)

  -- string k gives way to s, which stands in its place
  replaced : (k a e : ℕ) (s : Bytes) {ends' : List ℕ} {bytes' : Bytes} (es : List ℕ) (bs : Bytes) → k < count → a ≡ start_of ends k → e ≡ start_of ends (k + 1)
      → ends' ≡ take k ends ++ ((a + length s) ∷ (map (rebased (e - a) (length s)) (drop (suc k) (take count ends)) ++ es))
      → bytes' ≡ take a bytes ++ (s ++ (drop e (take used bytes) ++ bs))
      → Packs ends' count bytes' (used - (e - a) + length s) (set ss k s)
  unfolding ends_from
  replaced k a e s es bs lt ea ee eE eB =
      let ee' : e ≡ start_of ends (suc k) = ee ∙ ap (start_of ends) (add-one k) in
      rw (set_split ss k s (omega (arith, count_is h)), ea, ee')
      (packs_as (spliced k (suc k) (s ∷ []) s es bs (omega arith) lt (joined_one s) (rw (ea, ee') at eE) (rw (ea, ee') at eB)) (omega arith) refl)

  ends_at : (k e : ℕ) → k < count → e ≡ start_of ends (k + 1) → drop k (take count ends) ≡ e ∷ drop (suc k) (take count ends)
  ends_at k e lt ee =
      drop-cons (take count ends) k 0 (omega (arith, length-take count ends, h.count_in))
      ∙ ap (λ (x : ℕ). x ∷ drop (suc k) (take count ends)) (get_or-take count ends k 0 lt ∙ end_start k ∙ sym (ee ∙ ap (start_of ends) (add-one k)))

  -- string k has n bytes, and s fills them: nothing moves
  pub resized_same : (k a e n : ℕ) (s : Bytes) → k < count → a ≡ start_of ends k → e ≡ start_of ends (k + 1) → e - a ≡ n → length s ≡ n
      → Packs ends count (overlaid (start_of ends k) s bytes) used (set ss k s)
  unfolding overlaid
  resized_same k a e n s lt ea ee en es =
      let B = drop (suc k) ss in
      let X = drop (suc k) (take count ends) in
      let e' : e ≡ start_of ends (suc k) = ee ∙ ap (start_of ends) (add-one k) in
      let next = start_next h k lt in
      let inside = start_in_lem h (suc k) lt in
      let full : a + length s ≡ e = omega arith in
      let stays : map (rebased (e - a) (length s)) X ≡ X =
      ap (map (rebased (e - a) (length s))) (tail_ends (suc k) lt ∙ ap (λ (i : ℕ). ends_from i B) (omega arith)) ∙ rebased_ends a (e - a) (length s) B
      ∙ sym (tail_ends (suc k) lt ∙ ap (λ (i : ℕ). ends_from i B) (omega arith)) in
      let E : ends ≡ take k ends ++ ((a + length s) ∷ (map (rebased (e - a) (length s)) X ++ drop count ends)) =
      sym (take-append-drop count ends)
      ∙ ap (λ (l : List ℕ). l ++ drop count ends) (sym (take-append-drop k (take count ends)))
      ∙ rw (take-take k count ends (omega arith), ends_at k e lt ee, stays, full) (append_assoc (take k ends) (e ∷ X) (drop count ends)) in
      let D : drop e bytes ≡ drop e (take used bytes) ++ drop used bytes =
      ap (drop e) (sym (take-append-drop used bytes)) ∙ drop-append-le e (take used bytes) (drop used bytes) (omega (arith, length-take used bytes, h.used_in)) in
      packs_as
      (replaced k a e s (drop count ends) (drop used bytes) lt ea ee E
      (ap (λ (i : ℕ). take i bytes ++ (s ++ drop (i + length s) bytes)) (sym ea) ∙ rw (full, D)))
      refl (omega arith)

  -- what stands behind string k has moved, so that s has room in its place
  pub resized_moved : (k a e n : ℕ) (s : Bytes) {ends' : List ℕ} {bytes' : Bytes} → k < count → a ≡ start_of ends k → e ≡ start_of ends (k + 1)
      → a + n ≤ length bytes → length s ≡ n
      → ends' ≡ overlaid k (map (rebased (e - a) n) (drop k (take count ends))) ends → bytes' ≡ overlaid (a + n) (drop e (take used bytes)) bytes
      → Packs ends' count (overlaid (start_of ends k) s bytes') (used - (e - a) + n) (set ss k s)
  unfolding overlaid rebased
  resized_moved k a e n s {bytes' = bytes'} lt ea ee fits es eE eB =
      let T = drop e (take used bytes) in
      let free = drop (a + n + length T) bytes in
      let la : length (take (a + n) bytes) ≡ a + n = length-take-le (a + n) bytes fits in
      let next = start_next h k lt in
      let e' : e ≡ start_of ends (suc k) = ee ∙ ap (start_of ends) (add-one k) in
      let moved : e - (e - a) + n ≡ a + length s = omega arith in
      let front_of : take a bytes' ≡ take a bytes =
      ap (take a) eB ∙ take-append-le a (take (a + n) bytes) (T ++ free) (omega arith) ∙ take-take a (a + n) bytes (omega arith) in
      let back-of : drop (a + length s) bytes' ≡ T ++ free =
      ap (drop (a + length s)) eB ∙ drop_at (take (a + n) bytes) (T ++ free) (a + length s) (omega arith) in
      packs_as
      (replaced k a e s (drop (k + length (map (rebased (e - a) n) (drop k (take count ends)))) ends) free lt ea ee
      (eE ∙ rw (ends_at k e lt ee, moved, es))
      (ap (λ (i : ℕ). take i bytes' ++ (s ++ drop (i + length s) bytes')) (sym ea) ∙ rw (front_of, back-of)))
      refl (omega arith)

  -- a text of n bytes has room in the place of string k
  pub place_room : (k a n : ℕ) → k < count → a ≡ start_of ends k → used + n ≤ length bytes + length (get_or ss k []) → a + n ≤ length bytes
  place_room k a n lt ea room = omega (arith, start_next h k lt, start_in_lem h (suc k) lt)

-- s was written where string k starts
pub written_at : {ends : List ℕ} {count : ℕ} {used : ℕ} {ss : List Bytes} (starts : List ℕ) (k a : ℕ) (s bytes : Bytes) {bytes' : Bytes} → Packs ends count (overlaid (start_of starts k) s bytes) used ss
    → a ≡ start_of starts k → bytes' ≡ overlaid a s bytes → Packs ends count bytes' used ss
written_at starts k a s bytes h ea eb = rw (eb, ea) h

-- string k once more, behind the strings
pub copied_behind : {ends : List ℕ} {count : ℕ} {bytes : Bytes} {used : ℕ} {ss : List Bytes} → Packs ends count bytes used ss
    → (k a e used' : ℕ) {bytes' : Bytes} → k < count → a ≡ start_of ends k → e ≡ start_of ends (k + 1) → used' ≡ used
    → bytes' ≡ overlaid used (drop a (take e bytes)) bytes → take (used' + (e - a)) bytes' ≡ take used' bytes ++ get_or ss k []
copied_behind {bytes = bytes} {used = used} {ss = ss} h k a e used' {bytes'} lt ea ee eu eb =
    let x = get_or ss k [] in
    let l = lies h k a e lt ea ee in
    let part : drop a (take e bytes) ≡ x = drop-take a e bytes ∙ l.is in
    let n : used' + (e - a) ≡ used + length x = omega (arith, l.long) in
    ap (λ (i : ℕ). take i bytes') n
    ∙ ap (take (used + length x)) (eb ∙ ap (λ (y : Bytes). overlaid used y bytes) part)
    ∙ take-overlaid used x bytes h.used_in
    ∙ ap (λ (i : ℕ). take i bytes ++ x) (sym eu)

-- a part before what is written, or behind it, is as it was
apart : (at : ℕ) (x l : List ℕ) (from end : ℕ) {p q r s : ℕ} → at + length x ≤ length l → p ≡ end → q ≡ at → r ≡ at + length x → s ≡ from → (p ≤ q) ⊎ (r ≤ s)
    → drop from (take end l) ≡ drop from (take end (overlaid at x l))
unfolding overlaid
apart at x l from end room ep eq er es (inl before) =
    ap (drop from)
    (sym
    (take-append-le end (take at l) (x ++ drop (at + length x) l) (omega (arith, length-take-le at l (omega arith)))
    ∙ take-take end at l (omega arith)))
apart at x l from end room ep eq er es (inr behind) =
    drop-take from end l ∙ ap (take (end - from)) (sym (drop-overlaid at x l from room (omega arith))) ∙ sym (drop-take from end (overlaid at x l))

-- of two strings one ends before the other starts
sides : {ends : List ℕ} {count : ℕ} {bytes : Bytes} {used : ℕ} {ss : List Bytes} → Packs ends count bytes used ss
    → (k m : ℕ) → k < count → m < count → (k ≡ m → ⊥) → (start_of ends (suc m) ≤ start_of ends k) ⊎ (start_of ends (suc k) ≤ start_of ends m)
sides {ends} h k m lk lm ne = go (dec_lt m k)
  where
    go : Dec (m < k) → (start_of ends (suc m) ≤ start_of ends k) ⊎ (start_of ends (suc k) ≤ start_of ends m)
    go (yes p) = inl (start_order h (suc m) k p (omega arith))
    go (no p) = inr (start_order h (suc k) m (omega arith) (omega arith))

-- string k has room for what string `from` is, which is still to be copied: the place, and where string `from` lies now
pub record Copies (starts : List ℕ) (k : ℕ) (bytes : Bytes) (to moved n : ℕ) (x : Bytes) : Type 0 where
  pub place : to ≡ start_of starts k
  pub room : to + n ≤ length bytes
  pub within : moved + n ≤ length bytes
  pub is : drop moved (take (moved + n) bytes) ≡ x

pub copies : {ends : List ℕ} {count : ℕ} {bytes : Bytes} {used : ℕ} {ss : List Bytes} → Packs ends count bytes used ss
    → (k from a e : ℕ) → k < count → from < count → (k ≡ from → ⊥) → a ≡ start_of ends from → e ≡ start_of ends (from + 1)
    → used + length (get_or ss from []) ≤ length bytes + length (get_or ss k [])
    → {ends' : List ℕ} {count' : ℕ} (bytes' : Bytes) {used' : ℕ}
    → Packs ends' count' (overlaid (start_of ends k) (get_or ss from []) bytes') used' (set ss k (get_or ss from [])) → length bytes' ≡ length bytes
    → (to moved : ℕ) → to ≡ start_of ends' k → moved ≡ start_of ends' from → Copies ends k bytes' to moved (e - a) (get_or ss from [])
copies {ends} {count} {bytes} {used} {ss} h k from a e lk lf ne ea ee fits {ends'} {count'} bytes' g same to moved et em =
    let x = get_or ss from [] in
    let at = start_of ends k in
    let n : e - a ≡ length x = (lies h from a e lf ea ee).long in
    let counts : count' ≡ count = sym (count_is g) ∙ length-set ss k x ∙ count_is h in
    let stays : start_of ends' k ≡ at =
    start_is g k (omega arith) ∙ ap (λ (l : List Bytes). length (joined l)) (take-set-le k ss k x (omega arith)) ∙ sym (start_is h k (omega arith)) in
    let there : at + length x ≤ length bytes' = omega (arith, place_room h k at (length x) lk refl fits) in
    let source : get_or (set ss k x) from [] ≡ x = get_or-set_other ss k from x [] (λ (q : from ≡ k). ne (sym q)) in
    let target : get_or (set ss k x) k [] ≡ x = get_or-set_same ss k x [] (omega (arith, count_is h)) in
    let end : start_of ends' (suc from) ≡ moved + (e - a) = omega (arith, start_next g from (omega arith), ap length source) in
    let next : start_of ends' (suc k) ≡ at + length x = omega (arith, start_next g k (omega arith), ap length target) in
    let l = lies g from moved (moved + (e - a)) (omega arith) em (sym (ap (start_of ends') (add-one from) ∙ end)) in
    record {
      place = et ∙ stays;
      room = omega arith;
      within = omega (arith, l.within, length-overlaid at x bytes' there);
      is =
          apart at x bytes' moved (moved + (e - a)) there end stays next (sym em) (sides g k from (omega arith) (omega arith) ne)
          ∙ drop-take moved (moved + (e - a)) (overlaid at x bytes')
          ∙ l.is
          ∙ source;
    }

-- and is copied
pub copied_over : {ends starts : List ℕ} {count k : ℕ} {bytes bytes' : Bytes} {used to moved n : ℕ} {ss : List Bytes} {x : Bytes}
    → Packs ends count (overlaid (start_of starts k) x bytes) used ss → Copies starts k bytes to moved n x
    → bytes' ≡ overlaid to (drop moved (take (moved + n) bytes)) bytes → Packs ends count bytes' used ss
copied_over {starts = starts} {k = k} {bytes = bytes} {to = to} {x = x} g c eb =
    written_at starts k to x bytes g c.place (eb ∙ ap (λ (y : Bytes). overlaid to y bytes) c.is)

-- string k becomes what it is
pub copied_same : {ends : List ℕ} {count : ℕ} {bytes : Bytes} {used : ℕ} {ss : List Bytes} → Packs ends count bytes used ss
    → (k from : ℕ) → k ≡ from → Packs ends count bytes used (set ss k (get_or ss from []))
copied_same {ss = ss} h k from e = rw (← e, set-get_or ss k []) h

-- Laws of the texts that the streams of a buffer hold. Assumes nothing.
use Rattle.rules.proofs.Base.{◌≤◌, ◌+◌, ℕ, ◌-◌, ◌<◌, suc, zero, ◌∙◌, refl, sym, ap, ◌≡◌, subst, ap₂, subst₂, List, [], ◌++◌, ◌∷◌, append-nil, ℕ_discrete, arith, length, take, get_or, set, length-set, length-take, replicate, length-replicate, get_or-replicate, length-take-le, get_or-take, get_or-set_same, get_or-set_other, set-get_or}
use Rattle.rules.specs.Bytes.{Bytes}
use Rattle.rules.specs.Streams.{nine_empty}
use Rattle.expander.specs.Streams.{owned_by, owned_count, IsStream, Owned, StreamsIn, extended, behind_stream}
use Rattle.expander.specs.Filled.{Filled}
use Rattle.expander.proofs.OwnedBytes.{not_owned, owned_append, run_mine, run_other, owned_length, kept_all, kept_gone, kept_others}
use Rattle.expander.proofs.FilledLaws.{filled_front, filled_long}
use Rattle.expander.proofs.Parts.{empty_of}

-- a rule that holds of every element of two lists holds of every one of both
all_append : (P : ℕ → Type 0) (xs ys : List ℕ) → ((k : ℕ) → k < length xs → P (get_or xs k 0)) → ((k : ℕ) → k < length ys → P (get_or ys k 0)) → (k : ℕ) → k < length (xs ++ ys) → P (get_or (xs ++ ys) k 0)
all_append P [] ys f g k h = g k h
all_append P (x ∷ xs) ys f g zero h = f 0 (omega arith)
all_append P (x ∷ xs) ys f g (suc k) h = all_append P xs ys (λ n l. f (suc n) (omega arith)) g k (omega arith)

-- both parts that are in use are as long as that says
pub parts_long : {b o : List ℕ} {u : ℕ} → Owned b o u → length (take u o) ≡ length (take u b)
parts_long {b} {o} {u} x = length-take-le u o x.in_owners ∙ sym (length-take-le u b x.in_bytes)

pub part_numbered : {b o : List ℕ} {u : ℕ} → Owned b o u → (k : ℕ) → k < length (take u o) → IsStream (get_or (take u o) k 0)
part_numbered {b} {o} {u} x k h =
    let l : k < u = omega (arith, length-take u o) in
    subst IsStream (sym (get_or-take u o k 0 l)) (x.numbered k l)

-- a buffer is known by the parts in use
in_use : {b o : List ℕ} {u : ℕ} {ws : List Bytes} (os bs : List ℕ) → take u o ≡ os → take u b ≡ bs → u ≤ length b → u ≤ length o → ((k : ℕ) → k < length os → IsStream (get_or os k 0))
    → length ws ≡ 9 → ((i : ℕ) → i < 9 → get_or ws i [] ≡ owned_by (suc i) os bs) → StreamsIn b o u ws
in_use {b} {o} {u} {ws} os bs eo eb hb ho f n t =
    record {
      owned = record { in_bytes = hb; in_owners = ho; numbered = number };
      nine = n;
      texts = λ i h. t i h ∙ ap₂ (owned_by (suc i)) (sym eo) (sym eb);
    }
  where
    number : (k : ℕ) → k < u → IsStream (get_or o k 0)
    number k h =
        subst IsStream (ap (λ (l : List ℕ). get_or l k 0) (sym eo) ∙ get_or-take u o k 0 h) (f k (omega (arith, length-take u o, ap length eo)))

-- one text of nine is replaced: f says what each of them is
text_set : (ws : List Bytes) (i : ℕ) (w : Bytes) (f : ℕ → Bytes) → length ws ≡ 9 → IsStream i → w ≡ f i → ((j : ℕ) → j < 9 → (i ≡ suc j → ⊥) → get_or ws j [] ≡ f (suc j))
    → (j : ℕ) → j < 9 → get_or (set ws (i - 1) w) j [] ≡ f (suc j)
text_set ws i w f n s e g j h = go (ℕ_discrete i (suc j))
  where
    go : Dec (i ≡ suc j) → get_or (set ws (i - 1) w) j [] ≡ f (suc j)
    go (yes p) =
        let q : i - 1 ≡ j = omega arith in
        rw q (get_or-set_same ws j w [] (omega arith) ∙ e ∙ ap f p)
    go (no p) = get_or-set_other ws (i - 1) j w [] (λ q. p (omega (arith, s.low))) ∙ g j h p

module _ {b o : List ℕ} {u : ℕ} {ws : List Bytes} (m : StreamsIn b o u ws) (i : ℕ) (s : IsStream i) where
  pub text_of : get_or ws (i - 1) [] ≡ owned_by i (take u o) (take u b)
  text_of =
      let e : suc (i - 1) ≡ i = omega arith in
      m.texts (i - 1) (omega arith) ∙ ap (λ (n : ℕ). owned_by n (take u o) (take u b)) e

  pub length_of_lem : length (get_or ws (i - 1) []) ≡ owned_count i (take u o)
  length_of_lem = ap length text_of ∙ owned_length i (take u o) (take u b) (parts_long m.owned)

  -- stream i is taken out: what is in use then are the bytes and owners of the others
  pub compacted : (b' o' : List ℕ) (r : ℕ) → r ≤ length b' → r ≤ length o' → take r b' ≡ not_owned i (take u o) (take u b) → take r o' ≡ not_owned i (take u o) (take u o)
      → StreamsIn b' o' r (set ws (i - 1) [])
  compacted b' o' r hb ho eb eo =
      let os = take u o in
      let bs = take u b in
      let l : length os ≡ length bs = parts_long m.owned in
      in_use (not_owned i os os) (not_owned i os bs) eo eb hb ho (kept_all IsStream i os os (part_numbered m.owned)) (length-set ws (i - 1) [] ∙ m.nine)
      (text_set ws i [] (λ n. owned_by n (not_owned i os os) (not_owned i os bs)) m.nine s (sym (kept_gone i os bs l))
      (λ j h d. m.texts j h ∙ sym (kept_others i (suc j) d os bs l)))

  -- w is written behind what is in use, and belongs to stream i
  pub appended : (w b' o' : List ℕ) → u + length w ≤ length b' → u + length w ≤ length o' → take (u + length w) b' ≡ take u b ++ w → take (u + length w) o' ≡ take u o ++ replicate (length w) i
      → StreamsIn b' o' (u + length w) (extended i w ws)
  unfolding extended
  appended w b' o' hb ho eb eo =
      let os = take u o in
      let bs = take u b in
      let l : length os ≡ length bs = parts_long m.owned in
      in_use (os ++ replicate (length w) i) (bs ++ w) eo eb hb ho
      (all_append IsStream os (replicate (length w) i) (part_numbered m.owned) (λ k h. subst IsStream (sym (get_or-replicate (length w) k i 0 (omega (arith, length-replicate (length w) i)))) s))
      (length-set ws (i - 1) (get_or ws (i - 1) [] ++ w) ∙ m.nine)
      (text_set ws i (get_or ws (i - 1) [] ++ w) (λ n. owned_by n (os ++ replicate (length w) i) (bs ++ w)) m.nine s
      (ap₂ (λ (x y : List ℕ). x ++ y) text_of (sym (run_mine i w)) ∙ sym (owned_append i os (replicate (length w) i) bs w l))
      (λ j h d. m.texts j h ∙ sym (owned_append (suc j) os (replicate (length w) i) bs w l ∙ ap (λ (x : List ℕ). owned_by (suc j) os bs ++ x) (run_other i (suc j) d w) ∙ append-nil (owned_by (suc j) os bs))))

-- the same where w was written into both in its place
pub appended_at : {b o : List ℕ} {u : ℕ} {ws : List Bytes} → StreamsIn b o u ws → (i : ℕ) → IsStream i → {w b' o' : List ℕ} → Filled b u w b' → Filled o u (replicate (length w) i) o'
    → StreamsIn b' o' (u + length w) (extended i w ws)
appended_at {u = u} m i s {w} {b'} {o'} f g =
    let n = length-replicate (length w) i in
    appended m i s w b' o' (omega (arith, filled_long f, f.fits)) (omega (arith, filled_long g, g.fits, n)) (filled_front f)
    (ap (λ (k : ℕ). take (u + k) o') (sym n) ∙ filled_front g)

-- a stream that has no bytes is empty already, and moves nothing
pub nothing_out : (ws : List Bytes) (i : ℕ) → length (get_or ws (i - 1) []) ≡ 0 → set ws (i - 1) [] ≡ ws
nothing_out ws i h = ap (set ws (i - 1)) (sym (empty_of (get_or ws (i - 1) []) h)) ∙ set-get_or ws (i - 1) []

pub nothing-moved : (ws : List Bytes) (i j : ℕ) → length (get_or ws (i - 1) []) ≡ 0 → behind_stream i j ws ≡ ws
unfolding behind_stream
nothing-moved ws i j h =
    ap₂ (λ (x : List Bytes) (y : Bytes). set x (j - 1) (get_or ws (j - 1) [] ++ y)) (nothing_out ws i h) (empty_of (get_or ws (i - 1) []) h)
    ∙ ap (set ws (j - 1)) (append-nil (get_or ws (j - 1) []))
    ∙ set-get_or ws (j - 1) []

-- its text taken out, and put behind stream j
pub taken_behind : (ws : List Bytes) (i j : ℕ) (w : Bytes) → IsStream i → IsStream j → (i ≡ j → ⊥) → w ≡ get_or ws (i - 1) [] → extended j w (set ws (i - 1) []) ≡ behind_stream i j ws
unfolding extended behind_stream
taken_behind ws i j w s t d e =
    ap₂ (λ (x y : Bytes). set (set ws (i - 1) []) (j - 1) (x ++ y)) (get_or-set_other ws (i - 1) (j - 1) [] [] (λ q. d (omega (arith, s.low, t.low)))) e

pub carried : {b o b' o' : List ℕ} {u r : ℕ} {ws : List Bytes} → StreamsIn b o u ws → (i j kept : ℕ) (w : Bytes) → IsStream i → IsStream j → (i ≡ j → ⊥)
    → w ≡ owned_by i (take u o) (take u b) → kept + owned_count i (take u o) ≡ u → r ≡ kept + length w → StreamsIn b' o' r (extended j w (set ws (i - 1) []))
    → StreamsIn b' o' u (behind_stream i j ws)
carried {b} {o} {b'} {o'} {u} {r} {ws} m i j kept w s t d e f q x =
    let n : length w ≡ owned_count i (take u o) = ap length e ∙ owned_length i (take u o) (take u b) (parts_long m.owned) in
    let h : r ≡ u = omega arith in
    subst₂ (StreamsIn b' o') h (taken_behind ws i j w s t d (e ∙ sym (text_of m i s))) x

-- nothing is in use
pub none_held : (b o : List ℕ) → StreamsIn b o 0 nine_empty
unfolding owned_by
none_held b o =
    record {
      owned = record { in_bytes = omega arith; in_owners = omega arith; numbered = λ k h. absurd (omega arith) };
      nine = refl;
      texts = λ i h. get_or-replicate 9 i [] [] h;
    }

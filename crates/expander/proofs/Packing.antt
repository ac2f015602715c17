-- Laws of packed strings. Assumes nothing.
use Rattle.rules.proofs.Base.{◌≤◌, ◌+◌, ℕ, ◌-◌, ◌<◌, suc, zero, ◌∙◌, refl, sym, ap, ap₂, ◌≡◌, subst, List, [], ◌++◌, ◌∷◌, append_assoc, append-nil, add-zero, not-suc-le-zero, le_of_suc-le-suc, add_assoc, add-one, arith, length, drop, take, get_or, length-append, set, length-set, length-take, take-append-drop, length-take-le, get_or-take, take-suc-set, take-suc, take_at, drop_at, take-append_seam, drop-append_seam, set_split, take-take, take-set-lt, split_at}
use Rattle.rules.specs.Bytes.{Bytes, same_bytes}
use Rattle.rules.specs.Streams.{joined}
use Rattle.expander.specs.Packed.{ends_from, Packs, Formed, start_of, last_more, cut, strings_in}

-- strings one after the other, and their ends
pub joined-append : (ss ts : List Bytes) → joined (ss ++ ts) ≡ joined ss ++ joined ts
unfolding joined
joined-append [] ts = refl
joined-append (s ∷ ss) ts = rw (joined-append ss ts, append_assoc)

pub joined_one : (s : Bytes) → joined (s ∷ []) ≡ s
unfolding joined
joined_one s = append-nil s

pub ends_append : (at : ℕ) (ss ts : List Bytes) → ends_from at (ss ++ ts) ≡ ends_from at ss ++ ends_from (at + length (joined ss)) ts
unfolding joined ends_from
ends_append at [] ts = rw add-zero
ends_append at (s ∷ ss) ts = rw (ends_append (at + length s) ss ts, length-append, add_assoc)

pub length_ends : (at : ℕ) (ss : List Bytes) → length (ends_from at ss) ≡ length ss
unfolding ends_from
length_ends at [] = refl
length_ends at (s ∷ ss) = ap suc (length_ends (at + length s) ss)

pub take_ends : (k at : ℕ) (ss : List Bytes) → take k (ends_from at ss) ≡ ends_from at (take k ss)
unfolding ends_from
take_ends zero at ss = refl
take_ends (suc k) at [] = refl
take_ends (suc k) at (s ∷ ss) = rw (take_ends k (at + length s) ss)

pub drop_ends : (k at : ℕ) (ss : List Bytes) → drop k (ends_from at ss) ≡ ends_from (at + length (joined (take k ss))) (drop k ss)
unfolding joined ends_from
drop_ends zero at ss = rw add-zero
drop_ends (suc k) at [] = refl
drop_ends (suc k) at (s ∷ ss) = drop_ends k (at + length s) ss ∙ rw (length-append, add_assoc)

starts : (at : ℕ) (ss : List Bytes) (k : ℕ) → k ≤ length ss → get_or (at ∷ ends_from at ss) k 0 ≡ at + length (joined (take k ss))
unfolding joined ends_from
starts at ss zero h = sym (add-zero at)
starts at [] (suc k) h = absurd (not-suc-le-zero h)
starts at (s ∷ ss) (suc k) h = starts (at + length s) ss k (le_of_suc-le-suc h) ∙ rw (length-append, add_assoc)

-- the strings around string k
pub around : (ss : List Bytes) (k : ℕ) → k < length ss → joined ss ≡ joined (take k ss) ++ (get_or ss k [] ++ joined (drop (suc k) ss))
unfolding joined
around ss k h = ap joined (split_at ss k [] h) ∙ joined-append (take k ss) (get_or ss k [] ∷ drop (suc k) ss)

next_start : (ss : List Bytes) (k : ℕ) → k < length ss → length (joined (take (suc k) ss)) ≡ length (joined (take k ss)) + length (get_or ss k [])
next_start ss k h = rw (take-suc ss k [], joined-append, length-append, joined_one)

-- the last string grown
more_ends : (at : ℕ) (s : Bytes) (ss : List Bytes) (x : Bytes)
    → ends_from at (last_more (s ∷ ss) x) ≡ set (ends_from at (s ∷ ss)) (length ss) (at + length (joined (s ∷ ss)) + length x)
unfolding joined ends_from last_more
more_ends at s [] x = rw (append-nil, length-append, add_assoc)
more_ends at s (t ∷ ss) x =
    let e : at + length s + length (joined (t ∷ ss)) + length x ≡ at + length (joined (s ∷ t ∷ ss)) + length x = omega (arith, length-append s (joined (t ∷ ss))) in
    ap (λ (l : List ℕ). (at + length s) ∷ l) (more_ends (at + length s) t ss x ∙ ap (set (ends_from (at + length s) (t ∷ ss)) (length ss)) e)

more_joined : (s : Bytes) (ss : List Bytes) (x : Bytes) → joined (last_more (s ∷ ss) x) ≡ joined (s ∷ ss) ++ x
unfolding joined last_more
more_joined s [] x = rw (append-nil, append-nil)
more_joined s (t ∷ ss) x = ap (λ (l : Bytes). s ++ l) (more_joined t ss x) ∙ sym (append_assoc s (joined (t ∷ ss)) x)

-- a new string, filled
pub filled_last : (ss : List Bytes) (x : Bytes) → last_more (ss ++ ([] ∷ [])) x ≡ ss ++ (x ∷ [])
unfolding last_more
filled_last [] x = refl
filled_last (s ∷ []) x = refl
filled_last (s ∷ t ∷ ss) x = rw (filled_last (t ∷ ss) x)

-- what stands behind the strings, kept twice
pub kept_behind : (a b c : List ℕ) {m n : ℕ} → m ≡ n → drop m c ≡ drop m b → drop n b ≡ drop n a → drop n c ≡ drop n a
kept_behind a b c e f g = subst (λ (i : ℕ). drop i c ≡ drop i b) e f ∙ g

pub same_of : {a b x y : Bytes} → a ≡ x → b ≡ y → same_bytes a b ≡ same_bytes x y
same_of e f = rw (e, f)

-- strings are packed where their ends and bytes stand in front
pub packs : {ends : List ℕ} {count : ℕ} {bytes : Bytes} {used : ℕ} (ss : List Bytes) (es : List ℕ) (bs : Bytes)
    → ends ≡ ends_from 0 ss ++ es → bytes ≡ joined ss ++ bs → length ss ≡ count → length (joined ss) ≡ used → Packs ends count bytes used ss
packs {ends} {count} {bytes} {used} ss es bs ee eb ec eu = record {
  ends_are = ap (take count) ee ∙ take_at (ends_from 0 ss) es count (length_ends 0 ss ∙ ec);
  bytes_are = ap (take used) eb ∙ take_at (joined ss) bs used eu;
  count_in = omega (arith, ap length ee, length-append (ends_from 0 ss) es, length_ends 0 ss);
  used_in = omega (arith, ap length eb, length-append (joined ss) bs);
}

module _ {ends : List ℕ} {count : ℕ} {bytes : Bytes} {used : ℕ} {ss : List Bytes} (h : Packs ends count bytes used ss) where
  pub formed : Formed ends count bytes used
  formed = record { strings = ss; packs = h }

  pub bytes_split : bytes ≡ joined ss ++ drop used bytes
  bytes_split = sym (take-append-drop used bytes) ∙ ap (λ (l : Bytes). l ++ drop used bytes) h.bytes_are

  pub ends_split : ends ≡ ends_from 0 ss ++ drop count ends
  ends_split = sym (take-append-drop count ends) ∙ ap (λ (l : List ℕ). l ++ drop count ends) h.ends_are

  pub count_is : length ss ≡ count
  count_is = sym (length_ends 0 ss) ∙ ap length (sym h.ends_are) ∙ length-take-le count ends h.count_in

  pub used_is : length (joined ss) ≡ used
  used_is = ap length (sym h.bytes_are) ∙ length-take-le used bytes h.used_in

  pub start_is : (k : ℕ) → k ≤ count → start_of ends k ≡ length (joined (take k ss))
  unfolding start_of
  start_is k le =
      sym (get_or-take (suc count) (0 ∷ ends) k 0 (omega arith))
      ∙ ap (λ (l : List ℕ). get_or (0 ∷ l) k 0) h.ends_are
      ∙ starts 0 ss k (omega (arith, count_is))
      ∙ omega arith

  -- string k lies between its start and the next
  pub start_next : (k : ℕ) → k < count → start_of ends (suc k) ≡ start_of ends k + length (get_or ss k [])
  start_next k lt = omega (arith, start_is k (omega arith), start_is (suc k) lt, next_start ss k (omega (arith, count_is)))

  pub start_in_lem : (k : ℕ) → k ≤ count → start_of ends k ≤ used
  start_in_lem k le =
      omega (
        arith,
        start_is k le,
        used_is,
        ap length (joined-append (take k ss) (drop k ss)),
        length-append (joined (take k ss)) (joined (drop k ss)),
        ap (λ (l : List Bytes). length (joined l)) (take-append-drop k ss),
      )

  string_is : (k : ℕ) → k < count → take (start_of ends (suc k) - start_of ends k) (drop (start_of ends k) bytes) ≡ get_or ss k []
  string_is k lt =
      let e : start_of ends (suc k) - start_of ends k ≡ length (get_or ss k []) = omega (arith, start_next k lt) in
      let b : bytes ≡ joined (take k ss) ++ (get_or ss k [] ++ (joined (drop (suc k) ss) ++ drop used bytes)) =
      bytes_split ∙ rw (around ss k (omega (arith, count_is))) (simp append_assoc) in
      let d : drop (start_of ends k) bytes ≡ get_or ss k [] ++ (joined (drop (suc k) ss) ++ drop used bytes) =
      ap (drop (start_of ends k)) b ∙ drop_at (joined (take k ss)) _ _ (sym (start_is k (omega arith))) in
      rw (e, d, take-append_seam)

  -- a new string of no bytes
  pub pushed_empty : count < length ends → Packs (set ends count used) (count + 1) bytes used (ss ++ ([] ∷ []))
  unfolding joined ends_from
  pushed_empty lt = record {
    ends_are = rw (add-one, take-suc-set ends count used lt, h.ends_are, ends_append, used_is) (ap (λ (n : ℕ). ends_from 0 ss ++ (n ∷ [])) (omega arith));
    bytes_are = h.bytes_are ∙ sym (joined-append ss ([] ∷ []) ∙ append-nil (joined ss));
    count_in = rw length-set (omega arith);
    used_in = h.used_in;
  }

  -- the last string is longer by x, which stands behind the bytes as they were
  pub grown : (after x : Bytes) (n : ℕ) → 0 < count → length x ≡ n → take (used + n) after ≡ take used bytes ++ x
      → Packs (set ends (count - 1) (used + n)) count after (used + n) (last_more ss x)
  grown after x n pos ex eb = go ss refl
    where
      go : (ts : List Bytes) → ts ≡ ss → Packs (set ends (count - 1) (used + n)) count after (used + n) (last_more ts x)
      go [] e = absurd (omega (arith, count_is, ap length e))
      go (t ∷ ts) e =
          let k : count - 1 ≡ length ts = omega (arith, count_is, ap length e) in
          let m : 0 + length (joined (t ∷ ts)) + length x ≡ used + n = omega (arith, used_is, ap (λ (l : List Bytes). length (joined l)) e) in
          record {
            ends_are = take-set-lt count ends (count - 1) (used + n) (omega arith) ∙ rw (h.ends_are, more_ends, m, ← e, k);
            bytes_are = eb ∙ rw (h.bytes_are, more_joined, ← e);
            count_in = rw length-set h.count_in;
            used_in = omega (arith, ap length eb, length-append (take used bytes) x, length-take used bytes, length-take (used + n) after, h.used_in);
          }

  -- the first c strings
  pub front : (c : ℕ) → c ≤ count → Packs ends c bytes (start_of ends c) (take c ss)
  front c le =
      let b : bytes ≡ joined (take c ss) ++ (joined (drop c ss) ++ drop used bytes) =
      bytes_split ∙ ap (λ (l : List Bytes). joined l ++ drop used bytes) (sym (take-append-drop c ss)) ∙ rw (joined-append, append_assoc) in
      record {
        ends_are = sym (take-take c count ends le) ∙ ap (take c) h.ends_are ∙ take_ends c 0 ss;
        bytes_are = ap (take (start_of ends c)) b ∙ take_at (joined (take c ss)) _ _ (sym (start_is c le));
        count_in = omega (arith, h.count_in);
        used_in = omega (arith, start_in_lem c le, h.used_in);
      }

-- where string k lies: from a up to e
pub record Lies (bytes : Bytes) (used a e : ℕ) (x : Bytes) : Type 0 where
  pub ordered : a ≤ e
  pub inside : e ≤ used
  pub within : e ≤ length bytes
  pub long : e - a ≡ length x
  pub is : take (e - a) (drop a bytes) ≡ x

pub lies : {ends : List ℕ} {count : ℕ} {bytes : Bytes} {used : ℕ} {ss : List Bytes} → Packs ends count bytes used ss
    → (k a e : ℕ) → k < count → a ≡ start_of ends k → e ≡ start_of ends (k + 1) → Lies bytes used a e (get_or ss k [])
lies {ends} h k a e lt ea ee =
    let e' : e ≡ start_of ends (suc k) = ee ∙ ap (start_of ends) (add-one k) in
    let n = start_next h k lt in
    record {
      ordered = omega arith;
      inside = omega (arith, start_in_lem h (suc k) lt);
      within = omega (arith, start_in_lem h (suc k) lt, h.used_in);
      long = omega arith;
      is = rw (ea, e') (string_is h k lt);
    }

-- as the code reads a start
pub start_none : (ends : List ℕ) (k : ℕ) → k ≡ 0 → 0 ≡ start_of ends k
unfolding start_of
start_none ends k e = rw e

pub start_before : (ends : List ℕ) (k : ℕ) → (k ≡ 0 → ⊥) → get_or ends (k - 1) 0 ≡ start_of ends k
unfolding start_of
start_before ends zero ne = absurd (ne refl)
start_before ends (suc k) ne = ap (λ (n : ℕ). get_or ends n 0) (omega arith)

-- string k has as many bytes as its ends say
pub string_length : {ends : List ℕ} {count : ℕ} {bytes : Bytes} {used : ℕ} {ss ts : List Bytes} → Packs ends count bytes used ss → Packs ends count bytes used ts
    → (k : ℕ) → k < count → length (get_or ss k []) ≡ length (get_or ts k [])
string_length h g k lt = omega (arith, start_next h k lt, start_next g k lt)

pub string_fits : {ends : List ℕ} {count : ℕ} {bytes : Bytes} {used : ℕ} {ss : List Bytes} → Packs ends count bytes used ss → (k : ℕ) → k < count → length (get_or ss k []) ≤ used
string_fits h k lt = omega (arith, start_next h k lt, start_in_lem h (suc k) lt)

-- another string in the place of string k
pub length-replaced : (ss : List Bytes) (k : ℕ) (x : Bytes) → k < length ss → length (joined (set ss k x)) + length (get_or ss k []) ≡ length (joined ss) + length x
unfolding joined
length-replaced ss k x lt =
    let P = joined (take k ss) in
    let Q = joined (drop (suc k) ss) in
    omega (
      arith,
      ap length (around ss k lt),
      length-append P (get_or ss k [] ++ Q),
      length-append (get_or ss k []) Q,
      ap (λ (l : List Bytes). length (joined l)) (set_split ss k x lt),
      ap length (joined-append (take k ss) (x ∷ drop (suc k) ss)),
      length-append P (x ++ Q),
      length-append x Q,
    )

-- what is cut at the ends of packed strings are these
cut_all : (at : ℕ) (ss : List Bytes) (rest : Bytes) → cut at (ends_from at ss) (joined ss ++ rest) ≡ ss
unfolding cut joined ends_from
cut_all at [] rest = refl
cut_all at (s ∷ ss) rest =
    let e : at + length s - at ≡ length s = omega arith in
    rw (append_assoc, e, take-append_seam s (joined ss ++ rest), drop-append_seam s (joined ss ++ rest), cut_all (at + length s) ss rest)

pub strings_are : {ends : List ℕ} {count : ℕ} {bytes : Bytes} {used : ℕ} {ss : List Bytes} → Packs ends count bytes used ss → strings_in ends count bytes ≡ ss
unfolding strings_in
strings_are {bytes = bytes} {used} {ss} h =
    let b : bytes ≡ joined ss ++ drop used bytes = sym (take-append-drop used bytes) ∙ ap (λ (w : Bytes). w ++ drop used bytes) h.bytes_are in
    ap₂ (cut 0) h.ends_are b ∙ cut_all 0 ss (drop used bytes)

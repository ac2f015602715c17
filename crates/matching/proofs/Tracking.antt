-- Laws of borders, and of the two loops that go by them. Assumes nothing.
use Rattle.rules.proofs.Base.{◌≤◌, ◌+◌, ℕ, ◌-◌, ◌<◌, suc, zero, ◌∙◌, refl, sym, ap, ◌≡◌, subst, ⊎_elim, Some, None, List, eq-or-lt_of_le, arith, length, get_or, set, length-set, get_or-set_same, get_or-set_other}
use borrow.Author.Count.{below_more}
use Rattle.rules.specs.Bytes.{Bytes}
use Rattle.rules.specs.Tokens.{first_place}
use Rattle.matching.specs.Borders.{Stands, Longest, Bordered, GoesOn}
use Rattle.matching.proofs.Places.{place_found, place_none}

same_place : (t : Bytes) {m n : ℕ} → m ≡ n → get_or t m 0 ≡ get_or t n 0
same_place t e = ap (λ (x : ℕ). get_or t x 0) e

-- a shorter front; none; one byte more
shorter_front : {p t : Bytes} {k a j : ℕ} → Stands p t k a → j ≤ k → Stands p t j a
shorter_front w l = record { same = λ x h. w.same x (omega arith) }

empty_front : (p t : Bytes) (a : ℕ) → Stands p t 0 a
empty_front p t a = record { same = λ x h. absurd (omega arith) }

longer_front : {p t : Bytes} {k a : ℕ} → Stands p t k a → get_or p k 0 ≡ get_or t (a + k) 0 → Stands p t (k + 1) a
longer_front {p} {t} {k} {a} w e = record { same = below_more (λ (x : ℕ). get_or p x 0 ≡ get_or t (a + x) 0) k w.same e }

-- p's first k bytes stand at a, and f is their longest border
module _ {p t : Bytes} {k a f : ℕ} (w : Stands p t k a) (l : Longest p k f) where
  -- the border stands where it ends with them
  border_stands : Stands p t f (a + (k - f))
  border_stands =
      let s = l.shorter in
      record { same = λ x h. l.border.same x h ∙ w.same (k - f + x) (omega arith) ∙ same_place t (omega arith) }

  -- no front that begins in between reaches beyond them
  none_between : (b q : ℕ) → a < b → b < a + (k - f) → a + k ≤ q + b → Stands p t q b → ⊥
  none_between b q h i j v =
      l.longest (a + k - b) (omega arith) (omega arith)
      (record { same = λ x y. v.same x (omega arith) ∙ same_place t (omega arith) ∙ sym (w.same (k - (a + k - b) + x) (omega arith)) })

-- fewer fronts
pub fronts_to : {p : Bytes} {d : List ℕ} {n : ℕ} (k : ℕ) → Bordered p d n → k ≤ n → Bordered p d k
fronts_to k o h = record { front = λ j a b. o.front j a (omega arith) }

-- ---- back from border to border, until x goes on

-- p's first j bytes end with their first k, and no longer border of these goes on with x
pub record Falling (p : Bytes) (x j k : ℕ) : Type 0 where
  pub shorter : k ≤ j
  border : Stands p p k (j - k)
  ruled : (g : ℕ) → k < g → g ≤ j → Stands p p g (j - g) → get_or p g 0 ≡ x → ⊥

pub fall_start : (p : Bytes) (x j : ℕ) → Falling p x j j
fall_start p x j =
    record {
      shorter = omega arith;
      border = record { same = λ y h. same_place p (omega arith) };
      ruled = λ g h l. absurd (omega arith);
    }

module _ {p : Bytes} {x j k : ℕ} (w : Falling p x j k) where
  pub fall_border : {d : List ℕ} → Bordered p d j → 0 < k → Longest p k (get_or d (k - 1) 0)
  fall_border o z = let s = w.shorter in o.front k z (omega arith)

  pub fall_on : get_or p k 0 ≡ x → GoesOn p j x (k + 1)
  fall_on e =
      let s = w.shorter in
      record {
        within = omega arith;
        stands = λ f h. let m : k ≡ f = omega arith in subst (λ (y : ℕ). Stands p p y (j - y) × (get_or p y 0 ≡ x)) m (w.border, e);
        longest = λ g h l. w.ruled g (omega arith) l;
      }

  -- x does not follow
  module _ (n : get_or p k 0 ≡ x → ⊥) where
    -- nor does it a border of k bytes or more
    ruled_from : (g : ℕ) → k ≤ g → g ≤ j → Stands p p g (j - g) → get_or p g 0 ≡ x → ⊥
    ruled_from g h l v e =
        let longer : k < g → ⊥ = λ m. w.ruled g m l v e in
        n (same_place p (omega arith) ∙ e)

    pub fall_none : k ≡ 0 → GoesOn p j x 0
    fall_none z = record { within = omega arith; stands = λ f h. absurd (omega arith); longest = λ g h. ruled_from g (omega arith) }

    pub fall_back : {f : ℕ} → Longest p k f → Falling p x j f
    fall_back {f} l =
        let s = w.shorter in
        let t = l.shorter in
        let m : j - k + (k - f) ≡ j - f = omega arith in
        record {
          shorter = omega arith;
          border = subst (λ (a : ℕ). Stands p p f a) m (border_stands w.border l);
          ruled =
              λ g h o v e.
              let before : k ≤ g → ⊥ = λ i. ruled_from g i o v e in
              none_between w.border l (j - g) g (omega arith) (omega arith) (omega arith) v;
        }

-- ---- one step of either loop

-- p's first k bytes end at i in t; and at no place b before theirs, from `low` on, do its first q b bytes stand
record Tracked (p t : Bytes) (q : ℕ → ℕ) (low k i : ℕ) : Type 0 where
  reach : k ≤ i
  stands : Stands p t k (i - k)
  ruled : (b : ℕ) → low ≤ b → b < i - k → Stands p t (q b) b → ⊥

-- with the next byte r bytes end; and q b bytes from any place b of the k bytes reach beyond it
module _ {p t : Bytes} {q : ℕ → ℕ} {low k i r : ℕ} (w : Tracked p t q low k i) (o : GoesOn p k (get_or t i 0) r) where
  ends : Stands p t r (i + 1 - r)
  ends = go r refl
    where
      go : (m : ℕ) → m ≡ r → Stands p t m (i + 1 - m)
      go zero e = empty_front p t (i + 1 - 0)
      go (suc f) e =
          let h = o.within in
          let u = w.reach in
          let v = o.stands f (omega arith) in
          let front : Stands p t f (i - f) = record { same = λ x l. v.0.same x l ∙ w.stands.same (k - f + x) (omega arith) ∙ same_place t (omega arith) } in
          let m : f + 1 ≡ suc f = omega arith in
          let n : i - f ≡ i + 1 - suc f = omega arith in
          subst (λ (y : ℕ). Stands p t y (i + 1 - suc f)) m
          (subst (λ (a : ℕ). Stands p t (f + 1) a) n (longer_front front (v.1 ∙ same_place t (omega arith))))

  onward : ((b : ℕ) → i - k ≤ b → b ≤ i → i < q b + b) → Tracked p t q low r (i + 1)
  onward beyond =
      let h = o.within in
      let u = w.reach in
      record {
        reach = omega arith;
        stands = ends;
        ruled =
            λ b l m v.
            let before : b < i - k → ⊥ = λ n. w.ruled b l n v in
            let far = beyond b (omega arith) (omega arith) in
            o.longest (i - b) (omega arith) (omega arith)
            (record { same = λ x y. v.same x (omega arith) ∙ same_place t (omega arith) ∙ sym (w.stands.same (k - (i - b) + x) (omega arith)) })
            (v.same (i - b) (omega arith) ∙ same_place t (omega arith));
      }

-- ---- the search

-- k bytes end at i, and the whole of p stands at no place before theirs
pub record Searching (p t : Bytes) (k i : ℕ) : Type 0 where
  pub less : k < length p
  pub inside : i ≤ length t
  tracked : Tracked p t (λ b. length p) 0 k i

pub search_start : (p t : Bytes) → 0 < length p → Searching p t 0 0
search_start p t h =
    record {
      less = h;
      inside = omega arith;
      tracked = record { reach = omega arith; stands = empty_front p t (0 - 0); ruled = λ b l m. absurd (omega arith) };
    }

module _ {p t : Bytes} {k i : ℕ} (w : Searching p t k i) where
  pub search_lost : length t ≤ i → first_place p t ≡ None
  search_lost h =
      let l = w.less in
      let r = w.tracked.reach in
      place_none p t (λ b m. w.tracked.ruled b (omega arith) (omega arith))

  -- r bytes end with the next byte
  module _ {r : ℕ} (h : i < length t) (o : GoesOn p k (get_or t i 0) r) where
    next : Tracked p t (λ b. length p) 0 r (i + 1)
    next = let l = w.less in onward w.tracked o (λ b m n. omega arith)

    pub search_reach : r ≤ i + 1
    search_reach = next.reach

    pub search_on : (r ≡ length p → ⊥) → Searching p t r (i + 1)
    search_on n = let l = w.less in let m = o.within in record { less = omega arith; inside = omega arith; tracked = next }

    pub search_found : r ≡ length p → first_place p t ≡ Some (i + 1 - r)
    search_found n =
        let m = next.reach in
        place_found p t (i + 1 - r) (λ b. next.ruled b (omega arith)) (omega arith) (subst (λ (x : ℕ). Stands p t x (i + 1 - r)) n next.stands)

-- ---- the table of borders

widened : {p t : Bytes} {q r : ℕ → ℕ} {low k i : ℕ} → Tracked p t q low k i → ((b : ℕ) → q b ≤ r b) → Tracked p t r low k i
widened w l = record { reach = w.reach; stands = w.stands; ruled = λ b h m v. w.ruled b h m (shorter_front v (l b)) }

-- all of p's first n bytes were looked at
longest_tracked : {p : Bytes} {k n : ℕ} → Tracked p p (λ b. n - b) 1 k n → k < n → Longest p n k
longest_tracked w h =
    record { shorter = h; border = w.stands; longest = λ g l m v. w.ruled (_ - g) (omega arith) (omega arith) (shorter_front v (omega arith)) }

more_fronts : {p : Bytes} {d : List ℕ} {i : ℕ} (f : ℕ) → Bordered p d i → i < length d → Longest p (i + 1) f → Bordered p (set d i f) (i + 1)
more_fronts {p} {d} {i} f o h l = record { front = λ k a b. ⊎_elim (new k) (old k a) (eq-or-lt_of_le b) }
  where
    new : (k : ℕ) → k ≡ i + 1 → Longest p k (get_or (set d i f) (k - 1) 0)
    new k e =
        let g : k - 1 ≡ i = omega arith in
        rw (g, get_or-set_same d i f 0 h, e) l

    old : (k : ℕ) → 0 < k → k < i + 1 → Longest p k (get_or (set d i f) (k - 1) 0)
    old k a b =
        let g : k - 1 ≡ i → ⊥ = omega arith in
        rw (get_or-set_other d i (k - 1) f 0 g) (o.front k a (omega arith))

-- k bytes are a border of the first i, no longer one goes on with the next byte, and the table has the fronts up to i
pub record Filling (p : Bytes) (d : List ℕ) (k i : ℕ) : Type 0 where
  pub inside : i ≤ length p
  pub less : k < i
  pub room : length p ≤ length d
  tracked : Tracked p p (λ b. i + 1 - b) 1 k i
  pub fronts : Bordered p d i

pub fill_start : (p : Bytes) (d : List ℕ) → 0 < length p → length p ≤ length d → Filling p (set d 0 0) 0 1
fill_start p d h l =
    record {
      inside = h;
      less = omega arith;
      room = rw (length-set d 0 0) l;
      tracked = record { reach = omega arith; stands = empty_front p p (1 - 0); ruled = λ b m n. absurd (omega arith) };
      fronts =
          more_fronts {d = d} {i = 0} 0 (record { front = λ k m n. absurd (omega arith) }) (omega arith)
          (record { shorter = omega arith; border = empty_front p p (1 - 0); longest = λ g m n. absurd (omega arith) });
    }

module _ {p : Bytes} {d : List ℕ} {k i : ℕ} (w : Filling p d k i) where
  pub fill_done : length p ≤ i → Bordered p d (length p)
  fill_done h = record { front = λ j a b. w.fronts.front j a (omega arith) }

  -- the longest border of one byte more goes into the table
  pub fill_on : {r : ℕ} → i < length p → GoesOn p k (get_or p i 0) r → Filling p (set d i r) r (i + 1)
  fill_on {r} h o =
      let l = w.less in
      let m = o.within in
      let n = w.room in
      let v = onward w.tracked o (λ b a c. omega arith) in
      record {
        inside = omega arith;
        less = omega arith;
        room = rw (length-set d i r) n;
        tracked = widened v (λ b. omega arith);
        fronts = more_fronts r w.fronts (omega arith) (longest_tracked v (omega arith));
      }

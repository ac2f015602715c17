-- Laws of elements that are written over a list: copied into a part of it, or moved within it. Assumes nothing.
use Rattle.rules.proofs.Base.{◌≤◌, ◌+◌, ℕ, ◌-◌, ◌<◌, suc, zero, ◌∙◌, refl, sym, ap, ◌≡◌, List, [], ◌++◌, ◌∷◌, append_assoc, map, not-suc-le-zero, le_of_suc-le-suc, add-one, arith, length, drop, take, get_or, length-append, length-drop, set, length-set, length-take, take-append-drop, length-map, drop-drop, get_or-take, get_or-drop, take_at, paste, take-take, drop-append-add, get_or-append-add, paste-suc, take-length, paste-zero, length_paste_head}
use Rattle.expander.specs.Packed.{overlaid}
use Rattle.expander.proofs.Parts.{drop-take}

pub length-overlaid : (at : ℕ) (x l : List ℕ) → at + length x ≤ length l → length (overlaid at x l) ≡ length l
unfolding overlaid
length-overlaid at x l h =
    omega (arith, length-append (take at l) (x ++ drop (at + length x) l), length-append x (drop (at + length x) l), length-take at l, length-drop (at + length x) l)

-- up to the end of what was written, whatever stands behind it
pub take_filled : (at : ℕ) (x l rest : List ℕ) → at ≤ length l → take (at + length x) (take at l ++ (x ++ rest)) ≡ take at l ++ x
take_filled at x l rest h =
    let e : length (take at l ++ x) ≡ at + length x = omega (arith, length-append (take at l) x, length-take at l) in
    ap (take (at + length x)) (sym (append_assoc (take at l) x rest)) ∙ take_at (take at l ++ x) rest (at + length x) e

pub take-overlaid : (at : ℕ) (x l : List ℕ) → at ≤ length l → take (at + length x) (overlaid at x l) ≡ take at l ++ x
unfolding overlaid
take-overlaid at x l h = take_filled at x l (drop (at + length x) l) h

-- what stands behind it
pub drop-overlaid : (at : ℕ) (x l : List ℕ) (n : ℕ) → at + length x ≤ length l → at + length x ≤ n → drop n (overlaid at x l) ≡ drop n l
unfolding overlaid
drop-overlaid at x l n h k =
    let e : length (take at l ++ x) ≡ at + length x = omega (arith, length-append (take at l) x, length-take at l) in
    let f : length (take at l ++ x) + (n - (at + length x)) ≡ n = omega arith in
    let g : at + length x + (n - (at + length x)) ≡ n = omega arith in
    ap (drop n) (sym (append_assoc (take at l) x (drop (at + length x) l)))
    ∙ ap (λ (i : ℕ). drop i ((take at l ++ x) ++ drop (at + length x) l)) (sym f)
    ∙ drop-append-add (take at l ++ x) (drop (at + length x) l) (n - (at + length x))
    ∙ drop-drop (n - (at + length x)) (at + length x) l
    ∙ ap (λ (i : ℕ). drop i l) g

-- the elements from a place up to another
pub part_length : (l : List ℕ) (from end : ℕ) → end ≤ length l → length (drop from (take end l)) ≡ end - from
part_length l from end h = omega (arith, length-drop from (take end l), length-take end l)

pub part_read : (l : List ℕ) (from end j : ℕ) → from + j < end → get_or (drop from (take end l)) j 0 ≡ get_or l (from + j) 0
part_read l from end j h = get_or-drop from (take end l) j 0 ∙ get_or-take end l (from + j) 0 h

pub mapped_length : (f : ℕ → ℕ) (l : List ℕ) (from end : ℕ) → end ≤ length l → length (map f (drop from (take end l))) ≡ end - from
mapped_length f l from end h = length-map (drop from (take end l)) f ∙ part_length l from end h

map_read : (f : ℕ → ℕ) (l : List ℕ) (j : ℕ) → j < length l → get_or (map f l) j 0 ≡ f (get_or l j 0)
map_read f [] j h = absurd (not-suc-le-zero h)
map_read f (x ∷ xs) zero h = refl
map_read f (x ∷ xs) (suc j) h = map_read f xs j (le_of_suc-le-suc h)

pub mapped_read : (f : ℕ → ℕ) (l : List ℕ) (from end j : ℕ) → end ≤ length l → from + j < end → get_or (map f (drop from (take end l))) j 0 ≡ f (get_or l (from + j) 0)
mapped_read f l from end j h k = map_read f (drop from (take end l)) j (omega (arith, part_length l from end h)) ∙ ap f (part_read l from end j k)

-- from the front: the first j elements of s are written over d₀ from `to` on
pub record Fronted (d₀ : List ℕ) (to : ℕ) (s : List ℕ) (j : ℕ) (d : List ℕ) : Type 0 where
  pub is : d ≡ paste d₀ to s j
  pub long : length d ≡ length d₀
  pub room : to + length s ≤ length d₀
  pub some : j ≤ length s

pub front_none : (d : List ℕ) (to : ℕ) (s : List ℕ) → to + length s ≤ length d → Fronted d to s 0 d
front_none d to s h = record { is = paste-zero d to s; long = refl; room = h; some = omega arith }

module _ {d₀ : List ℕ} {to : ℕ} {s : List ℕ} {j : ℕ} {d : List ℕ} (h : Fronted d₀ to s j d) where
  -- what stands behind them is as it was
  pub behind : (i : ℕ) → to + j ≤ i → get_or d i 0 ≡ get_or d₀ i 0
  behind i hi =
      let e : length (take to d₀ ++ take j s) + (i - (to + j)) ≡ i =
      omega (arith, length_paste_head d₀ to s j (omega (arith, h.room)) h.some) in
      let f : to + j + (i - (to + j)) ≡ i = omega arith in
      ap (λ (l : List ℕ). get_or l i 0) h.is
      ∙ ap (λ (n : ℕ). get_or (paste d₀ to s j) n 0) (sym e)
      ∙ get_or-append-add (take to d₀ ++ take j s) (drop (to + j) d₀) (i - (to + j)) 0
      ∙ get_or-drop (to + j) d₀ (i - (to + j)) 0
      ∙ ap (λ (n : ℕ). get_or d₀ n 0) f

  pub one_more : (v : ℕ) → j < length s → v ≡ get_or s j 0 → Fronted d₀ to s (j + 1) (set d (to + j) v)
  one_more v k e = record {
    is = rw (h.is, e, add-one) (paste-suc d₀ to s j 0 (omega (arith, h.room)) k);
    long = length-set d (to + j) v ∙ h.long;
    room = h.room;
    some = omega arith;
  }

  pub all_there : length s ≤ j → d ≡ overlaid to s d₀
  unfolding overlaid
  all_there k =
      let e : j ≡ length s = omega (arith, h.some) in
      h.is ∙ rw (e, take-length) (append_assoc (take to d₀) s (drop (to + length s) d₀))

-- what `copy_within` leaves: a part of the list written over it
pub moved_at : (l : List ℕ) (to from end : ℕ) → end ≤ length l → paste l to (drop from l) (end - from) ≡ overlaid to (drop from (take end l)) l
unfolding overlaid
moved_at l to from end h =
    rw (part_length l from end h, drop-take from end l) (append_assoc (take to l) (take (end - from) (drop from l)) (drop (to + (end - from)) l))

-- a part that stays where it is
pub unmoved_at : (l : List ℕ) (to from end : ℕ) → to ≡ from → from ≤ end → end ≤ length l → l ≡ overlaid to (drop from (take end l)) l
unfolding overlaid
unmoved_at l to from end et h k =
    let e : from + length (drop from (take end l)) ≡ end = omega (arith, part_length l from end k) in
    sym (take-append-drop end l)
    ∙ ap (λ (x : List ℕ). x ++ drop end l) (sym (take-append-drop from (take end l)))
    ∙ append_assoc (take from (take end l)) (drop from (take end l)) (drop end l)
    ∙ rw (take-take from end l h, et, e)

-- A text written into a buffer at a place.
use Rattle.rules.proofs.Base.{◌≤◌, ◌+◌, ℕ, ◌-◌, ◌∙◌, sym, ap, ◌≡◌, subst, List, [], ◌++◌, ◌∷◌, append_assoc, add-one, arith, length, drop, take, length-append, set, length-take, replicate, take-append-drop, length-replicate, length-take-le, drop-drop, drop_at, set_split}
use borrow.Rule.Slice.PartMut.{put_mid}
use Rattle.rules.specs.Bytes.{Bytes}
use Rattle.expander.specs.Filled.{Filled}
use Rattle.expander.specs.Packed.{overlaid}
use Rattle.expander.specs.Front.{Front}
use Rattle.expander.proofs.Overwriting.{drop-overlaid, take-overlaid, length-overlaid}
use Rattle.expander.proofs.Parts.{part_long}

module _ {before : Bytes} {at : ℕ} {w after : Bytes} (f : Filled before at w after) where
  -- what stood in front still does, and the text stands behind it
  pub filled_front : take (at + length w) after ≡ take at before ++ w
  unfolding overlaid
  filled_front = ap (take (at + length w)) f.is ∙ take-overlaid at w before (omega (arith, f.fits))

  pub filled_long : length after ≡ length before
  unfolding overlaid
  filled_long = ap length f.is ∙ length-overlaid at w before f.fits

  -- from its place on
  pub filled_from : drop at after ≡ w ++ drop (at + length w) before
  filled_from =
      ap (drop at) f.is ∙ drop_at (take at before) (w ++ drop (at + length w) before) at (length-take-le at before (omega (arith, f.fits)))

  -- and what stands behind it is as it was
  pub filled_behind : (n : ℕ) → at + length w ≤ n → drop n after ≡ drop n before
  unfolding overlaid
  filled_behind n h = ap (drop n) f.is ∙ drop-overlaid at w before n f.fits h

pub filled_nothing : (d : Bytes) (a : ℕ) → a ≤ length d → Filled d a [] d
filled_nothing d a h =
    let e : a + 0 ≡ a = omega arith in
    record { fits = omega arith; is = rw (e, take-append-drop) }

-- a text, and another right behind it
pub filled_then : {a v b w c : Bytes} {i : ℕ} → Filled a i v b → Filled b (i + length v) w c → Filled a i (v ++ w) c
filled_then {a} {v} {b} {w} {c} {i} f g =
    let e : i + length v + length w ≡ i + length (v ++ w) = omega (arith, length-append v w) in
    record {
      fits = omega (arith, g.fits, filled_long f);
      is =
          g.is
          ∙ rw (filled_front f, filled_behind f (i + length v + length w) (omega arith), e)
          (append_assoc (take i a) v (w ++ drop (i + length (v ++ w)) a) ∙ ap (λ (l : Bytes). take i a ++ l) (sym (append_assoc v w (drop (i + length (v ++ w)) a))));
    }

-- the same where the place behind the first is known by an equation
pub filled_next : {a v b w c : Bytes} {i j : ℕ} → Filled a i v b → j ≡ i + length v → Filled b j w c → Filled a i (v ++ w) c
filled_next {b = b} {w = w} {c = c} f e g = filled_then f (subst (λ (k : ℕ). Filled b k w c) e g)

-- a text behind the one at the front
pub front_more : {buffer after : Bytes} {n : ℕ} {w x : Bytes} → Front buffer n w → Filled buffer n x after → Front after (n + length x) (w ++ x)
front_more {x = x} f g =
    record { text_is = filled_front g ∙ ap (λ (l : Bytes). l ++ x) f.text_is; inside = omega (arith, filled_long g, g.fits) }

-- a part of a slice that a function filled
pub part_fills : (d w : Bytes) (a e : ℕ) → a + length w ≡ e → e ≤ length d → Filled d a w (put_mid a (e - a) d w)
part_fills d w a e k h =
    let f : a + (e - a) ≡ a + length w = omega arith in
    record {
      fits = omega arith;
      is = ap (λ (l : Bytes). take a d ++ (w ++ l)) (drop-drop (e - a) a d ∙ ap (λ (i : ℕ). drop i d) f);
    }

-- a byte that was stored
pub byte_fills : (d : Bytes) (a x : ℕ) → a + 1 ≤ length d → Filled d a (x ∷ []) (set d a x)
byte_fills d a x h =
    let l : a + 1 ≤ length d = h in
    record { fits = omega arith; is = set_split d a x (omega arith) ∙ ap (λ (k : ℕ). take a d ++ (x ∷ drop k d)) (sym (add-one a)) }

-- as a copying function leaves it: y is what the part of d from a on holds then
module _ (d y : Bytes) (a n : ℕ) (fits : a + n ≤ length d) where
  part_size : length (take (a + n - a) (drop a d)) ≡ n
  part_size = omega (arith, part_long d a (a + n) fits)

  pub fills_front : (xs : Bytes) → n ≤ length xs → y ≡ take (length (take (a + n - a) (drop a d))) xs → Filled d a (take n xs) (put_mid a (a + n - a) d y)
  fills_front xs h e =
      let w : y ≡ take n xs = e ∙ ap (λ (k : ℕ). take k xs) part_size in
      rw w (part_fills d (take n xs) a (a + n) (omega (arith, length-take n xs)) fits)

-- owners as they are marked
pub owned_fills :
    (owners owned : List ℕ) (at n i : ℕ) → at + n ≤ length owners → owned ≡ take at owners ++ (replicate n i ++ drop (at + n) owners)
    → Filled owners at (replicate n i) owned
owned_fills owners owned at n i h e =
    record { fits = omega (arith, length-replicate n i); is = e ∙ rw (length-replicate n i) }

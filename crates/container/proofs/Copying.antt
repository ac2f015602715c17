-- Copying bytes, and those of an item part by part. Assumes nothing.
use Rattle.rules.proofs.Base.{◌≤◌, ◌+◌, ℕ, ◌-◌, ◌<◌, suc, ◌/◌, ◌%◌, min, ◌∙◌, sym, ap, ◌≡◌, ap₂, true, false, Some, None, Option, ◌++◌, append-nil, add-one, arith, leb, length, drop, take, get_or, length-drop, length-take-le, set, length-set, get_or-drop, take_at, take-add, drop-drop, drop-length, drop-append-add, drop-append_seam, take-length, paste, paste-suc, le-leb, lt-leb}
use lib.Seq.{length-paste}
use Rattle.rules.specs.Bytes.{Bytes}
use Rattle.rules.specs.Sets.{item_read}
use Rattle.rules.specs.Contract.{fronted}
use Rattle.container.specs.declared.Item.{Item as Measured}
use Rattle.container.specs.Items.{item_at, joined_at, text_at, fits, laid, Copied}
use Rattle.container.proofs.Items.{Stands, nothing_at, joined_is, Piece, joined_piece}

-- the first i of n bytes are copied over a slice
pub record Running (w : Bytes) (from : ℕ) (lent : Bytes) (to n : ℕ) (d : Bytes) (i : ℕ) : Type 0 where
  pub within : i ≤ n
  pub long : length d ≡ length lent
  pub is : d ≡ paste lent to (drop from w) i

module _ {w : Bytes} {from : ℕ} {lent : Bytes} {to n : ℕ} {d : Bytes} {i : ℕ} (r : Running w from lent to n d i) where
  pub run_on : from + n ≤ length w → to + n ≤ length lent → i < n → Running w from lent to n (set d (to + i) (get_or w (from + i) 0)) (i + 1)
  run_on h k more =
      record {
        within = omega arith;
        long = length-set d (to + i) (get_or w (from + i) 0) ∙ r.long;
        is =
            ap₂ (λ (l : Bytes) (x : ℕ). set l (to + i) x) r.is (sym (get_or-drop from w i 0))
            ∙ paste-suc lent to (drop from w) i 0 (omega arith) (omega (arith, length-drop from w))
            ∙ ap (paste lent to (drop from w)) (sym (add-one i));
      }

  pub run_done : n ≤ i → d ≡ paste lent to (drop from w) n
  run_done h = let e : i ≡ n = omega (arith, r.within) in r.is ∙ ap (paste lent to (drop from w)) e

-- the first k bytes behind the first `skip` of an item's name and text, joined, stand in a slice
pub record Copying (set : Bytes) (place skip : ℕ) (lent d : Bytes) (k : ℕ) : Type 0 where
  pub room : skip + length lent ≤ length (joined_at set place)
  pub within : k ≤ length lent
  pub long : length d ≡ length lent
  pub is : d ≡ take k (drop skip (joined_at set place)) ++ drop k lent

module _ {set : Bytes} {place skip : ℕ} {lent d : Bytes} {k : ℕ} (c : Copying set place skip lent d k) where
  abbrev text : Bytes
  text = drop skip (joined_at set place)

  pub copy_done : length lent ≤ k → d ≡ take (length lent) text
  copy_done h =
      let e : k ≡ length lent = omega (arith, c.within) in
      c.is ∙ ap (λ (n : ℕ). take n text ++ drop n lent) e ∙ ap (λ (l : Bytes). take (length lent) text ++ l) (drop-length lent) ∙ append-nil (take (length lent) text)

  -- the next piece: up to the end of its chunk, or of the slice
  module _ (more : k < length lent) {n from : ℕ} (size : n ≡ min (128 - (skip + k) % 128) (length lent - k)) (e : from ≡ place + 9 + suc (skip + k + (skip + k) / 128)) where
    piece : Piece set place (skip + k) n from
    piece = joined_piece set place (skip + k) n (omega arith) (omega arith) (omega (arith, c.room)) e

    pub copy_inside : from + n ≤ length set
    copy_inside = piece.inside

    pub copy_on : {d' : Bytes} → d' ≡ paste d k (drop from set) n → Copying set place skip lent d' (k + n)
    copy_on p =
        let front : length (take k text) ≡ k = length-take-le k text (omega (arith, c.room, length-drop skip (joined_at set place))) in
        let before : take k d ≡ take k text = ap (take k) c.is ∙ take_at (take k text) (drop k lent) k front in
        let behind : drop (k + n) d ≡ drop (k + n) lent = ap₂ (λ (m : ℕ) (x : Bytes). drop (m + n) x) (sym front) c.is ∙ drop-append-add (take k text) (drop k lent) n ∙ drop-drop n k lent in
        let next : take n (drop from set) ≡ take n (drop k text) = piece.is ∙ ap (take n) (sym (drop-drop k skip (joined_at set place))) in
        record {
          room = c.room;
          within = omega arith;
          long = ap length p ∙ length-paste d k (drop from set) n (omega (arith, c.long)) (omega (arith, copy_inside, length-drop from set)) ∙ c.long;
          is = p ∙ ap₂ (λ (x y : Bytes). x ++ y) (ap₂ (λ (x y : Bytes). x ++ y) before next ∙ sym (take-add k n text)) behind;
        }

-- ---- the text of the item at a place

module _ (set : Bytes) (place : ℕ) (lent : Bytes) where
  -- by what is read there
  no_text : item_read (drop place set) ≡ None → text_at set place ≡ None
  unfolding text_at
  no_text e = rw (e, text_at)

  pub not_copied : None ≡ item_at set place → Copied set place lent false lent
  unfolding fits laid
  not_copied e =
      let n = no_text (nothing_at set place e) in
      record { answer = sym (ap (λ (o : Option Bytes). fits o (length lent)) n); slice = sym (ap (λ (o : Option Bytes). laid o lent) n) }

module _ {set : Bytes} {place : ℕ} {m : Measured} (r : Stands set place m) (lent : Bytes) where
  text_is : text_at set place ≡ Some r.item.text
  unfolding text_at
  text_is = rw (r.read, text_at)

  pub too_short : length lent < m.text → Copied set place lent false lent
  unfolding fits laid
  too_short h =
      let l : leb (length r.item.text) (length lent) ≡ false = lt-leb (length r.item.text) (length lent) (omega (arith, r.text_long)) in
      record {
        answer = sym (ap (λ (o : Option Bytes). fits o (length lent)) text_is ∙ l);
        slice = sym (ap (λ (o : Option Bytes). laid o lent) text_is ∙ rw (l, laid));
      }

  -- d is what was copied behind the name
  pub copied : m.text ≤ length lent → {d : Bytes} → d ≡ take (length (take m.text lent)) (drop m.name (joined_at set place)) → Copied set place lent true (d ++ drop m.text lent)
  unfolding fits laid fronted
  copied h {d} e =
      let l : leb (length r.item.text) (length lent) ≡ true = le-leb (length r.item.text) (length lent) (omega (arith, r.text_long)) in
      let n : length (take m.text lent) ≡ length r.item.text = length-take-le m.text lent h ∙ r.text_long in
      let behind : drop m.name (joined_at set place) ≡ r.item.text = ap₂ (λ (k : ℕ) (x : Bytes). drop k x) r.name_long (joined_is r) ∙ drop-append_seam r.item.name r.item.text in
      let is : d ≡ r.item.text = e ∙ ap₂ (λ (k : ℕ) (x : Bytes). take k x) n behind ∙ take-length r.item.text in
      record {
        answer = sym (ap (λ (o : Option Bytes). fits o (length lent)) text_is ∙ l);
        slice = ap₂ (λ (x : Bytes) (k : ℕ). x ++ drop k lent) is r.text_long ∙ sym (ap (λ (o : Option Bytes). laid o lent) text_is ∙ rw (l, laid));
      }

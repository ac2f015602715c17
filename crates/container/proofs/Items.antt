-- The item at a place: how it is read, and where its bytes stand. Assumes nothing.
use Rattle.rules.proofs.Base.{◌≤◌, ◌+◌, ℕ, ◌-◌, ◌<◌, suc, ◌/◌, ◌%◌, ◌∙◌, refl, sym, ap, ◌≡◌, ap₂, subst, Some, None, Option, none-some, same_Some, [], ◌++◌, arith, length, drop, take, get_or, length-append, length-drop, length-take, drop-append_seam, drop-drop, get_or-take}
use Rattle.std.specs.Option.{option_map}
use Rattle.rules.specs.Bytes.{Bytes}
use Rattle.rules.specs.Chunks.{least_first, Carried, chunks_read, chunked}
use Rattle.rules.specs.Sets.{item_kind, Item, ItemRead, parted, item_read}
use Rattle.rules.proofs.Sets.{names_in, texts_in, item_short, item_other, item_body, item_parts, chunks_length, chunk_part}
use Rattle.container.specs.declared.Item.{Item as Measured}
use Rattle.container.specs.Items.{item_at, joined_at}
use Rattle.container.proofs.Reading.{first_at, behind}

-- ---- reading it

-- what an item is where its chunks end there
abbrev pub ends_at : ℕ → ℕ → Option ℕ → Option Measured
ends_at name text o = option_map (λ (end : ℕ). record { name = name; text = text; end = end }) o

-- where there is none
module _ (set : Bytes) (place : ℕ) where
  at_none : item_read (drop place set) ≡ None → None ≡ item_at set place
  unfolding item_at
  at_none e = rw (e, item_at)

  pub item_beyond : length set - place < 9 → None ≡ item_at set place
  item_beyond h = at_none (item_short (drop place set) (omega (arith, length-drop place set)))

  pub item_not : (get_or set place 0 ≡ item_kind → ⊥) → None ≡ item_at set place
  item_not ne = at_none (item_other (drop place set) (λ e. ne (sym (first_at set place) ∙ e)))

  -- where its kind and lengths stand there
  module _ (room : 9 ≤ length set - place) (kind : get_or set place 0 ≡ item_kind) {name text : ℕ}
      (names : name ≡ least_first (take 4 (drop (place + 1) set))) (texts : text ≡ least_first (take 4 (drop (place + 5) set))) where
    body : item_read (drop place set) ≡ parted name (chunks_read (name + text) (drop (place + 9) set))
    body =
        let n : names_in (drop place set) ≡ name = ap (λ (l : Bytes). least_first (take 4 l)) (drop-drop 1 place set) ∙ sym names in
        let t : texts_in (drop place set) ≡ text = ap (λ (l : Bytes). least_first (take 4 l)) (drop-drop 5 place set) ∙ sym texts in
        item_body (drop place set) (omega (arith, length-drop place set)) (first_at set place ∙ kind)
        ∙ ap₂ (λ (a b : ℕ). parted a (chunks_read (a + b) (drop 9 (drop place set)))) n t
        ∙ ap (λ (l : Bytes). parted name (chunks_read (name + text) l)) (drop-drop 9 place set)

    parted_ends : (o : Option Carried) → chunks_read (name + text) (drop (place + 9) set) ≡ o → item_read (drop place set) ≡ parted name o → ends_at name text (behind (length set) o) ≡ item_at set place
    unfolding parted item_at
    parted_ends None e p = at_none p
    parted_ends (Some c) e p =
        let n : length c.bytes ≡ name + text = chunks_length (name + text) (drop (place + 9) set) e in
        let front : name ≡ length (take name c.bytes) = omega (arith, length-take name c.bytes) in
        let back : text ≡ length (drop name c.bytes) = omega (arith, length-drop name c.bytes) in
        ap₂ (λ (a b : ℕ). ends_at a b (Some (length set - length c.rest))) front back ∙ rw (p, item_at)

    pub item_ends : {r : Option ℕ} → r ≡ behind (length set) (chunks_read (name + text) (drop (place + 9) set)) → ends_at name text r ≡ item_at set place
    item_ends e = ap (ends_at name text) e ∙ parted_ends _ refl body

-- ---- what was read

-- an item stands at a place: its name and text, and what is behind it
pub record Stands (set : Bytes) (place : ℕ) (m : Measured) : Type 0 where
  pub item : Item
  pub read : item_read (drop place set) ≡ Some (record { item = item; rest = drop m.end set })
  pub name_long : m.name ≡ length item.name
  pub text_long : m.text ≡ length item.text
  pub longer : place + 9 ≤ m.end
  pub inside : m.end ≤ length set

module _ (set : Bytes) (place : ℕ) where
  -- the bytes behind its kind and body
  joined_chunks : {r : ItemRead} → item_read (drop place set) ≡ Some r → drop (place + 9) set ≡ chunked (r.item.name ++ r.item.text) ++ r.rest
  joined_chunks e = sym (drop-drop 9 place set) ∙ (item_parts (drop place set) e).chunks

  -- what is left is behind the place where it ends
  module _ {r : ItemRead} (e : item_read (drop place set) ≡ Some r) where
    abbrev end : ℕ
    end = length set - length r.rest

    form_long : length set ≡ place + 9 + (length (chunked (r.item.name ++ r.item.text)) + length r.rest)
    form_long =
        omega (arith, (item_parts (drop place set) e).long, length-drop place set, length-drop (place + 9) set, simp length-append at (ap length (joined_chunks e)))

    pub rest_is : r.rest ≡ drop end set
    rest_is =
        let form : Bytes = chunked (r.item.name ++ r.item.text) in
        let n : place + 9 + length form ≡ end = omega (arith, form_long) in
        sym (drop-append_seam form r.rest) ∙ ap (drop (length form)) (sym (joined_chunks e)) ∙ drop-drop (length form) (place + 9) set ∙ ap (λ (m : ℕ). drop m set) n

    stands_read : Stands set place (record { name = length r.item.name; text = length r.item.text; end = end })
    stands_read =
        record {
          item = r.item;
          read = e ∙ ap (λ (l : Bytes). Some (record { item = r.item; rest = l })) rest_is;
          name_long = refl;
          text_long = refl;
          longer = omega (arith, form_long);
          inside = omega arith;
        }

  -- what the answer tells
  stands_of : (o : Option ItemRead) → item_read (drop place set) ≡ o → (m : Measured) → Some m ≡ item_at set place → Stands set place m
  unfolding item_at
  stands_of None e m h = absurd (none-some m (sym (h ∙ rw (e, item_at))))
  stands_of (Some r) e m h = subst (Stands set place) (sym (same_Some m _ (h ∙ rw (e, item_at)))) (stands_read e)

  pub stands_at : {m : Measured} → Some m ≡ item_at set place → Stands set place m
  stands_at h = stands_of (item_read (drop place set)) refl _ h

  nothing_of : (o : Option ItemRead) → item_read (drop place set) ≡ o → None ≡ item_at set place → item_read (drop place set) ≡ None
  unfolding item_at
  nothing_of None e h = e
  nothing_of (Some r) e h = let b : item_at set place ≡ Some (record { name = length r.item.name; text = length r.item.text; end = length set - length r.rest }) = rw (e, item_at) in cc

  pub nothing_at : None ≡ item_at set place → item_read (drop place set) ≡ None
  nothing_at h = nothing_of (item_read (drop place set)) refl h

module _ {set : Bytes} {place : ℕ} {m : Measured} (r : Stands set place m) where
  pub joined_is : joined_at set place ≡ r.item.name ++ r.item.text
  unfolding joined_at
  joined_is = rw (r.read, joined_at)

  pub joined_long : length (joined_at set place) ≡ m.name + m.text
  joined_long = ap length joined_is ∙ length-append r.item.name r.item.text ∙ omega (arith, r.name_long, r.text_long)

-- ---- where its bytes stand

-- n bytes of its name and text, joined, from the one with number j on
pub record Piece (set : Bytes) (place j n from : ℕ) : Type 0 where
  pub inside : from + n ≤ length set
  pub is : take n (drop from set) ≡ take n (drop j (joined_at set place))

module _ (set : Bytes) (place j : ℕ) where
  abbrev from : ℕ
  from = place + 9 + suc (j + j / 128)

  module _ (n : ℕ) (some_bytes : 0 < n) (one_Chunk : j % 128 + n ≤ 128) (room : j + n ≤ length (joined_at set place)) where
    piece_is : (o : Option ItemRead) → item_read (drop place set) ≡ o → take n (drop from set) ≡ take n (drop j (joined_at set place))
    unfolding joined_at
    piece_is None e =
        let z : joined_at set place ≡ [] = rw (e, joined_at) in
        absurd (omega (arith, ap length z))
    piece_is (Some r) e =
        let b : joined_at set place ≡ r.item.name ++ r.item.text = rw (e, joined_at) in
        ap (take n) (sym (drop-drop (suc (j + j / 128)) (place + 9) set) ∙ ap (drop (suc (j + j / 128))) (joined_chunks set place e))
        ∙ chunk_part (r.item.name ++ r.item.text) r.rest j n some_bytes one_Chunk (omega (arith, ap length b))
        ∙ ap (λ (l : Bytes). take n (drop j l)) (sym b)

    piece : Piece set place j n from
    piece =
        let same = piece_is (item_read (drop place set)) refl in
        record { inside = omega (arith, simp (length-take, length-drop) at (ap length same)); is = same }

  -- those that lie in one chunk
  pub joined_piece : (n : ℕ) → 0 < n → j % 128 + n ≤ 128 → j + n ≤ length (joined_at set place) → {at : ℕ} → at ≡ from → Piece set place j n at
  joined_piece n p h k e = rw e (piece n p h k)

  -- one byte
  pub joined_byte : j < length (joined_at set place) → {at : ℕ} → at ≡ from → (at < length set) × (get_or set at 0 ≡ get_or (joined_at set place) j 0)
  joined_byte h {at} e =
      let p = joined_piece 1 (omega arith) (omega arith) (omega arith) e in
      let first : (l : Bytes) (i : ℕ) → get_or (take 1 (drop i l)) 0 0 ≡ get_or l i 0 = λ l i. get_or-take 1 (drop i l) 0 0 (omega arith) ∙ first_at l i in
      (omega (arith, p.inside), sym (first set at) ∙ ap (λ (l : Bytes). get_or l 0 0) p.is ∙ first (joined_at set place) j)

-- Texts in chunks, items and sets: what is read was written so, and what is written is read back. So a set has one form (02, request 1). Assumes nothing.
use Rattle.rules.proofs.Base.{◌≤◌, ◌+◌, ℕ, ◌-◌, ◌<◌, suc, zero, ◌*◌, ◌/◌, ◌%◌, ◌^◌, min, ◌∙◌, refl, sym, ap, ◌≡◌, ap₂, subst, true, Bool, false, ◌&&◌, and-eq-true_iff, Some, None, Option, none-some, same_Some, List, [], ◌++◌, ◌∷◌, append_assoc, pow-suc, ℕ_discrete, dec_lt, arith, eqb, leb, length, drop, take, get_or, length-append, length-drop, length-take, length-take-le, List·getD-eq-default, take-append-drop, drop-drop, take-append-le, drop-append-le, drop-append-add, take-append_seam, drop-append_seam, take_at, drop_at, get_or-drop, get_or-take, eq-eqb, ne_eqb, eqb-true, le-leb, lt-leb, leb-true}
use Rattle.rules.specs.Bytes.{Bytes, same_bytes}
use Rattle.rules.specs.Chunks.{least_first, bytes_least_first, chunk_kind, Carried, and_byte, carried, chunks_read, chunked_from, chunked}
use Rattle.rules.specs.Sets.{end_kind, item_kind, longest_set, Item, ItemRead, parted, body_read, item_read, is_end, and_item, items_from, set_items, item_text, item_form, set_form}
use Rattle.rules.proofs.SameBytes.{same_self, same_is, not_same}

-- ---- reading chunks

-- a chunk carries no more than is still to come
kind_fits : (owed : ℕ) → chunk_kind owed ≤ owed
unfolding chunk_kind
kind_fits owed = omega arith

-- bytes read in a row, before what is read behind them
unfoldable pub and_bytes : Bytes → Option Carried → Option Carried
and_bytes [] o = o
and_bytes (x ∷ xs) o = and_byte x (and_bytes xs o)

no_bytes : (owed : ℕ) → 0 < owed → carried [] owed 0 ≡ None
unfolding carried
no_bytes zero h = absurd (omega arith)
no_bytes (suc owed) h = refl

-- at a kind: it is the one that is due, or nothing is read
kind_read : (kind : ℕ) (w : Bytes) (owed : ℕ) → 0 < owed → kind ≡ chunk_kind owed → carried (kind ∷ w) owed 0 ≡ carried w owed kind
unfolding carried
kind_read kind w zero h e = absurd (omega arith)
kind_read kind w (suc owed) h e = rw (eq-eqb _ _ e, carried)

kind_other : (kind : ℕ) (w : Bytes) (owed : ℕ) → 0 < owed → (kind ≡ chunk_kind owed → ⊥) → carried (kind ∷ w) owed 0 ≡ None
unfolding carried
kind_other kind w zero h e = absurd (omega arith)
kind_other kind w (suc owed) h e = rw (ne_eqb _ _ e, carried)

-- inside a chunk: where its bytes stand there, they are read, and then a kind
chunk_read : (w : Bytes) (owed left : ℕ) → left ≤ owed → left ≤ length w → carried w owed left ≡ and_bytes (take left w) (carried (drop left w) (owed - left) 0)
unfolding and_bytes carried
chunk_read w owed zero h k = ap (λ (n : ℕ). carried w n 0) (omega arith)
chunk_read [] owed (suc left) h k = absurd (omega arith)
chunk_read (x ∷ w) zero (suc left) h k = absurd (omega arith)
chunk_read (x ∷ w) (suc owed) (suc left) h k =
    let n : owed - left ≡ suc owed - suc left = omega arith in
    ap (and_byte x) (chunk_read w owed left (omega arith) (omega arith))
    ∙ ap (λ (m : ℕ). and_byte x (and_bytes (take left w) (carried (drop left w) m 0))) n

-- where they don't, nothing is read
chunk_lacks : (w : Bytes) (owed left : ℕ) → left ≤ owed → length w < left → carried w owed left ≡ None
unfolding carried and_byte
chunk_lacks w owed zero h k = absurd (omega arith)
chunk_lacks w zero (suc left) h k = absurd (omega arith)
chunk_lacks [] (suc owed) (suc left) h k = refl
chunk_lacks (x ∷ w) (suc owed) (suc left) h k = ap (and_byte x) (chunk_lacks w owed left (omega arith) (omega arith))

-- so a whole chunk: it is the one that is due and its bytes stand there, or nothing is read
module _ (owed kind : ℕ) (more : 0 < owed) (due : kind ≡ chunk_kind owed) where
  pub turn_other : (w : Bytes) → (get_or w 0 0 ≡ kind → ⊥) → chunks_read owed w ≡ None
  unfolding chunks_read carried
  turn_other [] ne = no_bytes owed more
  turn_other (x ∷ w) ne = kind_other x w owed more (λ e. ne (e ∙ sym due))

  pub turn_short : (w : Bytes) → length w ≤ kind → chunks_read owed w ≡ None
  unfolding chunks_read
  turn_short [] h = no_bytes owed more
  turn_short (x ∷ w) h = go (ℕ_discrete x (chunk_kind owed))
    where
      go : Dec (x ≡ chunk_kind owed) → carried (x ∷ w) owed 0 ≡ None
      go (yes e) = kind_read x w owed more e ∙ chunk_lacks w owed x (omega (arith, kind_fits owed)) (omega arith)
      go (no ne) = kind_other x w owed more ne

  pub turn_on : (w : Bytes) → kind < length w → get_or w 0 0 ≡ kind → chunks_read owed w ≡ and_bytes (take kind (drop 1 w)) (chunks_read (owed - kind) (drop (suc kind) w))
  unfolding chunks_read
  turn_on [] h e = absurd (omega arith)
  turn_on (x ∷ w) h e =
      kind_read x w owed more (e ∙ due)
      ∙ ap (carried w owed) e
      ∙ chunk_read w owed kind (omega (arith, kind_fits owed)) (omega arith)

-- ---- writing chunks

-- a text in chunks begins with a kind
chunk_begun : (b : Bytes) → 0 < length b → chunked b ≡ chunk_kind (length b) ∷ chunked_from b (chunk_kind (length b))
unfolding chunked chunked_from chunk_kind
chunk_begun [] h = absurd (omega arith)
chunk_begun (x ∷ b) h =
    let n : suc (min (suc (length b)) 128 - 1) ≡ min (suc (length b)) 128 = omega arith in
    ap (λ (m : ℕ). min (suc (length b)) 128 ∷ chunked_from (x ∷ b) m) n

-- and inside a chunk its bytes stand as they are
chunk_bytes : (b : Bytes) (left : ℕ) → chunked_from b left ≡ take left b ++ chunked (drop left b)
unfolding chunked chunked_from
chunk_bytes [] zero = refl
chunk_bytes [] (suc left) = refl
chunk_bytes (x ∷ b) zero = refl
chunk_bytes (x ∷ b) (suc left) = ap (λ (l : Bytes). x ∷ l) (chunk_bytes b left)

-- ---- chunks that were read are written so

-- what was read has as many bytes as were to come, and written it is what it was read from
abbrev Wrote : Bytes → ℕ → ℕ → Option Carried → Type 0
Wrote w owed left None = Unit {0}
Wrote w owed left (Some c) = (length c.bytes ≡ owed) × (w ≡ chunked_from c.bytes left ++ c.rest)

wrote_kind : (w : Bytes) (owed kind : ℕ) (o : Option Carried) → kind ≡ chunk_kind (suc owed) → Wrote w (suc owed) kind o → Wrote (kind ∷ w) (suc owed) 0 o
unfolding chunked
wrote_kind w owed kind None e h = tt
wrote_kind w owed kind (Some c) e h =
    let n : length c.bytes ≡ suc owed = h.0 in
    let k : kind ≡ chunk_kind (length c.bytes) = e ∙ ap chunk_kind (sym n) in (
      n,
      ap (λ (l : Bytes). kind ∷ l) h.1
          ∙ ap (λ (m : ℕ). m ∷ chunked_from c.bytes m ++ c.rest) k
          ∙ ap (λ (l : Bytes). l ++ c.rest) (sym (chunk_begun c.bytes (omega arith))),
    )

wrote_byte : (x : ℕ) (w : Bytes) (owed left : ℕ) (o : Option Carried) → Wrote w owed left o → Wrote (x ∷ w) (suc owed) (suc left) (and_byte x o)
unfolding and_byte chunked_from
wrote_byte x w owed left None h = tt
wrote_byte x w owed left (Some c) h = (ap suc h.0, ap (λ (l : Bytes). x ∷ l) h.1)

wrote : (w : Bytes) (owed left : ℕ) → Wrote w owed left (carried w owed left)
unfolding carried chunked_from
wrote [] zero zero = (refl, refl)
wrote [] zero (suc left) = tt
wrote [] (suc owed) left = tt
wrote (x ∷ w) zero zero = (refl, refl)
wrote (x ∷ w) zero (suc left) = tt
wrote (kind ∷ w) (suc owed) zero = go (eqb kind (chunk_kind (suc owed))) refl (wrote w (suc owed) kind)
  where
    go : (t : Bool) → eqb kind (chunk_kind (suc owed)) ≡ t → Wrote w (suc owed) kind (carried w (suc owed) kind) → Wrote (kind ∷ w) (suc owed) 0 (elim t [ true ↦ carried w (suc owed) kind | false ↦ None ])
    go true e h = wrote_kind w owed kind (carried w (suc owed) kind) (eqb-true _ _ e) h
    go false e h = tt
wrote (x ∷ w) (suc owed) (suc left) = wrote_byte x w owed left (carried w owed left) (wrote w owed left)

module _ (n : ℕ) (w : Bytes) {c : Carried} (e : chunks_read n w ≡ Some c) where
  read_form : Wrote w n 0 (Some c)
  unfolding chunks_read
  read_form = subst (Wrote w n 0) e (wrote w n 0)

  pub chunks_length : length c.bytes ≡ n
  chunks_length = read_form.0

  pub chunks_form : w ≡ chunked c.bytes ++ c.rest
  unfolding chunked
  chunks_form = read_form.1

-- ---- chunks that were written are read back

pub none_owed : (rest : Bytes) → chunks_read 0 rest ≡ Some (record { bytes = []; rest = rest })
unfolding chunks_read carried
none_owed [] = refl
none_owed (x ∷ rest) = refl

written_back : (b rest : Bytes) (left : ℕ) → left ≤ length b → carried (chunked_from b left ++ rest) (length b) left ≡ Some (record { bytes = b; rest = rest })
unfolding chunks_read carried chunked_from and_byte chunk_kind
written_back [] rest zero h = none_owed rest
written_back [] rest (suc left) h = absurd (omega arith)
written_back (x ∷ b) rest zero h =
    let kind : ℕ = chunk_kind (suc (length b)) in
    let n : suc (kind - 1) ≡ kind = omega arith in
    kind_read kind (x ∷ chunked_from b (kind - 1) ++ rest) (suc (length b)) (omega arith) refl
    ∙ ap (carried (x ∷ chunked_from b (kind - 1) ++ rest) (suc (length b))) (sym n)
    ∙ ap (and_byte x) (written_back b rest (kind - 1) (omega arith))
written_back (x ∷ b) rest (suc left) h = ap (and_byte x) (written_back b rest left (omega arith))

pub chunks_back : (b rest : Bytes) → chunks_read (length b) (chunked b ++ rest) ≡ Some (record { bytes = b; rest = rest })
unfolding chunks_read chunked
chunks_back b rest = written_back b rest 0 (omega arith)

-- ---- where the bytes of a text stand in its chunks

-- a part that lies in the first of two
front_part : (j n : ℕ) (p q : Bytes) → j + n ≤ length p → take n (drop j (p ++ q)) ≡ take n (drop j p)
front_part j n p q h = ap (take n) (drop-append-le j p q (omega arith)) ∙ take-append-le n (drop j p) q (omega (arith, length-drop j p))

chunk_first : (b rest : Bytes) (kind : ℕ) → 0 < length b → kind ≡ chunk_kind (length b)
    → chunked b ++ rest ≡ kind ∷ (take kind b ++ (chunked (drop kind b) ++ rest))
chunk_first b rest kind h e =
    ap (λ (l : Bytes). l ++ rest) (chunk_begun b h)
    ∙ ap (λ (m : ℕ). m ∷ chunked_from b m ++ rest) (sym e)
    ∙ ap (λ (l : Bytes). kind ∷ l ++ rest) (chunk_bytes b kind)
    ∙ ap (λ (l : Bytes). kind ∷ l) (append_assoc (take kind b) (chunked (drop kind b)) rest)

-- r bytes behind so many full chunks: each of these has a kind too, and so has the chunk that they are in
part_behind : (turns : ℕ) (b rest : Bytes) (r n : ℕ) → 0 < n → r + n ≤ 128 → turns * 128 + r + n ≤ length b
    → take n (drop (suc (turns * 128 + r + turns)) (chunked b ++ rest)) ≡ take n (drop (turns * 128 + r) b)
unfolding chunk_kind
part_behind zero b rest r n p h k =
    let kind : ℕ = min (length b) 128 in
    let begin : zero * 128 + r + zero ≡ r = omega arith in
    let same : zero * 128 + r ≡ r = omega arith in
    let inside : r + n ≤ length (take kind b) = omega (arith, length-take kind b) in
    ap₂ (λ (m : ℕ) (l : Bytes). take n (drop (suc m) l)) begin (chunk_first b rest kind (omega arith) refl)
    ∙ front_part r n (take kind b) (chunked (drop kind b) ++ rest) inside
    ∙ sym (front_part r n (take kind b) (drop kind b) inside)
    ∙ ap₂ (λ (m : ℕ) (l : Bytes). take n (drop m l)) (sym same) (take-append-drop kind b)
part_behind (suc turns) b rest r n p h k =
    let full : length (take 128 b) ≡ 128 = length-take 128 b ∙ omega arith in
    let begin : suc turns * 128 + r + suc turns ≡ length (take 128 b) + suc (turns * 128 + r + turns) = omega arith in
    let end : 128 + (turns * 128 + r) ≡ suc turns * 128 + r = omega arith in
    ap₂ (λ (m : ℕ) (l : Bytes). take n (drop (suc m) l)) begin (chunk_first b rest 128 (omega arith) (omega arith))
    ∙ ap (take n) (drop-append-add (take 128 b) (chunked (drop 128 b) ++ rest) (suc (turns * 128 + r + turns)))
    ∙ part_behind turns (drop 128 b) rest r n p h (omega (arith, length-drop 128 b))
    ∙ ap (take n) (drop-drop (turns * 128 + r) 128 b)
    ∙ ap (λ (m : ℕ). take n (drop m b)) end

-- n bytes that lie in one chunk
pub chunk_part : (b rest : Bytes) (j n : ℕ) → 0 < n → j % 128 + n ≤ 128 → j + n ≤ length b
    → take n (drop (suc (j + j / 128)) (chunked b ++ rest)) ≡ take n (drop j b)
chunk_part b rest j n p h k =
    let e : j / 128 * 128 + j % 128 ≡ j = omega arith in
    subst (λ (m : ℕ). take n (drop (suc (m + j / 128)) (chunked b ++ rest)) ≡ take n (drop m b)) e
    (part_behind (j / 128) b rest (j % 128) n p h (omega arith))

-- ---- an item

-- the lengths that stand in its body
abbrev pub names_in : Bytes → ℕ
names_in w = least_first (take 4 (drop 1 w))

abbrev pub texts_in : Bytes → ℕ
texts_in w = least_first (take 4 (drop 5 w))

pub item_short : (w : Bytes) → length w < 9 → item_read w ≡ None
unfolding item_read
item_short [] h = refl
item_short (kind ∷ w) h = go (eqb kind item_kind)
  where
    go : (t : Bool) → ◌≡◌ {A = Option ItemRead} (elim (t && leb 8 (length w)) [ true ↦ body_read w | false ↦ None ]) None
    go true = rw (lt-leb 8 (length w) (omega arith))
    go false = refl

pub item_other : (w : Bytes) → (get_or w 0 0 ≡ item_kind → ⊥) → item_read w ≡ None
unfolding item_read
item_other [] h = refl
item_other (kind ∷ w) h = rw (ne_eqb _ _ h, item_read)

pub item_body : (w : Bytes) → 9 ≤ length w → get_or w 0 0 ≡ item_kind → item_read w ≡ parted (names_in w) (chunks_read (names_in w + texts_in w) (drop 9 w))
unfolding item_read body_read
item_body [] h e = absurd (omega arith)
item_body (kind ∷ w) h e = rw (eq-eqb _ _ e, le-leb 8 (length w) (omega arith), item_read)

-- what an item that was read tells of the bytes
pub record Parts (w : Bytes) (r : ItemRead) : Type 0 where
  pub long : 9 ≤ length w
  pub kind : get_or w 0 0 ≡ item_kind
  pub name_long : length r.item.name ≡ names_in w
  pub text_long : length r.item.text ≡ texts_in w
  pub chunks : drop 9 w ≡ chunked (r.item.name ++ r.item.text) ++ r.rest

abbrev Told : Bytes → Option ItemRead → Type 0
Told w None = Unit {0}
Told w (Some r) = Parts w r

told : (w : Bytes) → Told w (item_read w)
unfolding item_read body_read parted
told [] = tt
told (kind ∷ w) = go (eqb kind item_kind && leb 8 (length w)) refl
  where
    read : (eqb kind item_kind ≡ true) × (leb 8 (length w) ≡ true) → (o : Option Carried) → chunks_read (names_in (kind ∷ w) + texts_in (kind ∷ w)) (drop 8 w) ≡ o → Told (kind ∷ w) (parted (names_in (kind ∷ w)) o)
    read h None e = tt
    read h (Some c) e =
        let l : 8 ≤ length w = leb-true _ _ h.1 in
        let n : length c.bytes ≡ names_in (kind ∷ w) + texts_in (kind ∷ w) = chunks_length _ _ e in
        record {
          long = omega arith;
          kind = eqb-true _ _ h.0;
          name_long = omega (arith, length-take (names_in (kind ∷ w)) c.bytes);
          text_long = omega (arith, length-drop (names_in (kind ∷ w)) c.bytes);
          chunks = chunks_form _ _ e ∙ ap (λ (l : Bytes). chunked l ++ c.rest) (sym (take-append-drop (names_in (kind ∷ w)) c.bytes));
        }

    go : (t : Bool) → (eqb kind item_kind && leb 8 (length w)) ≡ t → Told (kind ∷ w) (elim t [ true ↦ body_read w | false ↦ None ])
    go true e = read ((and-eq-true_iff (eqb kind item_kind) (leb 8 (length w))).0 e) (chunks_read (names_in (kind ∷ w) + texts_in (kind ∷ w)) (drop 8 w)) refl
    go false e = tt

pub item_parts : (w : Bytes) {r : ItemRead} → item_read w ≡ Some r → Parts w r
item_parts w e = subst (Told w) e (told w)

-- ---- a set

pub end_ends : is_end (end_kind ∷ []) ≡ true
unfolding is_end
end_ends = same_self (end_kind ∷ [])

pub end_is : (w : Bytes) → is_end w ≡ true → w ≡ end_kind ∷ []
unfolding is_end
end_is w e = same_is w (end_kind ∷ []) e

pub not_end : (w : Bytes) → (w ≡ end_kind ∷ [] → ⊥) → is_end w ≡ false
unfolding is_end
not_end w ne = not_same w (end_kind ∷ []) ne

-- its items, one after the other: the end, or an item that can't be read, or one more
pub items_end : (most : ℕ) (w : Bytes) → is_end w ≡ true → items_from (suc most) w ≡ Some []
unfolding items_from
items_end most w e = rw (e, items_from)

pub items_bad : (most : ℕ) (w : Bytes) → is_end w ≡ false → item_read w ≡ None → items_from (suc most) w ≡ None
unfolding items_from
items_bad most w e h = rw (e, h, items_from)

pub items_more : (most : ℕ) (w : Bytes) → is_end w ≡ false → {r : ItemRead} → item_read w ≡ Some r → items_from (suc most) w ≡ and_item r.item (items_from most r.rest)
unfolding items_from
items_more most w e h = rw (e, h, items_from)

-- so the items that were read are none, or the first and those behind it
pub data Items (most : ℕ) (w : Bytes) : List Item → Type 0 where
  ended : is_end w ≡ true → Items most w []
  begun : {r : ItemRead} {is : List Item} → is_end w ≡ false → item_read w ≡ Some r → items_from most r.rest ≡ Some is → Items most w (r.item ∷ is)

pub items_of : (most : ℕ) (w : Bytes) {is : List Item} → items_from (suc most) w ≡ Some is → Items most w is
unfolding and_item
items_of most w {is} e = go (is_end w) refl
  where
    more : (r : ItemRead) → is_end w ≡ false → item_read w ≡ Some r → (o : Option (List Item)) → items_from most r.rest ≡ o → and_item r.item o ≡ Some is → Items most w is
    more r h k None l a = absurd (none-some is a)
    more r h k (Some js) l a = subst (Items most w) (same_Some (r.item ∷ js) is a) (begun h k l)

    item : is_end w ≡ false → (o : Option ItemRead) → item_read w ≡ o → Items most w is
    item h None k = absurd (none-some is (sym (items_bad most w h k) ∙ e))
    item h (Some r) k = more r h k (items_from most r.rest) refl (sym (items_more most w h k) ∙ e)

    go : (t : Bool) → is_end w ≡ t → Items most w is
    go true h = subst (Items most w) (same_Some [] is (sym (items_end most w h) ∙ e)) (ended h)
    go false h = item h (item_read w) refl

pub items_none : (w : Bytes) (is : List Item) → items_from 0 w ≡ Some is → ⊥
unfolding items_from
items_none w is e = none-some is e

pub set_read : (w : Bytes) {is : List Item} → set_items w ≡ Some is → (length w ≤ longest_set) × (items_from (length w) w ≡ Some is)
unfolding set_items
set_read w {is} e = go (leb (length w) longest_set) refl e
  where
    go : (t : Bool) → leb (length w) longest_set ≡ t → elim t [ true ↦ items_from (length w) w | false ↦ None ] ≡ Some is → (length w ≤ longest_set) × (items_from (length w) w ≡ Some is)
    go true l h = (leb-true _ _ l, h)
    go false l h = absurd (none-some is h)

-- ---- numbers, least byte first

length_bytes : (count n : ℕ) → length (bytes_least_first count n) ≡ count
unfolding bytes_least_first
length_bytes zero n = refl
length_bytes (suc count) n = ap suc (length_bytes count (n / 256))

number_back : (count n : ℕ) → n < 256 ^ count → least_first (bytes_least_first count n) ≡ n
unfolding least_first bytes_least_first
number_back zero n h = omega arith
number_back (suc count) n h = let e = number_back count (n / 256) (omega (arith, pow-suc 256 count)) in omega arith

-- each is a byte, as in every slice of bytes
abbrev pub AreBytes : Bytes → Type 0
AreBytes w = (i : ℕ) → get_or w i 0 < 256

bytes_back : (w : Bytes) → AreBytes w → bytes_least_first (length w) (least_first w) ≡ w
unfolding least_first bytes_least_first
bytes_back [] b = refl
bytes_back (x ∷ w) b =
    let l = b 0 in
    let first : (x + 256 * least_first w) % 256 ≡ x = omega arith in
    let more : (x + 256 * least_first w) / 256 ≡ least_first w = omega arith in
    ap₂ (λ (a n : ℕ). a ∷ bytes_least_first (length w) n) first more ∙ ap (λ (l : Bytes). x ∷ l) (bytes_back w (λ i. b (suc i)))

-- ---- a set that was written is read back

-- a text in chunks is no shorter
longer_from : (b : Bytes) (left : ℕ) → length b ≤ length (chunked_from b left)
unfolding chunked_from
longer_from [] left = omega arith
longer_from (x ∷ b) zero = let h = longer_from b (chunk_kind (suc (length b)) - 1) in omega arith
longer_from (x ∷ b) (suc left) = let h = longer_from b left in omega arith

chunked-longer : (b : Bytes) → length b ≤ length (chunked b)
unfolding chunked
chunked-longer b = longer_from b 0

module _ (i : Item) (rest : Bytes) where
  abbrev names : Bytes
  names = bytes_least_first 4 (length i.name)

  abbrev texts : Bytes
  texts = bytes_least_first 4 (length i.text)

  abbrev written : Bytes
  written = item_form i ++ rest

  abbrev behind : Bytes
  behind = chunked (i.name ++ i.text) ++ rest

  joined_form : written ≡ item_kind ∷ (names ++ (texts ++ behind))
  unfolding item_form
  joined_form =
      ap (λ (l : Bytes). item_kind ∷ l)
      (append_assoc names (texts ++ chunked (i.name ++ i.text)) rest ∙ ap (λ (l : Bytes). names ++ l) (append_assoc texts (chunked (i.name ++ i.text)) rest))

  form_long : 9 + (length i.name + length i.text) + length rest ≤ length written
  form_long =
      let l : length written ≡ suc (length names + (length texts + (length (chunked (i.name ++ i.text)) + length rest))) = ap length joined_form ∙ simp length-append in
      omega (arith, length_bytes 4 (length i.name), length_bytes 4 (length i.text), chunked-longer (i.name ++ i.text), length-append i.name i.text)

  module _ (name_short : length i.name < 2 ^ 32) (text_short : length i.text < 2 ^ 32) where
    behind_names : drop 5 written ≡ texts ++ behind
    behind_names = ap (drop 5) joined_form ∙ drop_at names (texts ++ behind) 4 (length_bytes 4 (length i.name))

    names_read : names_in written ≡ length i.name
    names_read =
        ap (λ (l : Bytes). least_first (take 4 (drop 1 l))) joined_form
        ∙ ap least_first (take_at names (texts ++ behind) 4 (length_bytes 4 (length i.name)))
        ∙ number_back 4 (length i.name) name_short

    texts_read : texts_in written ≡ length i.text
    texts_read =
        ap (λ (l : Bytes). least_first (take 4 l)) behind_names
        ∙ ap least_first (take_at texts behind 4 (length_bytes 4 (length i.text)))
        ∙ number_back 4 (length i.text) text_short

    rest_read : drop 9 written ≡ behind
    rest_read = sym (drop-drop 4 5 written) ∙ ap (drop 4) behind_names ∙ drop_at texts behind 4 (length_bytes 4 (length i.text))

    item_back : item_read written ≡ Some (record { item = i; rest = rest })
    unfolding parted
    item_back =
        let n : ℕ = length i.name in
        let t : ℕ = length i.text in
        item_body written (omega (arith, form_long)) (ap (λ (l : Bytes). get_or l 0 0) joined_form)
        ∙ ap₂ (λ (a b : ℕ). parted a (chunks_read (a + b) (drop 9 written))) names_read texts_read
        ∙ ap₂ (λ (m : ℕ) (l : Bytes). parted n (chunks_read m l)) (sym (length-append i.name i.text)) rest_read
        ∙ ap (parted n) (chunks_back (i.name ++ i.text) rest)
        ∙ ap₂ (λ (a b : Bytes). Some (record { item = record { name = a; text = b }; rest = rest })) (take-append_seam i.name i.text) (drop-append_seam i.name i.text)

form_back : (most : ℕ) (is : List Item) → length (set_form is) ≤ most → length (set_form is) ≤ longest_set → items_from most (set_form is) ≡ Some is
unfolding set_form and_item
form_back zero [] h k = absurd (omega arith)
form_back (suc most) [] h k = items_end most (end_kind ∷ []) end_ends
form_back zero (i ∷ is) h k = absurd (omega (arith, form_long i (set_form is)))
form_back (suc most) (i ∷ is) h k =
    let l = form_long i (set_form is) in
    items_more most (item_form i ++ set_form is) (not_end (item_form i ++ set_form is) (λ e. omega (arith, ap length e))) (item_back i (set_form is) (omega arith) (omega arith))
    ∙ ap (and_item i) (form_back most is (omega arith) (omega arith))

-- the form of items, where it is not too long for a set, is a good set with these items
pub set_form_read : (is : List Item) → length (set_form is) ≤ longest_set → set_items (set_form is) ≡ Some is
unfolding set_items
set_form_read is h = rw (le-leb (length (set_form is)) longest_set h, set_items) (form_back (length (set_form is)) is (omega arith) h)

-- ---- a set that was read is written so

bytes_drop : (n : ℕ) (w : Bytes) → AreBytes w → AreBytes (drop n w)
bytes_drop n w b i = omega (arith, get_or-drop n w i 0, b (n + i))

bytes_take : (n : ℕ) (w : Bytes) → AreBytes w → AreBytes (take n w)
bytes_take n w b i = go (dec_lt i n)
  where
    go : Dec (i < n) → get_or (take n w) i 0 < 256
    go (yes h) = omega (arith, get_or-take n w i 0 h, b i)
    go (no h) = omega (arith, List·getD-eq-default (take n w) 0 {n = i} (omega (arith, length-take n w)))

four_back : (w : Bytes) → AreBytes w → 4 ≤ length w → bytes_least_first 4 (least_first (take 4 w)) ≡ take 4 w
four_back w b h =
    ap (λ (n : ℕ). bytes_least_first n (least_first (take 4 w))) (sym (length-take-le 4 w h)) ∙ bytes_back (take 4 w) (bytes_take 4 w b)

split_form : (w : Bytes) → 9 ≤ length w → w ≡ get_or w 0 0 ∷ (take 4 (drop 1 w) ++ (take 4 (drop 5 w) ++ drop 9 w))
split_form [] h = absurd (omega arith)
split_form (x ∷ w) h =
    ap (λ (l : Bytes). x ∷ l)
    (sym (take-append-drop 4 w)
    ∙ ap (λ (l : Bytes). take 4 w ++ l) (sym (take-append-drop 4 (drop 4 w)) ∙ ap (λ (l : Bytes). take 4 (drop 4 w) ++ l) (drop-drop 4 4 w)))

item_form_lem : (w : Bytes) → AreBytes w → {r : ItemRead} → item_read w ≡ Some r → w ≡ item_form r.item ++ r.rest
item_form_lem w b {r} e =
    let p = item_parts w e in
    let n : bytes_least_first 4 (length r.item.name) ≡ take 4 (drop 1 w) = ap (bytes_least_first 4) p.name_long ∙ four_back (drop 1 w) (bytes_drop 1 w b) (omega (arith, p.long, length-drop 1 w)) in
    let t : bytes_least_first 4 (length r.item.text) ≡ take 4 (drop 5 w) = ap (bytes_least_first 4) p.text_long ∙ four_back (drop 5 w) (bytes_drop 5 w b) (omega (arith, p.long, length-drop 5 w)) in
    split_form w p.long
    ∙ ap₂ (λ (k : ℕ) (l : Bytes). k ∷ (take 4 (drop 1 w) ++ (take 4 (drop 5 w) ++ l))) p.kind p.chunks
    ∙ ap₂ (λ (a c : Bytes). item_kind ∷ (a ++ (c ++ (chunked (r.item.name ++ r.item.text) ++ r.rest)))) (sym n) (sym t)
    ∙ sym (joined_form r.item r.rest)

items_form : (most : ℕ) (w : Bytes) → AreBytes w → (is : List Item) → items_from most w ≡ Some is → w ≡ set_form is
unfolding set_form
items_form zero w b is e = absurd (items_none w is e)
items_form (suc most) w b is e = go is (items_of most w e) (λ v c js. items_form most v c js)
  where
    go : (is : List Item) → Items most w is → ((v : Bytes) → AreBytes v → (js : List Item) → items_from most v ≡ Some js → v ≡ set_form js) → w ≡ set_form is
    go [] (ended h) f = end_is w h
    go (i ∷ js) (begun {r} h k l) f =
        let form = item_form_lem w b k in
        let n : ℕ = length (item_form r.item) in
        let bytes : AreBytes r.rest = subst AreBytes (ap (drop n) form ∙ drop-append_seam (item_form r.item) r.rest) (bytes_drop n w b) in
        form ∙ ap (λ (v : Bytes). item_form r.item ++ v) (f r.rest bytes js l)

-- a set has one form: a good set is the form of its items
pub set_one_form : (w : Bytes) → AreBytes w → {is : List Item} → set_items w ≡ Some is → w ≡ set_form is
set_one_form w b {is} e = items_form (length w) w b is (set_read w e).1

-- ---- names

-- "The first of two items with one name counts": more items behind change nothing
pub first_counts : (w : Bytes) (is js : List Item) {t : Bytes} → item_text w is ≡ Some t → item_text w (is ++ js) ≡ Some t
unfolding item_text
first_counts w [] js {t} e = absurd (none-some t e)
first_counts w (i ∷ is) js {t} e = go (same_bytes w i.name) e (first_counts w is js)
  where
    go : (b : Bool) → elim b [ true ↦ Some i.text | false ↦ item_text w is ] ≡ Some t → (item_text w is ≡ Some t → item_text w (is ++ js) ≡ Some t)
        → elim b [ true ↦ Some i.text | false ↦ item_text w (is ++ js) ] ≡ Some t
    go true h f = h
    go false h f = f h

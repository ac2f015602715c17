-- Sets of named texts for `include`: 02, request 1.
use Rattle.std.specs.Prelude.{ℕ, zero, suc, ◌+◌, Bool, true, false, ◌&&◌, List, [], ◌∷◌, ◌++◌, leb, eqb, length, take, drop, Option, None, Some}
use Rattle.rules.specs.Bytes.{Bytes, same_bytes}
use Rattle.rules.specs.Chunks.{least_first, bytes_least_first, Carried, chunks_read, chunked}

-- "Kind 0 ends the set", "Kind 129 begins an item"
abbrev pub end_kind : ℕ
end_kind = 0

abbrev pub item_kind : ℕ
item_kind = 129

-- "The set may have up to 1,048,576 bytes"
abbrev pub longest_set : ℕ
longest_set = 1048576

-- a name, which is any bytes, and a text
pub record Item : Type 0 where
  pub name : Bytes
  pub text : Bytes

-- ---- reading a set

-- an item that was read, and what stands behind it
pub record ItemRead : Type 0 where
  pub item : Item
  pub rest : Bytes

-- "name and text, joined": the first n bytes are the name
unfoldable pub parted : ℕ → Option Carried → Option ItemRead
parted n None = None
parted n (Some c) = Some (record { item = record { name = take n c.bytes; text = drop n c.bytes }; rest = c.rest })

-- "its 8-byte body holds name length and text length, 32-bit, least byte first; name and text, joined, follow in chunks"
unfoldable pub body_read : Bytes → Option ItemRead
body_read w =
    let names = least_first (take 4 w) in
    let texts = least_first (take 4 (drop 4 w)) in
    parted names (chunks_read (names + texts) (drop 8 w))

-- the item at the front
unfoldable pub item_read : Bytes → Option ItemRead
item_read [] = None
item_read (kind ∷ w) = elim (eqb kind item_kind && leb 8 (length w)) [ true ↦ body_read w | false ↦ None ]

-- "Kind 0 ends the set, with nothing after it"
unfoldable pub is_end : Bytes → Bool
is_end w = same_bytes w (end_kind ∷ [])

unfoldable pub and_item : Item → Option (List Item) → Option (List Item)
and_item i None = None
and_item i (Some is) = Some (i ∷ is)

-- the items up to the end, fewer than `most` of them
unfoldable pub items_from : ℕ → Bytes → Option (List Item)
items_from zero w = None
items_from (suc most) w =
    elim (is_end w) [
      | true ↦ Some []
      | false ↦ elim (item_read w) [ None ↦ None | Some r ↦ and_item r.item (items_from most r.rest) ]
    ]

-- the items of a set, which has a byte for each at least, and one for its end; none: 02 "14 bad or overlong set"
unfoldable pub set_items : Bytes → Option (List Item)
set_items w = elim (leb (length w) longest_set) [ true ↦ items_from (length w) w | false ↦ None ]

-- "The first of two items with one name counts": its text
unfoldable pub item_text : Bytes → List Item → Option Bytes
item_text w [] = None
item_text w (i ∷ is) = elim (same_bytes w i.name) [ true ↦ Some i.text | false ↦ item_text w is ]

-- ---- writing one: the only set with these items

unfoldable pub item_form : Item → Bytes
item_form i =
    item_kind ∷ (bytes_least_first 4 (length i.name) ++ (bytes_least_first 4 (length i.text) ++ chunked (i.name ++ i.text)))

unfoldable pub set_form : List Item → Bytes
set_form [] = end_kind ∷ []
set_form (i ∷ is) = item_form i ++ set_form is

-- 02 "`expand` lends the set of one byte 0"
unfoldable pub empty_set : Bytes
empty_set = set_form []

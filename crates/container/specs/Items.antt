-- What the functions of this crate answer, by the book's reading of items.
use Rattle.std.specs.Prelude.{ℕ, zero, suc, ◌-◌, ◌≡◌, Bool, true, false, [], ◌++◌, leb, length, drop, Option, None, Some}
use Rattle.std.specs.Option.{option_map, option_map_or}
use Rattle.rules.specs.Bytes.{Bytes, same_bytes}
use Rattle.rules.specs.Sets.{ItemRead, item_read}
use Rattle.rules.specs.Contract.{fronted}
use Rattle.container.specs.declared.Item.{Item}
use Rattle.container.specs.declared.Found.{Found}

-- the item at a place: the lengths of its name and text, and the place behind it
unfoldable pub item_at : Bytes → ℕ → Option Item
item_at set place =
    option_map (λ (r : ItemRead). record { name = length r.item.name; text = length r.item.text; end = length set - length r.rest }) (item_read (drop place set))

-- its name and text, joined; no bytes where there is no item
unfoldable pub joined_at : Bytes → ℕ → Bytes
joined_at set place = option_map_or (λ (r : ItemRead). r.item.name ++ r.item.text) (item_read (drop place set)) []

-- the first item with a name, of at most `most` from a place on, before the first that can't be read
unfoldable pub named_from : ℕ → Bytes → Bytes → ℕ → Option Found
named_from zero set name place = None
named_from (suc most) set name place =
    elim (item_read (drop place set)) [
      | None ↦ None
      | Some r ↦
          elim (same_bytes name r.item.name) [
            | true ↦ Some (record { place = place; length = length r.item.text })
            | false ↦ named_from most set name (length set - length r.rest)
          ]
    ]

unfoldable pub first_named : Bytes → Bytes → Option Found
first_named set name = named_from (length set) set name 0

-- the text of the item at a place
unfoldable pub text_at : Bytes → ℕ → Option Bytes
text_at set place = option_map (λ (r : ItemRead). r.item.text) (item_read (drop place set))

-- it goes over the front of a slice that is long enough
unfoldable pub fits : Option Bytes → ℕ → Bool
fits o n = option_map_or (λ (w : Bytes). leb (length w) n) o false

unfoldable pub laid : Option Bytes → Bytes → Bytes
laid None old = old
laid (Some w) old = elim (leb (length w) (length old)) [ true ↦ fronted w old | false ↦ old ]

pub record Copied (set : Bytes) (place : ℕ) (before : Bytes) (r : Bool) (after : Bytes) : Type 0 where
  pub answer : r ≡ fits (text_at set place) (length before)
  pub slice : after ≡ laid (text_at set place) before

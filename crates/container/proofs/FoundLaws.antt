-- What `find` answers of a good set is what the book's `item_text` says, and the text stands at the place that it gives. Assumes nothing.
use Rattle.rules.proofs.Base.{ℕ, ◌-◌, suc, zero, ◌∙◌, refl, sym, ap, ◌≡◌, subst, true, Bool, false, Some, None, Option, List, [], ◌∷◌, arith, length, drop}
use Rattle.rules.specs.Bytes.{Bytes, same_bytes}
use Rattle.rules.specs.Sets.{Item, ItemRead, item_read, items_from, set_items, item_text}
use Rattle.rules.proofs.Sets.{item_short, end_is, Items, ended, begun, items_of, items_none, set_read}
use Rattle.container.specs.declared.Found.{Found}
use Rattle.container.specs.Items.{named_from, first_named, text_at}
use Rattle.container.proofs.Items.{rest_is}
use Rattle.container.proofs.Finding.{named_none, named_here, named_on}

-- the text that counts for a name stands at a place, and is so long
pub record FoundAt (set name : Bytes) (is : List Item) (f : Found) : Type 0 where
  pub text : Bytes
  pub named : item_text name is ≡ Some text
  pub stands : text_at set f.place ≡ Some text
  pub long : f.length ≡ length text

-- the answer and the items agree

abbrev Agrees : Bytes → Bytes → List Item → Option Found → Type 0
Agrees set name is None = item_text name is ≡ None
Agrees set name is (Some f) = FoundAt set name is f

-- with one item more in front, whose name is another
agrees_on : (set name : Bytes) (i : Item) (is : List Item) (f : Option Found) → same_bytes name i.name ≡ false → Agrees set name is f → Agrees set name (i ∷ is) f
unfolding item_text
agrees_on set name i is None e h = rw (e, item_text) h
agrees_on set name i is (Some f) e h = record { text = h.text; named = rw (e, item_text) h.named; stands = h.stands; long = h.long }

-- the first item that is read at i counts, or another from behind it on
module _ (set name : Bytes) (i : ℕ) {r : ItemRead} (e : item_read (drop i set) ≡ Some r) (most : ℕ) (is : List Item) where
  agrees_here : same_bytes name r.item.name ≡ true → Agrees set name (r.item ∷ is) (named_from (suc most) set name i)
  unfolding item_text text_at
  agrees_here h =
      subst (Agrees set name (r.item ∷ is)) (sym (named_here set name i most e h))
      (record { text = r.item.text; named = rw (h, item_text); stands = rw (e, text_at); long = refl })

  agrees_behind : same_bytes name r.item.name ≡ false → Agrees set name is (named_from most set name (length set - length r.rest)) → Agrees set name (r.item ∷ is) (named_from (suc most) set name i)
  agrees_behind h k =
      subst (Agrees set name (r.item ∷ is)) (sym (named_on set name i most e h))
      (agrees_on set name r.item is (named_from most set name (length set - length r.rest)) h k)

  agrees_item : (t : Bool) → same_bytes name r.item.name ≡ t → Agrees set name is (named_from most set name (length set - length r.rest)) → Agrees set name (r.item ∷ is) (named_from (suc most) set name i)
  agrees_item true h k = agrees_here h
  agrees_item false h k = agrees_behind h k

-- the two agree from each place on, for so many items at most
abbrev Agreed : Bytes → Bytes → ℕ → Type 0
Agreed set name most = (i : ℕ) (is : List Item) → items_from most (drop i set) ≡ Some is → Agrees set name is (named_from most set name i)

module _ (set name : Bytes) where
  agreed_on : (most : ℕ) → Agreed set name most → Agreed set name (suc most)
  unfolding item_text
  agreed_on most before i is e = go is (items_of most (drop i set) e)
    where
      go : (is : List Item) → Items most (drop i set) is → Agrees set name is (named_from (suc most) set name i)
      go [] (ended h) =
          let short : item_read (drop i set) ≡ None = item_short (drop i set) (omega (arith, ap length (end_is (drop i set) h))) in
          subst (Agrees set name []) (sym (named_none set name i (suc most) short)) refl
      go (i' ∷ js) (begun {r} h k l) =
          agrees_item set name i k most js (same_bytes name r.item.name) refl
          (before (length set - length r.rest) js (ap (items_from most) (sym (rest_is set i k)) ∙ l))

  agreed : (most : ℕ) → Agreed set name most
  agreed zero = λ i is e. absurd (items_none (drop i set) is e)
  agreed (suc most) = agreed_on most (agreed most)

  found : {is : List Item} → set_items set ≡ Some is → Agrees set name is (first_named set name)
  unfolding first_named
  found {is} e = agreed (length set) 0 is (set_read set e).1

  pub found_none : {is : List Item} → set_items set ≡ Some is → None ≡ first_named set name → item_text name is ≡ None
  found_none {is} e h = subst (Agrees set name is) (sym h) (found e)

  pub found_at : {is : List Item} {f : Found} → set_items set ≡ Some is → Some f ≡ first_named set name → FoundAt set name is f
  found_at {is} e h = subst (Agrees set name is) (sym h) (found e)

-- Comparing an item's name, and finding the first item with a name. Assumes nothing.
use Rattle.rules.proofs.Base.{◌≤◌, ◌+◌, ℕ, ◌-◌, ◌<◌, suc, zero, ◌/◌, ◌∙◌, refl, sym, ap, ◌≡◌, ap₂, true, Bool, false, Some, None, [], ◌++◌, ◌∷◌, add-one, arith, length, drop, take, get_or, length-drop, take-suc, take_all, take-append_seam, get_or-take}
use Rattle.rules.specs.Bytes.{Bytes, same_bytes}
use Rattle.rules.specs.Sets.{ItemRead, item_read}
use Rattle.rules.proofs.SameBytes.{same_self, not_same}
use Rattle.container.specs.declared.Item.{Item as Measured}
use Rattle.container.specs.Items.{item_at, joined_at, named_from, first_named}
use Rattle.container.proofs.Items.{Stands, nothing_at, joined_is, joined_byte}

-- ---- comparing

-- the first j bytes of a name are the first of an item's name and text, joined
pub record Comparing (set : Bytes) (place : ℕ) (name : Bytes) (j : ℕ) : Type 0 where
  pub room : length name ≤ length (joined_at set place)
  pub within : j ≤ length name
  pub same : take j name ≡ take j (joined_at set place)

module _ {set : Bytes} {place : ℕ} {name : Bytes} {j : ℕ} (s : Comparing set place name j) where
  abbrev joined : Bytes
  joined = joined_at set place

  pub compare_all : length name ≤ j → true ≡ same_bytes name (take (length name) joined)
  compare_all h =
      let e : j ≡ length name = omega (arith, s.within) in
      let n : name ≡ take (length name) joined = sym (take_all j name h) ∙ s.same ∙ ap (λ (m : ℕ). take m joined) e in
      sym (ap (same_bytes name) (sym n) ∙ same_self name)

  -- the next byte
  module _ (more : j < length name) {from : ℕ} (e : from ≡ place + 9 + suc (j + j / 128)) where
    byte : (from < length set) × (get_or set from 0 ≡ get_or joined j 0)
    byte = joined_byte set place j (omega (arith, s.room)) e

    pub compare_inside : from < length set
    compare_inside = byte.0

    pub compare_on : get_or set from 0 ≡ get_or name j 0 → Comparing set place name (j + 1)
    compare_on h =
        record {
          room = s.room;
          within = omega arith;
          same =
              rw (add-one j)
              (take-suc name j 0 more ∙ ap₂ (λ (l : Bytes) (x : ℕ). l ++ (x ∷ [])) s.same (sym h ∙ byte.1) ∙ sym (take-suc joined j 0 (omega (arith, s.room))));
        }

    pub compare_not : (get_or set from 0 ≡ get_or name j 0 → ⊥) → false ≡ same_bytes name (take (length name) joined)
    compare_not ne =
        sym
        (not_same name (take (length name) joined)
        (λ h. ne (byte.1 ∙ sym (get_or-take (length name) joined j 0 more) ∙ sym (ap (λ (l : Bytes). get_or l j 0) h))))

-- ---- finding

-- the first item with the name is the first from i on
pub record Finding (set name : Bytes) (i : ℕ) : Type 0 where
  pub most : ℕ
  pub enough : length set - i ≤ most
  pub same : named_from most set name i ≡ first_named set name

pub find_start : (set name : Bytes) → Finding set name 0
unfolding first_named
find_start set name = record { most = length set; enough = omega arith; same = refl }

-- by what is read there
module _ (set name : Bytes) (i : ℕ) where
  pub named_none : (most : ℕ) → item_read (drop i set) ≡ None → named_from most set name i ≡ None
  unfolding named_from
  named_none zero e = refl
  named_none (suc most) e = rw (e, named_from)

  module _ (most : ℕ) {r : ItemRead} (e : item_read (drop i set) ≡ Some r) where
    pub named_here : same_bytes name r.item.name ≡ true → named_from (suc most) set name i ≡ Some (record { place = i; length = length r.item.text })
    unfolding named_from
    named_here h = rw (e, h, named_from)

    pub named_on : same_bytes name r.item.name ≡ false → named_from (suc most) set name i ≡ named_from most set name (length set - length r.rest)
    unfolding named_from
    named_on h = rw (e, h, named_from)

module _ {set name : Bytes} {i : ℕ} (s : Finding set name i) where
  lost : item_read (drop i set) ≡ None → None ≡ first_named set name
  lost e = sym (named_none set name i s.most e) ∙ s.same

  -- no item stands there
  pub find_bad : None ≡ item_at set i → None ≡ first_named set name
  find_bad e = lost (nothing_at set i e)

  module _ {m : Measured} (r : Stands set i m) where
    abbrev most : ℕ
    most = s.most - 1

    one_more : named_from (suc most) set name i ≡ first_named set name
    one_more = let n : suc most ≡ s.most = omega (arith, s.enough, r.longer, r.inside) in ap (λ (m : ℕ). named_from m set name i) n ∙ s.same

    pub find_here : same_bytes name r.item.name ≡ true → Some (record { place = i; length = m.text }) ≡ first_named set name
    find_here h = ap (λ (n : ℕ). Some (record { place = i; length = n })) r.text_long ∙ sym (named_here set name i most r.read h) ∙ one_more

    pub find_on : same_bytes name r.item.name ≡ false → Finding set name m.end
    find_on h =
        let e : m.end ≡ length set - length (drop m.end set) = omega (arith, r.inside, length-drop m.end set) in
        record {
          most = most;
          enough = omega (arith, s.enough, r.longer, r.inside);
          same = ap (named_from most set name) e ∙ sym (named_on set name i most r.read h) ∙ one_more;
        }

-- ---- comparing the name of an item that stands at a place

module _ {set : Bytes} {i : ℕ} {m : Measured} (r : Stands set i m) (name : Bytes) where
  pub other_length : (m.name ≡ length name → ⊥) → same_bytes name r.item.name ≡ false
  other_length ne = not_same name r.item.name (λ e. ne (r.name_long ∙ sym (ap length e)))

  pub name_compared : m.name ≡ length name → {t : Bool} → t ≡ same_bytes name (take (length name) (joined_at set i)) → same_bytes name r.item.name ≡ t
  name_compared n e =
      sym
      (e
      ∙ ap₂ (λ (n : ℕ) (l : Bytes). same_bytes name (take n l)) (sym n ∙ r.name_long) (joined_is r)
      ∙ ap (same_bytes name) (take-append_seam r.item.name r.item.text))

-- Judging a set item by item. Assumes nothing.
use Rattle.rules.proofs.Base.{◌≤◌, ℕ, ◌-◌, ◌<◌, suc, zero, ◌∙◌, refl, sym, ap, ◌≡◌, true, Bool, false, Some, None, Option, List, [], ◌∷◌, arith, eqb, length, drop, get_or, length-drop, drop_of_length-le, drop-cons, eqb-true, eqb-false, ne_eqb, le-leb, lt-leb}
use Rattle.std.specs.Option.{is_some}
use Rattle.rules.specs.Bytes.{Bytes}
use Rattle.rules.specs.Sets.{longest_set, Item, item_read, is_end, and_item, items_from, set_items}
use Rattle.rules.proofs.Sets.{end_ends, not_end, items_end, items_bad, items_more}
use Rattle.container.specs.declared.Item.{Item as Measured}
use Rattle.container.specs.Items.{item_at}
use Rattle.container.proofs.Items.{Stands, nothing_at}

made_more : (i : Item) (o : Option (List Item)) → is_some (and_item i o) ≡ is_some o
unfolding and_item
made_more i None = refl
made_more i (Some is) = refl

-- where no item begins, all is read if what is left is the end
made_rest : (most : ℕ) (w : Bytes) → length w ≤ most → item_read w ≡ None → is_some (items_from most w) ≡ is_end w
unfolding items_from
made_rest zero [] l h = sym (not_end [] (λ e. omega (arith, ap length e)))
made_rest zero (x ∷ w) l h = absurd (omega arith)
made_rest (suc most) w l h = go (is_end w) refl
  where
    go : (t : Bool) → is_end w ≡ t → is_some (items_from (suc most) w) ≡ t
    go true e = ap is_some (items_end most w e)
    go false e = ap is_some (items_bad most w e h)

-- one byte is the end if it is 0
end_byte : (x : ℕ) → is_end (x ∷ []) ≡ eqb x 0
end_byte x = go (eqb x 0) refl
  where
    go : (t : Bool) → eqb x 0 ≡ t → is_end (x ∷ []) ≡ t
    go true e = ap (λ (y : ℕ). is_end (y ∷ [])) (eqb-true x 0 e) ∙ end_ends
    go false e = not_end (x ∷ []) (λ h. eqb-false x 0 e (ap (λ (l : Bytes). get_or l 0 0) h))

-- from i on the set is as good as it is in whole
pub record Judging (set : Bytes) (i : ℕ) : Type 0 where
  pub inside : i ≤ length set
  pub most : ℕ
  pub enough : length set - i ≤ most
  pub same : is_some (items_from most (drop i set)) ≡ is_some (set_items set)

module _ (set : Bytes) where
  pub judge_long : longest_set < length set → false ≡ is_some (set_items set)
  unfolding set_items
  judge_long h = rw (lt-leb (length set) longest_set h, set_items)

  pub judge_start : length set ≤ longest_set → Judging set 0
  unfolding set_items
  judge_start h = record { inside = omega arith; most = length set; enough = omega arith; same = rw (le-leb (length set) longest_set h, set_items) }

module _ {set : Bytes} {i : ℕ} (j : Judging set i) where
  -- no item stands there: the end, or a set that is not good
  module _ (e : None ≡ item_at set i) where
    rest : is_end (drop i set) ≡ is_some (set_items set)
    rest = sym (made_rest j.most (drop i set) (omega (arith, length-drop i set, j.enough)) (nothing_at set i e)) ∙ j.same

    pub judge_byte : length set - i ≡ 1 → eqb (get_or set i 0) 0 ≡ is_some (set_items set)
    judge_byte h =
        let w : drop i set ≡ get_or set i 0 ∷ [] = drop-cons set i 0 (omega arith) ∙ ap (λ (l : Bytes). get_or set i 0 ∷ l) (drop_of_length-le set {i = suc i} (omega arith)) in
        sym (ap is_end w ∙ end_byte (get_or set i 0)) ∙ rest

    pub judge_other : (length set - i ≡ 1 → ⊥) → eqb (length set - i) 1 ≡ is_some (set_items set)
    judge_other ne = ne_eqb (length set - i) 1 ne ∙ sym (not_end (drop i set) (λ h. ne (sym (length-drop i set) ∙ ap length h))) ∙ rest

  pub judge_on : {m : Measured} → Stands set i m → Judging set m.end
  judge_on {m} r =
      let n : suc (j.most - 1) ≡ j.most = omega (arith, j.enough, r.longer, r.inside) in
      let not_last : is_end (drop i set) ≡ false = not_end (drop i set) (λ e. omega (arith, r.longer, r.inside, length-drop i set, ap length e)) in
      record {
        inside = r.inside;
        most = j.most - 1;
        enough = omega (arith, j.enough, r.longer, r.inside);
        same =
            sym (made_more r.item (items_from (j.most - 1) (drop m.end set)))
            ∙ sym (ap is_some (items_more (j.most - 1) (drop i set) not_last r.read))
            ∙ ap (λ (k : ℕ). is_some (items_from k (drop i set))) n ∙ j.same;
      }

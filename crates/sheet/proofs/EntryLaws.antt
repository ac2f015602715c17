-- Laws of a line: a name, `=`, a reading. Assumes nothing.
use Rattle.rules.proofs.Base.{ℕ, ◌<◌, ◌≤◌, ◌+◌, suc, ◌∙◌, sym, ap, ◌≡◌, true, false, Some, None, Option, eqb, eq-eqb, ne_eqb, length, take, drop, get_or, drop_of_length-le, drop-cons}
use Rattle.rules.specs.declared.Value.{Value}
use Rattle.rules.specs.Bytes.{Bytes, name_length, is_name}
use Rattle.rules.specs.Sheets.{value_at, entry_of, behind_name, entry_at}

module _ (place : ℕ) (l : Bytes) (n : ℕ) (e : n ≡ name_length l) where
  pub no_name : is_name (take n l) ≡ false → None ≡ entry_at place l
  unfolding entry_at
  no_name t = sym (rw (entry_at, ← e, t))

  module _ (t : is_name (take n l) ≡ true) where
    behind : entry_at place l ≡ behind_name place n (drop n l)
    unfolding entry_at
    behind = ap (λ b. elim b [ true ↦ behind_name place (name_length l) (drop (name_length l) l) | false ↦ None ]) (sym (ap (λ k. is_name (take k l)) e) ∙ t) ∙ sym (ap (λ k. behind_name place k (drop k l)) e)

    pub name_alone : length l ≤ n → None ≡ entry_at place l
    unfolding behind_name
    name_alone h = sym (behind ∙ rw (drop_of_length-le l h, behind_name))

    module _ (h : n < length l) where
      at_byte : entry_at place l ≡ elim (eqb (get_or l n 0) 61) [ true ↦ entry_of place n (value_at (suc (place + n)) (drop (suc n) l)) | false ↦ None ]
      unfolding behind_name
      at_byte = behind ∙ rw (drop-cons l n 0 h, behind_name)

      pub no_equals : (get_or l n 0 ≡ 61 → ⊥) → None ≡ entry_at place l
      no_equals f = sym (at_byte ∙ rw (ne_eqb (get_or l n 0) 61 f))

      module _ (q : get_or l n 0 ≡ 61) (o : Option Value) (f : o ≡ value_at (suc (place + n)) (drop (suc n) l)) where
        with_value : entry_of place n o ≡ entry_at place l
        with_value = ap (entry_of place n) f ∙ sym (at_byte ∙ rw (eq-eqb (get_or l n 0) 61 q))

        pub no_value : o ≡ None → None ≡ entry_at place l
        unfolding entry_of
        no_value k = ap (entry_of place n) (sym k) ∙ with_value

        pub one_line : {v : Value} → o ≡ Some v → Some (record { name = place; length = n; value = v }) ≡ entry_at place l
        unfolding entry_of
        one_line k = ap (entry_of place n) (sym k) ∙ with_value

-- Laws of readings. Assumes nothing.
use Rattle.rules.proofs.Base.{ℕ, ℤ, refl, sym, ◌≡◌, true, false, Bool, Some, None, length}
use lib.Ieee.{Float}
use Rattle.std.specs.Bool.{then_some}
use Rattle.rules.specs.declared.Value.TheVariants as value
use Rattle.rules.specs.Bytes.{Bytes, is_name}
use Rattle.rules.specs.Numerals.{number}
use Rattle.rules.specs.Sheets.{decimal_value, word_value, decimal_or, value_at}

module _ (place : ℕ) (w : Bytes) where
  pub number_read : {z : ℤ} → number w ≡ Some z → Some (value.Number z) ≡ value_at place w
  unfolding value_at
  number_read e = sym (rw (value_at, e))

  module _ (e : number w ≡ None) where
    pub decimal_read : {x : Float} → decimal_value w ≡ Some x → Some (value.Decimal x) ≡ value_at place w
    unfolding value_at decimal_or
    decimal_read f = sym (rw (value_at, e, f))

    pub word_read : decimal_value w ≡ None → then_some (is_name w) (value.Word place (length w)) ≡ value_at place w
    unfolding value_at decimal_or word_value
    word_read f = sym (rw (value_at, e, f, decimal_or, word_value) (go (is_name w)))
      where
        go : (t : Bool) → elim t [ true ↦ Some (value.Word place (length w)) | false ↦ None ] ≡ then_some t (value.Word place (length w))
        go true = refl
        go false = refl

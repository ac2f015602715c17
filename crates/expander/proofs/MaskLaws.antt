-- Laws of the mask that says which predefined names keep their own meaning. Assumes nothing.
use Rattle.rules.proofs.Base.{◌≤◌, ℕ, ◌-◌, suc, zero, ◌*◌, ◌^◌, ◌/◌, ◌%◌, ◌∙◌, sym, ap, ◌≡◌, true, Bool, false, cond, Some, None, Option, List, one-mul, div-eq_of_lt, dec_le, arith, eqb, eqb-true}
use Rattle.std.proofs.Common.{shl_exact}
use Rattle.rules.specs.Bytes.{Bytes}
use Rattle.rules.specs.Table.{Definition, predefined_number, keeps_own, own_meaning, own_lost}
use Rattle.expander.specs.Table.{meaning_for, text_end, Finds}
use Rattle.builtins.proofs.Naming.{number_few}
use Rattle.expander.specs.declared.table.Meaning.TheVariants as looked

-- a name without a number
module _ (w : Bytes) (e : predefined_number w ≡ None) where
  pub own_none : (own : ℕ) (ds : List Definition) → Finds ds (own_meaning w own) looked.Undefined
  unfolding own_meaning meaning_for text_end
  own_none own ds = record { is = rw (e, own_meaning); within = omega arith }

  pub lost_none : (own : ℕ) → own ≡ own_lost w own
  unfolding own_lost
  lost_none own = rw (e, own_lost)

-- the bit of the n-th name
pub keeps_at : (n own : ℕ) → 1 ≤ n → keeps_own n own ≡ eqb (own / 2 ^ (n - 1) % 2) 1
unfolding keeps_own
keeps_at zero own h = absurd (omega arith)
keeps_at (suc i) own h = ap (λ (j : ℕ). eqb (own / 2 ^ j % 2) 1) (omega arith)

-- a name with the number r; b says whether it keeps its own meaning
module _ (w : Bytes) {r : ℕ} (e : predefined_number w ≡ Some r) (own : ℕ) {b : Bool} (k : b ≡ keeps_own r own) where
  pub own_kept : b ≡ true → (ds : List Definition) → Finds ds (own_meaning w own) (looked.Predefined r)
  unfolding own_meaning meaning_for text_end
  own_kept t ds = record { is = rw (e, sym k ∙ t, own_meaning); within = omega arith }

  pub own_gone : b ≡ false → (ds : List Definition) → Finds ds (own_meaning w own) looked.Undefined
  unfolding own_meaning meaning_for text_end
  own_gone t ds = record { is = rw (e, sym k ∙ t, own_meaning); within = omega arith }

  pub lost_gone : b ≡ false → own ≡ own_lost w own
  unfolding own_lost
  lost_gone t = rw (e, sym k ∙ t, own_lost)

  -- the bit as the code makes it
  bit_is : (1 * 2 ^ (r - 1)) % 2 ^ 32 ≡ 2 ^ (r - 1)
  bit_is = shl_exact 1 (r - 1) 32 (omega arith) (omega (arith, (number_few w e).1)) ∙ one-mul (2 ^ (r - 1))

  pub bit_in : b ≡ true → (1 * 2 ^ (r - 1)) % 2 ^ 32 ≤ own
  bit_in t = rw bit_is (go (dec_le (2 ^ (r - 1)) own))
    where
      go : Dec (2 ^ (r - 1) ≤ own) → 2 ^ (r - 1) ≤ own
      go (yes p) = p
      go (no f) =
          let z : own / 2 ^ (r - 1) ≡ 0 = div-eq_of_lt (omega arith) in
          let o : own / 2 ^ (r - 1) % 2 ≡ 1 = eqb-true _ _ (sym (keeps_at r own (omega (arith, (number_few w e).0))) ∙ sym k ∙ t) in
          absurd (omega arith)

  pub lost_kept : b ≡ true → own - (1 * 2 ^ (r - 1)) % 2 ^ 32 ≡ own_lost w own
  unfolding own_lost
  lost_kept t = rw (e, sym k ∙ t, bit_is, own_lost)

pub lost_less : (w : Bytes) (own : ℕ) → own_lost w own ≤ own
unfolding own_lost
lost_less w own = go (predefined_number w)
  where
    less : (b : Bool) (k : ℕ) → cond b (own - 2 ^ (k - 1)) own ≤ own
    less true k = omega arith
    less false k = omega arith

    go : (o : Option ℕ) → elim o [ None ↦ own | Some k ↦ cond (keeps_own k own) (own - 2 ^ (k - 1)) own ] ≤ own
    go None = omega arith
    go (Some k) = less (keeps_own k own) k

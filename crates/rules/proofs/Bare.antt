-- Which predefined macros need a parenthesis, and which are called bare: the list of 02, request 2, read both ways and as numbers. Assumes
-- nothing.
use Prim.Native.Nat.{ℕ, zero, suc, ◌+◌, ◌<◌}
use native.Mathlib.Omega.{arith}
use mathlib.Core.Path.{◌≡◌, refl, ap, ◌∙◌}
use mathlib.Core.Bool.{Bool, true, false, cond, ◌&&◌}
use mathlib.Core.List.{List, [], ◌∷◌}
use lib.Dec.{eqb}
use lib.ListN.{length, get_or, get_or-eq_default}
use Rattle.rules.specs.Bytes.{Bytes, bytes_of, left_parenthesis}
use Rattle.rules.specs.Table.{predefined_names, plain_unless_opened, among, needs_parenthesis}
use Rattle.rules.proofs.Book.{book}

-- ---- the list, read both ways

-- the names that keep their bare call, of those numbered from k
abbrev kept_from : ℕ → List Bytes → List Bytes
kept_from k [] = []
kept_from k (n ∷ ns) = cond (needs_parenthesis k) (kept_from (suc k) ns) (n ∷ kept_from (suc k) ns)

-- 02, request 2 "The other seven keep their bare call"
pub other_seven :
    kept_from 1 predefined_names
    ≡ bytes_of "changecom" ∷ bytes_of "changequote" ∷ bytes_of "divert" ∷ bytes_of "divnum" ∷ bytes_of "dnl" ∷ bytes_of "m4exit" ∷ bytes_of "undivert" ∷ []
unfolding book
other_seven = refl

abbrev all_among : List Bytes → List Bytes → Bool
all_among ns [] = true
all_among ns (w ∷ ws) = among w ns && all_among ns ws

-- each name on the list is predefined, and there are twenty of them
pub listed_are_predefined : (all_among predefined_names plain_unless_opened ≡ true) × (length plain_unless_opened ≡ 20)
unfolding book
listed_are_predefined = (refl, refl)

-- ---- the numbers in a table, as builtins has it

-- for each of the n numbers from k on a left parenthesis, if it needs one, and else a dash
abbrev table_from : ℕ → ℕ → Bytes
table_from k zero = []
table_from k (suc n) = cond (needs_parenthesis k) left_parenthesis 45 ∷ table_from (suc k) n

-- for 0, which no macro has, and for the number of each macro
abbrev pub parenthesis_table : Bytes
parenthesis_table = table_from 0 (suc (length predefined_names))

table_at : (k n i : ℕ) → i < n → eqb (get_or (table_from k n) i 0) left_parenthesis ≡ needs_parenthesis (k + i)
table_at k zero i h = absurd (omega (arith, h))
table_at k (suc n) zero h = told (needs_parenthesis k) ∙ ap needs_parenthesis (omega arith)
  where
    told : (t : Bool) → eqb (cond t left_parenthesis 45) left_parenthesis ≡ t
    told true = refl
    told false = refl
table_at k (suc n) (suc i) h = table_at (suc k) n i (omega (arith, h)) ∙ ap needs_parenthesis (omega arith)

pub by_table : (k : ℕ) → k < suc (length predefined_names) → eqb (get_or parenthesis_table k 0) left_parenthesis ≡ needs_parenthesis k
by_table k h = table_at 0 (suc (length predefined_names)) k h ∙ ap needs_parenthesis (omega arith)

-- no macro has a number above their count
pub none_above : (k : ℕ) → length predefined_names < k → needs_parenthesis k ≡ false
unfolding needs_parenthesis
none_above zero h = absurd (omega (arith, h))
none_above (suc i) h = ap (λ (w : Bytes). among w plain_unless_opened) (get_or-eq_default predefined_names [] (omega (arith, h))) ∙ unfold book in refl

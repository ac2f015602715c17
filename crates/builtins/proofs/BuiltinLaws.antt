-- Laws of the predefined macros by their numbers. Assumes nothing.
use Rattle.rules.proofs.Base.{ℕ, zero, suc, ◌∙◌, ◌≡◌, refl, ap, List, [], ◌∷◌, map, Some, None, Option, get_or, arith}
use Rattle.std.specs.Prelude.{slice_get}
use Rattle.rules.specs.Macros.{macros, perform, call_index, call_nothing}
use Rattle.builtins.specs.declared.Kind.TheVariants as kind
use Rattle.builtins.specs.declared.Builtin.{Builtin}
use Rattle.builtins.specs.declared.Builtin.TheVariants as builtin
use Rattle.builtins.specs.Builtins.{builtins, builtin_at, kind_of, result_of, change_of, result_call, change_call, call_of}
use Rattle.builtins.proofs.Arms.{arm_of, Avoids, last_arm, places_from, at_place}

-- no other arm of `builtin_at`
pub builtin_none : (k : ℕ) → Avoids (Unit {0}) k (places_from 1 builtins) → None ≡ builtin_at k
unfolding builtin_at
builtin_none zero a = refl
builtin_none (suc i) a = last_arm (suc i) (places_from 1 builtins) a ∙ ap (λ (k : ℕ). arm_of None k (places_from 1 builtins)) (omega arith) ∙ at_place i 1 builtins

-- ---- the book's macro of each number

-- the i-th of some macros
call_at : (bs : List Builtin) (i : ℕ) → get_or (map (λ (b : Builtin). call_of (Some b)) bs) i call_nothing ≡ call_of (slice_get bs i)
unfolding call_of
call_at [] i = refl
call_at (b ∷ bs) zero = refl
call_at (b ∷ bs) (suc i) = call_at bs i

pub performs : (k : ℕ) → perform k ≡ call_of (builtin_at k)
unfolding perform macros builtin_at builtins call_of result_call change_call
performs zero = refl
performs (suc i) = call_at builtins i

-- by what it does
pub performs_result : (k : ℕ) → kind.Result ≡ kind_of (builtin_at k) → perform k ≡ result_call (result_of (builtin_at k))
unfolding kind_of call_of result_of
performs_result k e = performs k ∙ go (builtin_at k) e
  where
    go : (b : Option Builtin) → kind.Result ≡ kind_of b → call_of b ≡ result_call (result_of b)
    go None e = cc
    go (Some (builtin.Result r)) e = refl
    go (Some builtin.Index) e = cc
    go (Some (builtin.Change c)) e = cc

pub performs_index : (k : ℕ) → kind.Index ≡ kind_of (builtin_at k) → perform k ≡ call_index
unfolding kind_of call_of
performs_index k e = performs k ∙ go (builtin_at k) e
  where
    go : (b : Option Builtin) → kind.Index ≡ kind_of b → call_of b ≡ call_index
    go None e = cc
    go (Some (builtin.Result r)) e = cc
    go (Some builtin.Index) e = refl
    go (Some (builtin.Change c)) e = cc

pub performs_change : (k : ℕ) → kind.Change ≡ kind_of (builtin_at k) → perform k ≡ change_call (change_of (builtin_at k))
unfolding kind_of call_of change_of change_call
performs_change k e = performs k ∙ go (builtin_at k) e
  where
    go : (b : Option Builtin) → kind.Change ≡ kind_of b → call_of b ≡ change_call (change_of b)
    go None e = refl
    go (Some (builtin.Result r)) e = cc
    go (Some builtin.Index) e = cc
    go (Some (builtin.Change c)) e = refl

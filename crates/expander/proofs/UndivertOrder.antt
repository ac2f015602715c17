-- Laws of the streams that the arguments of undivert name, in turn. Assumes nothing.
use Rattle.rules.proofs.Base.{◌≤◌, ◌+◌, ℕ, ◌<◌, suc, zero, ◌∙◌, refl, sym, ap, ◌≡◌, subst, true, Bool, false, Some, None, Option, List, [], ◌∷◌, add-one, ℕ_discrete, arith, leb, pos, ℤ, negsuc, length, drop, get_or, drop_of_length-le, drop-cons, eq-eqb, ne_eqb, leb-true}
use Rattle.std.specs.Prelude.{unwrap_or}
use Rattle.rules.specs.Bytes.{Bytes}
use Rattle.rules.specs.Numerals.{number}
use Rattle.rules.specs.Arguments.{arg, bounded}
use Rattle.rules.specs.Macros.{also_stream, stream_numbers, undivert_numbers}
use Rattle.expander.specs.declared.argument_strings.Arguments.{Arguments}
use Rattle.expander.specs.Limits.{call_ends_length}
use Rattle.expander.specs.Streams.{IsStream}
use Rattle.expander.specs.Diverting.{stream_of, all_named, streams_of, turns}
use Rattle.expander.proofs.ArgumentLaws.{ArgumentsIn, arg_next, few_arguments}

-- ---- the streams that arguments name

bounded_stream : (o : Option ℤ) (n : ℕ) → bounded 1 9 o ≡ Some n → IsStream n
unfolding bounded
bounded_stream None n e = let z : ◌≡◌ {A = ℕ} 0 1 = cc in absurd (omega arith)
bounded_stream (Some (negsuc k)) n e = let z : ◌≡◌ {A = ℕ} 0 1 = cc in absurd (omega arith)
bounded_stream (Some (pos k)) n e = go (leb 1 k) refl (leb k 9) refl e
  where
    go : (t : Bool) → leb 1 k ≡ t → (u : Bool) → leb k 9 ≡ u → elim t [ true ↦ elim u [ true ↦ Some k | false ↦ None ] | false ↦ None ] ≡ Some n → IsStream n
    go true p true q f = let d : k ≡ n = cc in subst IsStream d (record { low = leb-true 1 k p; high = leb-true k 9 q })
    go true p false q f = let z : ◌≡◌ {A = ℕ} 0 1 = cc in absurd (omega arith)
    go false p u q f = let z : ◌≡◌ {A = ℕ} 0 1 = cc in absurd (omega arith)

module _ (a : Bytes) where
  -- it is one of the nine
  named-number : (stream_of a ≡ 0 → ⊥) → bounded 1 9 (number a) ≡ Some (stream_of a)
  unfolding stream_of
  named-number f = go (bounded 1 9 (number a)) f
    where
      go : (o : Option ℕ) → (unwrap_or o 0 ≡ 0 → ⊥) → o ≡ Some (unwrap_or o 0)
      go None g = absurd (g refl)
      go (Some n) g = refl

  named_stream : (stream_of a ≡ 0 → ⊥) → IsStream (stream_of a)
  named_stream f = bounded_stream (number a) (stream_of a) (named-number f)

  unnamed_number : stream_of a ≡ 0 → bounded 1 9 (number a) ≡ None
  unfolding stream_of
  unnamed_number e = go (bounded 1 9 (number a)) refl e
    where
      go : (o : Option ℕ) → bounded 1 9 (number a) ≡ o → unwrap_or o 0 ≡ 0 → o ≡ None
      go None p q = refl
      go (Some n) p q = absurd (omega (arith, (bounded_stream (number a) n p).low))

-- the arguments one after the other
rest_unnamed : (a : Bytes) (more : List Bytes) → stream_of a ≡ 0 → all_named (a ∷ more) ≡ false
unfolding all_named
rest_unnamed a more e = rw (eq-eqb (stream_of a) 0 e, all_named)

rest_named : (a : Bytes) (more : List Bytes) → (stream_of a ≡ 0 → ⊥) → all_named (a ∷ more) ≡ all_named more
unfolding all_named
rest_named a more f = rw (ne_eqb (stream_of a) 0 f, all_named)

all_first : (a : Bytes) (more : List Bytes) → all_named (a ∷ more) ≡ true → stream_of a ≡ 0 → ⊥
all_first a more e q = let z : true ≡ false = sym e ∙ rest_unnamed a more q in let y : ◌≡◌ {A = ℕ} 0 1 = cc in omega arith

all_rest : (a : Bytes) (more : List Bytes) → all_named (a ∷ more) ≡ true → all_named more ≡ true
all_rest a more e = sym (rest_named a more (all_first a more e)) ∙ e

module _ (args : List Bytes) (k : ℕ) (e : all_named (drop k args) ≡ all_named args) where
  pub named_on : k < length args → (stream_of (arg (k + 1) args) ≡ 0 → ⊥) → all_named (drop (k + 1) args) ≡ all_named args
  named_on h f =
      let g : stream_of (get_or args k []) ≡ 0 → ⊥ = λ q. f (ap stream_of (arg_next k args) ∙ q) in
      rw (add-one k) (sym (rest_named (get_or args k []) (drop (suc k) args) g) ∙ ap all_named (sym (drop-cons args k [] h)) ∙ e)

  pub named_not : k < length args → stream_of (arg (k + 1) args) ≡ 0 → false ≡ all_named args
  named_not h q =
      let g : stream_of (get_or args k []) ≡ 0 = ap stream_of (sym (arg_next k args)) ∙ q in
      sym (rest_unnamed (get_or args k []) (drop (suc k) args) g) ∙ ap all_named (sym (drop-cons args k [] h)) ∙ e

  pub named_all : length args ≤ k → true ≡ all_named args
  unfolding all_named
  named_all h = sym (ap all_named (drop_of_length-le args h)) ∙ e

-- what the book takes them for
numbers-named : (args : List Bytes) → all_named args ≡ true → stream_numbers args ≡ Some (streams_of args)
unfolding stream_numbers also_stream streams_of all_named
numbers-named [] e = refl
numbers-named (a ∷ more) e = rw (named-number a (all_first a more e), numbers-named more (all_rest a more e))

numbers_unnamed : (args : List Bytes) → all_named args ≡ false → stream_numbers args ≡ None
unfolding stream_numbers also_stream all_named
numbers_unnamed [] e = let y : ◌≡◌ {A = ℕ} 0 1 = cc in absurd (omega arith)
numbers_unnamed (a ∷ more) e = go (ℕ_discrete (stream_of a) 0) (numbers_unnamed more)
  where
    go : Dec (stream_of a ≡ 0) → (all_named more ≡ false → stream_numbers more ≡ None) → also_stream (bounded 1 9 (number a)) (stream_numbers more) ≡ None
    go (yes q) g = rw (unnamed_number a q)
    go (no f) g = rw (named-number a f, g (sym (rest_named a more f) ∙ e))

pub undivert_named : (args : List Bytes) → all_named args ≡ true → undivert_numbers args ≡ Some (turns args)
unfolding undivert_numbers turns
undivert_named [] e = refl
undivert_named (a ∷ more) e = numbers-named (a ∷ more) e

pub undivert_unnamed : (args : List Bytes) → all_named args ≡ false → undivert_numbers args ≡ None
unfolding undivert_numbers all_named
undivert_unnamed [] e = let y : ◌≡◌ {A = ℕ} 0 1 = cc in absurd (omega arith)
undivert_unnamed (a ∷ more) e = numbers_unnamed (a ∷ more) e

-- ---- the turns

streams_long : (args : List Bytes) → length (streams_of args) ≡ length args
unfolding streams_of
streams_long [] = refl
streams_long (a ∷ more) = ap suc (streams_long more)

streams_at : (args : List Bytes) (k : ℕ) → k < length args → get_or (streams_of args) k 0 ≡ stream_of (get_or args k [])
unfolding streams_of
streams_at [] k h = absurd (omega arith)
streams_at (a ∷ more) zero h = refl
streams_at (a ∷ more) (suc k) h = streams_at more k (omega arith)

streams_each : (args : List Bytes) → all_named args ≡ true → (k : ℕ) → k < length args → IsStream (stream_of (get_or args k []))
streams_each [] e k h = absurd (omega arith)
streams_each (a ∷ more) e zero h = named_stream a (all_first a more e)
streams_each (a ∷ more) e (suc k) h = streams_each more (all_rest a more e) k (omega arith)

nine_at : (k : ℕ) → k < 9 → get_or (1 ∷ 2 ∷ 3 ∷ 4 ∷ 5 ∷ 6 ∷ 7 ∷ 8 ∷ 9 ∷ []) k 0 ≡ k + 1
nine_at zero h = refl
nine_at (suc zero) h = refl
nine_at (suc (suc zero)) h = refl
nine_at (suc (suc (suc zero))) h = refl
nine_at (suc (suc (suc (suc zero)))) h = refl
nine_at (suc (suc (suc (suc (suc zero))))) h = refl
nine_at (suc (suc (suc (suc (suc (suc zero)))))) h = refl
nine_at (suc (suc (suc (suc (suc (suc (suc zero))))))) h = refl
nine_at (suc (suc (suc (suc (suc (suc (suc (suc zero)))))))) h = refl
nine_at (suc (suc (suc (suc (suc (suc (suc (suc (suc k))))))))) h = absurd (omega arith)

pub turns_none : (args : List Bytes) → length args ≡ 0 → 9 ≡ length (turns args)
unfolding turns
turns_none [] e = refl
turns_none (a ∷ more) e = absurd (omega arith)

pub turns_some : (args : List Bytes) → (length args ≡ 0 → ⊥) → length args ≡ length (turns args)
unfolding turns
turns_some [] f = absurd (f refl)
turns_some (a ∷ more) f = sym (streams_long (a ∷ more))

pub turn_none : (args : List Bytes) (k : ℕ) → length args ≡ 0 → k < length (turns args) → k + 1 ≡ get_or (turns args) k 0
unfolding turns
turn_none [] k e h = sym (nine_at k h)
turn_none (a ∷ more) k e h = absurd (omega arith)

pub turn_some : (args : List Bytes) (k : ℕ) → (length args ≡ 0 → ⊥) → k < length (turns args) → stream_of (arg (k + 1) args) ≡ get_or (turns args) k 0
unfolding turns
turn_some [] k f h = absurd (f refl)
turn_some (a ∷ more) k f h = ap stream_of (arg_next k (a ∷ more)) ∙ (sym (streams_at (a ∷ more) k (omega (arith, streams_long (a ∷ more)))))

pub turn_each : (args : List Bytes) → all_named args ≡ true → (k : ℕ) → k < length (turns args) → IsStream (get_or (turns args) k 0)
unfolding turns
turn_each [] e k h = rw (nine_at k h) (record { low = omega arith; high = omega arith })
turn_each (a ∷ more) e k h =
    let l : k < length (a ∷ more) = omega (arith, streams_long (a ∷ more)) in
    rw (streams_at (a ∷ more) k l) (streams_each (a ∷ more) e k l)

-- there are few
pub few_turns : {x : Arguments} {args : List Bytes} → ArgumentsIn x args → length (turns args) ≤ call_ends_length
few_turns {args = args} h = go (ℕ_discrete (length args) 0)
  where
    go : Dec (length args ≡ 0) → length (turns args) ≤ call_ends_length
    go (yes e) = omega (arith, turns_none args e)
    go (no f) = omega (arith, turns_some args f, few_arguments h)

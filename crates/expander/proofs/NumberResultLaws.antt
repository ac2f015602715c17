-- Laws of the macros whose result is a number. Assumes nothing.
use Rattle.rules.proofs.Base.{◌≤◌, ◌+◌, ℕ, zero, suc, ◌∙◌, refl, sym, ap, ◌≡◌, true, Bool, false, Some, None, Option, List, [], ◌++◌, ◌∷◌, arith, leb, pos, ℤ, negsuc, suc_ℤ, pred_ℤ, ◌+ℤ◌, length, drop, get_or, length-append}
use Rattle.std.specs.Prelude.{Result, Ok, Err}
use Rattle.std.proofs.Math.IntN.{+ℤ-suc_ℤ, +ℤ-pred_ℤ, +ℤ_idr}
use Rattle.numerals.specs.Answers.{is_radix}
use Rattle.rules.specs.declared.EvalError.{EvalError}
use Rattle.rules.specs.Bytes.{Bytes}
use Rattle.rules.specs.Answers.{no_number, no_expression}
use Rattle.rules.specs.Streams.{joined}
use Rattle.rules.specs.Numerals.{number, decimal}
use Rattle.rules.specs.Expression.{evaluation}
use Rattle.rules.specs.Arguments.{arg, number_or, bounded}
use Rattle.rules.specs.Results.{Result as Given, yields, fails, changed_number, is_number, decr_result, incr_result, needing, eval_result, index_result, place_or, shown_result, is_unreadable}
use Rattle.matching.specs.declared.TooLong.{TooLong}
use Rattle.matching.specs.Places.{placed}
use Rattle.matching.proofs.Places.{answer_is, answer_known}
use Rattle.expander.specs.declared.argument_strings.Arguments.{Arguments}
use Rattle.expander.specs.Limits.{most_lent}
use Rattle.expander.specs.Results.{read_result}
use Rattle.expander.proofs.Packing.{used_is}
use Rattle.expander.proofs.Within.{first_within}
use Rattle.expander.proofs.ArgumentLaws.{ArgumentsIn}

-- ---- incr and decr

changed_same : {f g : ℤ → ℤ} → ((z : ℤ) → f z ≡ g z) → (o : Option ℤ) → changed_number f o ≡ changed_number g o
unfolding changed_number
changed_same e None = refl
changed_same {f} {g} e (Some z) =
    ap (λ (y : ℤ). elim (is_number y) [ true ↦ yields (decimal y) | false ↦ fails no_number ]) (e z)

less : (z : ℤ) → z +ℤ negsuc 0 ≡ pred_ℤ z
less z = +ℤ-pred_ℤ z (pos 0) ∙ ap pred_ℤ (+ℤ_idr z)

more : (z : ℤ) → z +ℤ pos 1 ≡ suc_ℤ z
more z = +ℤ-suc_ℤ z (pos 0) ∙ ap suc_ℤ (+ℤ_idr z)

pub decr_is : (args : List Bytes) → changed_number (λ z. z +ℤ negsuc 0) (number (arg 1 args)) ≡ decr_result args
unfolding decr_result
decr_is args = changed_same less (number (arg 1 args))

pub incr_is : (args : List Bytes) → changed_number (λ z. z +ℤ pos 1) (number (arg 1 args)) ≡ incr_result args
unfolding incr_result
incr_is args = changed_same more (number (arg 1 args))

-- ---- index

-- arguments are strings of one buffer
two_strings : (ss : List Bytes) → length (get_or ss 0 []) + length (get_or ss 1 []) ≤ length (joined ss)
unfolding joined
two_strings [] = omega arith
two_strings (s ∷ []) = omega (arith, length-append s [])
two_strings (s ∷ t ∷ ss) = omega (arith, length-append s (t ++ joined ss), length-append t (joined ss))

behind_shorter : (k : ℕ) (ss : List Bytes) → length (joined (drop k ss)) ≤ length (joined ss)
unfolding joined
behind_shorter zero ss = omega arith
behind_shorter (suc k) [] = omega arith
behind_shorter (suc k) (s ∷ ss) = omega (arith, behind_shorter k ss, length-append s (joined ss))

pub two_arguments : {x : Arguments} {args : List Bytes} → ArgumentsIn x args → length (arg 1 args) + length (arg 2 args) ≤ most_lent
unfolding arg
two_arguments {x = x} h =
    let ss = h.strings in
    let t : length (arg 1 (drop x.base ss)) + length (arg 2 (drop x.base ss)) ≤ most_lent =
    omega (arith, two_strings (drop x.base ss), behind_shorter x.base ss, used_is h.packs, h.packs.used_in, h.short) in
    rw h.are t

module _ {x : Arguments} {args : List Bytes} (h : ArgumentsIn x args) {text needle : Bytes} (et : text ≡ arg 1 args) (en : needle ≡ arg 2 args) where
  together : length needle + length text ≤ most_lent
  together = omega (arith, two_arguments h, ap length et, ap length en)

  pub place_small : (n : ℕ) → placed needle text ≡ Ok (Some n) → n ≤ most_lent
  place_small n k = omega (arith, first_within needle text n (answer_is needle text together (Some n) k), together)

  pub index_is : (o : Option ℕ) → placed needle text ≡ Ok o → index_result args ≡ yields (decimal (place_or o))
  unfolding index_result
  index_is o k = rw (← et, ← en, answer_is needle text together o k)

  pub index_known : (y : TooLong) → placed needle text ≡ Err y → ⊥
  index_known y k = answer_known needle text together y k

-- ---- eval

pub radix_good : (o : Option ℤ) (x : ℕ) → bounded 2 36 o ≡ Some x → is_radix x ≡ true
unfolding bounded is_radix
radix_good None x e = let z : ◌≡◌ {A = ℕ} 0 1 = cc in absurd (omega arith)
radix_good (Some (negsuc n)) x e = let z : ◌≡◌ {A = ℕ} 0 1 = cc in absurd (omega arith)
radix_good (Some (pos n)) x e = go (leb 2 n) (leb n 36) refl refl e
  where
    go : (s t : Bool) → leb 2 n ≡ s → leb n 36 ≡ t → elim s [ true ↦ elim t [ true ↦ Some n | false ↦ None ] | false ↦ None ] ≡ Some x → is_radix x ≡ true
    go true true f g m = let q : n ≡ x = cc in rw (← q, f, g)
    go true false f g m = let z : ◌≡◌ {A = ℕ} 0 1 = cc in absurd (omega arith)
    go false t f g m = let z : ◌≡◌ {A = ℕ} 0 1 = cc in absurd (omega arith)

-- what cannot be read is told first
told : Result ℤ EvalError → List Bytes → Given
told v args = elim (is_unreadable v) [ true ↦ fails no_expression | false ↦ read_result v args ]

module _ (args : List Bytes) {v : Result ℤ EvalError} (e : v ≡ evaluation (arg 1 args)) where
  eval_told : eval_result args ≡ told v args
  unfolding eval_result read_result told
  eval_told = ap (λ (u : Result ℤ EvalError). told u args) (sym e)

  pub eval_unreadable : is_unreadable v ≡ true → eval_result args ≡ fails no_expression
  unfolding told
  eval_unreadable k = eval_told ∙ ap (λ (t : Bool). elim t [ true ↦ fails no_expression | false ↦ read_result v args ]) k

  pub eval_read : is_unreadable v ≡ false → eval_result args ≡ read_result v args
  unfolding told
  eval_read k = eval_told ∙ ap (λ (t : Bool). elim t [ true ↦ fails no_expression | false ↦ read_result v args ]) k

module _ (v : Result ℤ EvalError) (args : List Bytes) where
  pub no_radix : bounded 2 36 (number_or (pos 10) 2 args) ≡ None → read_result v args ≡ fails no_number
  unfolding read_result needing
  no_radix e = rw e

  module _ (radix : ℕ) (e : bounded 2 36 (number_or (pos 10) 2 args) ≡ Some radix) where
    pub no_least : bounded 0 2147483647 (number_or (pos 0) 3 args) ≡ None → read_result v args ≡ fails no_number
    unfolding read_result needing
    no_least f = rw (e, f)

    pub both_read : (least : ℕ) → bounded 0 2147483647 (number_or (pos 0) 3 args) ≡ Some least → read_result v args ≡ shown_result v radix least
    unfolding read_result needing
    both_read least f = rw (e, f)

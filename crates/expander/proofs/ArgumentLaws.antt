-- Laws of the arguments of a closed call: which they are, how many and how long, and what number one is. Assumes nothing.
use Rattle.rules.proofs.Base.{◌≤◌, ◌+◌, ℕ, ◌-◌, ◌<◌, suc, zero, ◌∙◌, refl, sym, ap, ◌≡◌, subst, Some, List, [], ◌∷◌, arith, ℤ, length, drop, get_or, length-append, length-drop, drop_of_length-le, List·getD-eq-default, drop-cons, get_or-drop}
use Rattle.rules.specs.Bytes.{Bytes}
use Rattle.rules.specs.Numerals.{number}
use Rattle.rules.specs.Arguments.{arg, number_or}
use Rattle.rules.specs.Streams.{joined}
use Rattle.expander.specs.declared.argument_strings.Arguments.{Arguments}
use Rattle.expander.specs.declared.packed.Packed.{Packed as Strings}
use Rattle.expander.specs.Limits.{most_lent, call_ends_length}
use Rattle.expander.specs.Packed.{Packs, strings_in}
use Rattle.expander.specs.Held.{Held, strings_from}
use Rattle.expander.specs.Arguments.{args_of}
use Rattle.expander.proofs.Packing.{count_is, used_is, strings_are}

-- the n-th argument, counted from 0
pub arg_from : (n : ℕ) (args : List Bytes) → 1 ≤ n → arg n args ≡ get_or args (n - 1) []
unfolding arg
arg_from zero args h = absurd (omega arith)
arg_from (suc i) args h = ap (λ (j : ℕ). get_or args j []) (omega arith)

pub arg_next : (k : ℕ) (args : List Bytes) → arg (k + 1) args ≡ get_or args k []
arg_next k args = arg_from (k + 1) args (omega arith) ∙ ap (λ (j : ℕ). get_or args j []) (omega arith)

pub arg_absent : (n : ℕ) (args : List Bytes) → length args ≤ n - 1 → arg n args ≡ []
unfolding arg
arg_absent zero args le = refl
arg_absent (suc i) args le = List·getD-eq-default args [] (omega (arith, le))

short_of : (ws : List Bytes) (i : ℕ) → length (get_or ws i []) ≤ length (joined ws)
unfolding joined
short_of [] i = omega arith
short_of (w ∷ ws) zero = omega (arith, length-append w (joined ws))
short_of (w ∷ ws) (suc i) = omega (arith, short_of ws i, length-append w (joined ws))

-- packed strings from `base` on, in the bytes and by the ends of the arguments x, are these texts
pub record ArgumentsIn (x : Arguments) (args : List Bytes) : Type 0 where
  pub strings : List Bytes
  pub packs : Packs x.ends.now x.strings.count x.bytes.now x.strings.used strings
  pub are : args ≡ drop x.base strings
  pub base_in : x.base ≤ x.strings.count
  pub few : x.strings.count ≤ call_ends_length
  pub short : length x.bytes.now ≤ most_lent

-- the arguments that x says are so packed
pub held_in : (x : Arguments) → ArgumentsIn x (args_of x)
unfolding args_of strings_from
held_in x =
    record {
      strings = strings_in x.ends.now x.strings.count x.bytes.now;
      packs = x.held.packs;
      are = refl;
      base_in = x.held.base_in;
      few = x.held.few;
      short = x.held.short;
    }

-- what is so packed is what x says
pub args_are : {x : Arguments} {args : List Bytes} → ArgumentsIn x args → args_of x ≡ args
unfolding args_of strings_from
args_are {x} h = ap (drop x.base) (strings_are h.packs) ∙ sym h.are

-- strings that are packed can be held
pub held_by :
    {bytes : Bytes} {ends : List ℕ} {strings : Strings} {base : ℕ} {ss : List Bytes} → Packs ends strings.count bytes strings.used ss → base ≤ strings.count
    → strings.count ≤ call_ends_length → length bytes ≤ most_lent → Held bytes ends strings base
held_by {bytes} {ends} {strings} p b f s =
    record {
      packs = subst (Packs ends strings.count bytes strings.used) (sym (strings_are p)) p;
      base_in = b;
      few = f;
      short = s;
    }

module _ {x : Arguments} {args : List Bytes} (h : ArgumentsIn x args) where
  -- how many there are
  pub arguments_counted : x.strings.count - x.base ≡ length args
  arguments_counted = omega (arith, ap length h.are, length-drop x.base h.strings, count_is h.packs)

  -- the n-th is one of the strings
  argument_at : (n : ℕ) → 1 ≤ n → arg n args ≡ get_or h.strings (x.base + (n - 1)) []
  argument_at n l = arg_from n args l ∙ ap (λ (a : List Bytes). get_or a (n - 1) []) h.are ∙ get_or-drop x.base h.strings (n - 1) []

  pub argument_there :
      (n : ℕ) {s : Bytes} → 1 ≤ n → ((ss : List Bytes) → Packs x.ends.now x.strings.count x.bytes.now x.strings.used ss → s ≡ get_or ss (x.base + (n - 1)) [])
      → s ≡ arg n args
  argument_there n l f = f h.strings h.packs ∙ sym (argument_at n l)

  pub argument_absent : (n : ℕ) → x.strings.count ≤ x.base + (n - 1) → [] ≡ arg n args
  argument_absent n le = sym (arg_absent n args (omega (arith, arguments_counted)))

  -- they are few and short
  pub few_arguments : length args ≤ call_ends_length
  few_arguments = omega (arith, arguments_counted, h.few)

  pub argument_short : (n : ℕ) → 1 ≤ n → length (arg n args) ≤ most_lent
  argument_short n l =
      omega (arith, ap length (argument_at n l), short_of h.strings (x.base + (n - 1)), used_is h.packs, h.packs.used_in, h.short)

-- ---- the number that an argument is

-- with a default
pub or_absent : (d : ℤ) (n : ℕ) (args : List Bytes) → length args ≤ n - 1 → number_or d n args ≡ Some d
unfolding number_or
or_absent d zero args h = refl
or_absent d (suc i) args h = rw (drop_of_length-le args {i = i} (omega (arith, h)), number_or)

pub or_there : (d : ℤ) (n : ℕ) (args : List Bytes) → 1 ≤ n → n - 1 < length args → number_or d n args ≡ number (arg n args)
unfolding number_or arg
or_there d zero args l h = absurd (omega arith)
or_there d (suc i) args l h = rw (drop-cons args i [] (omega (arith, h)), number_or)

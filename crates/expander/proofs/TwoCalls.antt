-- Demand 3 of `expand` itself: room never shapes text. It is stated over `Learnt`, which is what a caller learns of a call from the proved
-- contract of `expand`: a weaker contract breaks it.
use Rattle.rules.proofs.Base.{ℕ, ◌≡◌, subst₂}
use borrow.Fn.World.{ArgsD, ResD}
use borrow.Fn.Kinds.{ended_of}
use contract.Lifetimes.{Lfts}
use denote.Triple.Clauses.{AtExit}
use Rattle.rules.specs.Bytes.{Bytes}
use Rattle.rules.specs.Room.{Lendable, NowhereSmaller}
use Rattle.rules.specs.Contract.{Buffers, setting_of, Expanded, Agree}
use Rattle.rules.proofs.Contract.{calls_agree}
use Rattle.expander.specs.contracts.expand.{signature}
use Rattle.expander.proofs.expand.Kinds as kinds
use Rattle.expander.proofs.expand.Reads.{Learnt}

-- the arguments of a call, and what was lent when it returns
abbrev pub Arguments : Lfts 9 → Type 0
Arguments κs = ArgsD signature κs

abbrev pub Lasting : Lfts 9 → Type 0
Lasting κs = AtExit (ended_of 9 kinds.ps kinds.r) κs

abbrev pub seven : Bytes → Bytes → Bytes → Bytes → Bytes → Bytes → Bytes → Buffers
seven pending calls definitions streams wrap errors output =
    record { pending = pending; calls = calls; definitions = definitions; streams = streams; wrap = wrap; errors = errors; output = output }

-- text, set, budget and buffers of a call, and the buffers after it
module _ (κs : Lfts 9) where
  abbrev pub text_of : Arguments κs → Bytes
  text_of a = a.0.now

  abbrev pub set_of : Arguments κs → Bytes
  set_of a = a.1.0.now

  abbrev pub budget_of : Arguments κs → ℕ
  budget_of a = a.1.1.1.1.1.1.1.1.1.0

  abbrev pub lent_to : Arguments κs → Buffers
  lent_to a =
      seven a.1.1.0.now a.1.1.1.0.now a.1.1.1.1.0.now a.1.1.1.1.1.0.now a.1.1.1.1.1.1.0.now a.1.1.1.1.1.1.1.0.now
      a.1.1.1.1.1.1.1.1.0.now

  abbrev pub left_from : Lasting κs → Buffers
  left_from x =
      seven x.1.1.0.now x.1.1.1.0.now x.1.1.1.1.0.now x.1.1.1.1.1.0.now x.1.1.1.1.1.1.0.now x.1.1.1.1.1.1.1.0.now
      x.1.1.1.1.1.1.1.1.0.now

-- what a caller learns is `Expanded`
pub of_expand : (κs : Lfts 9) (a : Arguments κs) (r : ResD signature κs) (x : Lasting κs) → Learnt κs a r x → Expanded (text_of κs a) (set_of κs a) (budget_of κs a) (lent_to κs a) (left_from κs x) r
of_expand κs a r x h = h

-- the letter's three sentences, as one statement about two calls of `expand` on one text with one set, whatever their buffers held: in the second
-- nothing is smaller, and none of its lengths is above 65,536 bytes
pub calls_monotone_in_room :
    (κs κs' : Lfts 9) (a : Arguments κs) (a' : Arguments κs') (r : ResD signature κs) (r' : ResD signature κs') (x : Lasting κs) (x' : Lasting κs')
    → Learnt κs a r x → Learnt κs' a' r' x' → text_of κs' a' ≡ text_of κs a → set_of κs' a' ≡ set_of κs a → Lendable (setting_of (lent_to κs' a') (budget_of κs' a'))
    → NowhereSmaller (setting_of (lent_to κs a) (budget_of κs a)) (setting_of (lent_to κs' a') (budget_of κs' a'))
    → Agree (setting_of (lent_to κs a) (budget_of κs a)) (setting_of (lent_to κs' a') (budget_of κs' a')) r r' (left_from κs x) (left_from κs' x')
calls_monotone_in_room κs κs' a a' r r' x x' first second text_same set_same lendable wider =
    calls_agree (text_of κs a) (set_of κs a) (budget_of κs a) (budget_of κs' a') (lent_to κs a) (left_from κs x) (lent_to κs' a') (left_from κs' x') r r' lendable wider (of_expand κs a r x first)
    (subst₂ (λ (t u : Bytes). Expanded t u (budget_of κs' a') (lent_to κs' a') (left_from κs' x') r') text_same set_same (of_expand κs' a' r' x' second))

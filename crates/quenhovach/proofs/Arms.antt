-- What a test of classes by their numbers says of a class that came to an arm of a match. Assumes nothing.
use Rattle.rules.proofs.Base.{ℕ, ◌∙◌, refl, sym, ap, ◌≡◌, Bool, inl, inr, List, [], ◌∷◌, map, length, drop, get_or, replicate}
use types.Run.{OneOf}
use denote.Enum.Declared.{tag_of}
use Rattle.rules.specs.declared.Class.{Class}
use Rattle.rules.specs.declared.Class.TheVariants as class
use Rattle.rules.specs.contracts.Class.{the_type}
use Rattle.rules.specs.Bytes.{class_number}

-- a test that says b of each of these numbers says b of one of them
says_of : (test : ℕ → Bool) (b : Bool) (ks : List ℕ) {n : ℕ} → OneOf ks n → map test ks ≡ replicate (length ks) b → b ≡ test n
says_of test b [] h f = absurd h
says_of test b (k ∷ []) h f = sym (ap test h ∙ ap (λ (l : List Bool). get_or l 0 b) f)
says_of test b (k ∷ k' ∷ ks) (inl h) f = sym (ap test h ∙ ap (λ (l : List Bool). get_or l 0 b) f)
says_of test b (k ∷ k' ∷ ks) (inr h) f = says_of test b (k' ∷ ks) h (ap (drop 1) f)

class_number_lem : (c : Class) → tag_of the_type c ≡ class_number c
unfolding class_number
class_number_lem class.Letter = refl
class_number_lem class.Digit = refl
class_number_lem class.Underscore = refl
class_number_lem class.Blank = refl
class_number_lem class.Other = refl

pub arm_says : (test : ℕ → Bool) (b : Bool) (ks : List ℕ) {r c : Class} → r ≡ c → OneOf ks (tag_of the_type r) → map test ks ≡ replicate (length ks) b → b ≡ test (class_number c)
arm_says test b ks {r} e h f = says_of test b ks h f ∙ ap test (class_number_lem r) ∙ ap (λ (c : Class). test (class_number c)) e

-- The answers without a detail.
use Rattle.rules.proofs.Base.{ℕ, refl, ◌≡◌, List, [], ◌∷◌}
use types.Run.{OneOf, miss}
use denote.Enum.Declared.{tag_of}
use Rattle.rules.specs.Answers.{answer_detail}
use Rattle.rules.specs.declared.Answer.{Answer}
use Rattle.rules.specs.declared.Answer.TheVariants as answer
use Rattle.rules.specs.contracts.Answer.{the_type}

-- their places among the variants
abbrev plain : List ℕ
plain = 0 ∷ 2 ∷ 3 ∷ 6 ∷ 7 ∷ 8 ∷ 9 ∷ 10 ∷ 11 ∷ 12 ∷ 13 ∷ 14 ∷ 15 ∷ 16 ∷ []

pub no_detail : (a : Answer) → OneOf plain (tag_of the_type a) → 0 ≡ answer_detail a
unfolding answer_detail
no_detail answer.Done h = refl
no_detail (answer.Exit code) h = absurd (miss plain 1 tt h)
no_detail answer.Lend h = refl
no_detail answer.Spent h = refl
no_detail (answer.Room buffer) h = absurd (miss plain 4 tt h)
no_detail (answer.Unclosed what) h = absurd (miss plain 5 tt h)
no_detail answer.Name h = refl
no_detail answer.Number h = refl
no_detail answer.Expression h = refl
no_detail answer.Divisor h = refl
no_detail answer.Mark h = refl
no_detail answer.NoText h = refl
no_detail answer.Gone h = refl
no_detail answer.Deep h = refl
no_detail answer.BadSet h = refl
no_detail answer.NoItem h = refl
no_detail answer.NoDefinition h = refl

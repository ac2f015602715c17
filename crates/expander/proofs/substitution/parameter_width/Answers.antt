-- `expander::substitution::parameter_width` meets its contract: one byte for a literal, two for the others. Assumes nothing.
use borrow.Enum.Refused.{opened}
use Rattle.rules.proofs.Base.{refl, sym, ap, ◌≡◌, [], ◌∷◌}
use types.Run.{OneOf, miss}
use denote.Enum.Declared.{tag_of}
use Rattle.expander.specs.Substitution.{parameter_width}
use Rattle.expander.specs.declared.substitution.Parameter.{Parameter}
use Rattle.expander.specs.contracts.substitution.Parameter.{the_type}
use Rattle.expander.specs.declared.substitution.Parameter.TheVariants as kind
use Rattle.expander.proofs.substitution.parameter_width.Goals as goal

-- every kind but the last
two : (p : Parameter) → OneOf (0 ∷ 1 ∷ 2 ∷ 3 ∷ 4 ∷ []) (tag_of the_type p) → 2 ≡ parameter_width p
unfolding parameter_width
two kind.Name h = refl
two (kind.Argument n) h = refl
two kind.Count h = refl
two kind.All h = refl
two kind.Quoted h = refl
two (kind.Literal b) h = absurd (miss (0 ∷ 1 ∷ 2 ∷ 3 ∷ 4 ∷ []) 5 tt h)

pub returns-in-Literal : goal.returns-in-Literal
unfolding parameter_width
returns-in-Literal c = ap parameter_width (sym c.in-Literal.is)

pub returns-in_default : goal.returns-in_default
returns-in_default c = two c.args.parameter (opened c.in_default.in_default-own.keys2)

-- What the bytes at a place of a defined text stand for, as the code answers it.
use Rattle.std.specs.Prelude.{◌≡◌, ℕ, ◌+◌, ◌≤◌, List, [], ◌∷◌, ◌++◌, length, drop, pos}
use Rattle.rules.specs.Bytes.{Bytes}
use Rattle.rules.specs.Marks.{MarkTexts}
use Rattle.rules.specs.Numerals.{decimal}
use Rattle.rules.specs.Arguments.{arg, commas, quoted_each, substituted}
use Rattle.expander.specs.Filled.{Filled}
use Rattle.expander.specs.declared.substitution.Parameter.{Parameter}
use Rattle.expander.specs.declared.substitution.Parameter.TheVariants as parameter

-- the text of a parameter
unfoldable pub parameter_text : Bytes → List Bytes → MarkTexts → Parameter → Bytes
parameter_text name args m parameter.Name = name
parameter_text name args m (parameter.Argument n) = arg n args
parameter_text name args m parameter.Count = decimal (pos (length args))
parameter_text name args m parameter.All = commas args
parameter_text name args m parameter.Quoted = commas (quoted_each m args)
parameter_text name args m (parameter.Literal b) = b ∷ []

-- how many bytes of a defined text it takes
unfoldable pub parameter_width : Parameter → ℕ
parameter_width parameter.Name = 2
parameter_width (parameter.Argument n) = 2
parameter_width parameter.Count = 2
parameter_width parameter.All = 2
parameter_width parameter.Quoted = 2
parameter_width (parameter.Literal b) = 1

-- an argument's number is one digit, not 0
unfoldable pub OneDigit : Parameter → Type 0
OneDigit parameter.Name = Unit {0}
OneDigit (parameter.Argument n) = (1 ≤ n) × (n ≤ 9)
OneDigit parameter.Count = Unit {0}
OneDigit parameter.All = Unit {0}
OneDigit parameter.Quoted = Unit {0}
OneDigit (parameter.Literal b) = Unit {0}

-- a parameter leads a defined text
pub record Leads (body : Bytes) (p : Parameter) : Type 0 where
  pub is :
      (name : Bytes) (args : List Bytes) (m : MarkTexts)
      → substituted name args m body ≡ parameter_text name args m p ++ substituted name args m (drop (parameter_width p) body)
  pub within : parameter_width p ≤ length body
  pub digit : OneDigit p

-- a text is written into a buffer at a place, and `end` is the place behind it
pub record Lays (before : Bytes) (at : ℕ) (w after : Bytes) (end : ℕ) : Type 0 where
  pub filled : Filled before at w after
  pub behind : end ≡ at + length w

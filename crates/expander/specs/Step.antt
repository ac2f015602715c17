-- What a byte does in a call, and where a token lies, as the code goes by.
use Rattle.std.specs.Prelude.{◌≡◌, ℕ, ◌+◌, ◌≤◌, Bool, List, [], ◌∷◌}
use Rattle.rules.specs.declared.Token.{Token}
use Rattle.rules.specs.declared.Token.TheVariants as token
use Rattle.rules.specs.Bytes.{Bytes}
use Rattle.rules.specs.State.{Call, State, Outcome, next, with_calls}
use Rattle.rules.specs.Step.{collecting, closed, comma_met, in_call}
use Rattle.expander.specs.declared.source.Position.{Position}
use Rattle.expander.specs.declared.events.Role.{Role}
use Rattle.expander.specs.declared.events.Role.TheVariants as role
use Rattle.expander.specs.Machine.{ahead_of}

-- what follows from the byte x of a role
unfoldable pub by_role : Role → ℕ → Call → List Call → State → Outcome
by_role role.Dropped x c cs s = next s
by_role (role.Collected depth) x c cs s = next (with_calls (collecting (x ∷ []) depth c ∷ cs) s)
by_role role.Closes x c cs s = closed c cs s
by_role role.Separates x c cs s = comma_met c cs s

-- the depth of parentheses that a byte leaves
unfoldable pub deep_at : Role → ℕ
deep_at role.Dropped = 0
deep_at (role.Collected depth) = depth
deep_at role.Closes = 0
deep_at role.Separates = 0

-- r is the role of the byte x in a call with so many parentheses open in the argument, which collected a token or did not
pub record HasRole (x depth : ℕ) (collected : Bool) (r : Role) : Type 0 where
  pub is : (c : Call) (cs : List Call) (s : State) → c.depth ≡ depth → c.collected ≡ collected → in_call x c cs s ≡ by_role r x c cs s
  pub deep : deep_at r ≤ depth + 1

-- the places of a token lie in the text ahead
unfoldable pub TokenWithin : Bytes → Bytes → Position → Token → Type 0
TokenWithin text pending p token.End = ahead_of text pending p ≡ 0
TokenWithin text pending p (token.Comment end) = end ≤ ahead_of text pending p
TokenWithin text pending p (token.Quoted begins ends end) = (begins ≤ ends) × (ends ≤ end) × (end ≤ ahead_of text pending p)
TokenWithin text pending p (token.Name end) = (1 ≤ end) × (end ≤ ahead_of text pending p)
TokenWithin text pending p (token.Byte x) = 1 ≤ ahead_of text pending p

-- The call that a step makes and how it changes the streams, read off the state before it.
use Rattle.std.specs.Prelude.{ℕ, zero, suc, ◌-◌, ◌≡◌, Bool, true, false, ◌&&◌, List, [], ◌∷◌, ◌++◌, map, eqb, pos, take, drop, get_or, Option, None, Some}
use Rattle.rules.specs.declared.Token.{Token}
use Rattle.rules.specs.declared.Token.TheVariants as token
use Rattle.rules.specs.declared.Reading.{Reading}
use Rattle.rules.specs.declared.Reading.TheVariants.{Is, OpenQuote, OpenComment}
use Rattle.rules.specs.Bytes.{Bytes, right_parenthesis}
use Rattle.rules.specs.Answers.{Ending, done, exit, Fault}
use Rattle.rules.specs.Source.{ahead}
use Rattle.rules.specs.Tokens.{read_token}
use Rattle.rules.specs.Table.{Meaning, text, predefined, meaning_of}
use Rattle.rules.specs.Streams.{Streams, Change, places, moves, finishes, drops, diverts, changed_in_turn}
use Rattle.rules.specs.State.{Call, State, Outcome, next, stop, refused, with_calls, taking}
use Rattle.rules.specs.Arguments.{number_or, bounded}
use Rattle.rules.specs.Macros.{undivert_numbers}
use Rattle.rules.specs.Step.{NameUse, plain, opening, bare, name_use}

-- a call that is made, bare (then it has no arguments) or closed: by which meaning, of which name, with which arguments, and the state
-- from which it is already taken
pub record Calling : Type 0 where
  pub meaning : Meaning
  pub name : Bytes
  pub arguments : List Bytes
  pub from : State

-- a name's: 01 "it is called at once without arguments"
unfoldable pub bare_call : NameUse → Bytes → ℕ → State → Option Calling
bare_call plain name end s = None
bare_call opening name end s = None
bare_call (bare m) name end s = Some (record { meaning = m; name = name; arguments = []; from = taking end s })

-- the one that closes: 01 "The definition used is the one in force at closing"
unfoldable pub closed_call : Call → List Call → Option Meaning → State → Option Calling
closed_call c cs None s = None
closed_call c cs (Some m) s = Some (record { meaning = m; name = c.name; arguments = c.finished ++ (c.current ∷ []); from = with_calls cs s })

-- 01 "the right parenthesis at depth zero closes"
unfoldable pub right_call : ℕ → Call → List Call → State → Option Calling
right_call zero c cs s = closed_call c cs (meaning_of c.name s.table) s
right_call (suc d) c cs s = None

unfoldable pub byte_call : ℕ → List Call → State → Option Calling
byte_call x [] s = None
byte_call x (c ∷ cs) s = elim (eqb x right_parenthesis) [ true ↦ right_call c.depth c cs s | false ↦ None ]

unfoldable pub token_call : Token → State → Option Calling
token_call token.End s = None
token_call (token.Comment end) s = None
token_call (token.Quoted begins ends end) s = None
token_call (token.Name end) s =
    let name = take end (ahead s.source) in
    bare_call (name_use name end s) name end s
token_call (token.Byte x) s = byte_call x s.calls (taking 1 s)

unfoldable pub read_call : Reading → State → Option Calling
read_call (Is t) s = token_call t s
read_call (OpenQuote n) s = None
read_call OpenComment s = None

-- the call that the step from a state makes, if it makes one
unfoldable pub call_of : State → Option Calling
call_of s = read_call (read_token s.marks (ahead s.source)) s

-- ---- the changes of a call: of one that is refused none

unfoldable pub divert_changes : List Bytes → List Change
divert_changes args = elim (number_or (pos 0) 1 args) [ None ↦ [] | Some n ↦ diverts n ∷ [] ]

unfoldable pub exit_changes : List Bytes → List Change
exit_changes args = elim (bounded 0 255 (number_or (pos 0) 1 args)) [ None ↦ [] | Some code ↦ drops ∷ [] ]

unfoldable pub undivert_changes : List Bytes → List Change
undivert_changes args = elim (undivert_numbers args) [ None ↦ [] | Some ns ↦ map moves ns ]

unfoldable pub no_changes : List Bytes → List Change
no_changes args = []

-- those of the macros by their numbers, from 1, in the order of `macros`
unfoldable pub macro_changes : List (List Bytes → List Change)
macro_changes =
    no_changes
    ∷ no_changes
    ∷ no_changes
    ∷ no_changes
    ∷ no_changes
    ∷ divert_changes
    ∷ no_changes
    ∷ no_changes
    ∷ no_changes
    ∷ no_changes
    ∷ no_changes
    ∷ no_changes
    ∷ no_changes
    ∷ no_changes
    ∷ no_changes
    ∷ exit_changes
    ∷ no_changes
    ∷ no_changes
    ∷ no_changes
    ∷ no_changes
    ∷ no_changes
    ∷ no_changes
    ∷ no_changes
    ∷ undivert_changes
    ∷ no_changes
    ∷ no_changes
    ∷ no_changes
    ∷ []

unfoldable pub call_changes : Meaning → List Bytes → List Change
call_changes (text x) args = []
call_changes (predefined zero) args = []
call_changes (predefined (suc i)) args = (get_or macro_changes i no_changes) args

-- ---- the changes of a step

-- a token that stands for itself: 01 "Outside calls, tokens go to the current stream"
unfoldable pub own_changes : Bytes → List Call → List Change
own_changes w [] = places w ∷ []
own_changes w (c ∷ cs) = []

-- a name that makes no call stands for itself or opens one
unfoldable pub name_changes : NameUse → Bytes → List Call → List Change
name_changes plain name cs = own_changes name cs
name_changes opening name cs = []
name_changes (bare m) name cs = []

-- 01 "else streams 1 to 9 are appended to the output in order and the run is done"
unfoldable pub end_changes : List Call → Bytes → List Change
end_changes [] [] = finishes ∷ []
end_changes [] (x ∷ xs) = []
end_changes (c ∷ cs) wrap = []

-- a token that makes no call
unfoldable pub token_changes : Token → State → List Change
token_changes token.End s = end_changes s.calls s.wrap
token_changes (token.Comment end) s = own_changes (take end (ahead s.source)) s.calls
token_changes (token.Quoted begins ends end) s = own_changes (take (ends - begins) (drop begins (ahead s.source))) s.calls
token_changes (token.Name end) s =
    let name = take end (ahead s.source) in
    name_changes (name_use name end s) name s.calls
token_changes (token.Byte x) s = own_changes (x ∷ []) s.calls

unfoldable pub read_changes : Reading → State → List Change
read_changes (Is t) s = token_changes t s
read_changes (OpenQuote n) s = []
read_changes OpenComment s = []

-- those of the call, if there is one
unfoldable pub call_or : Option Calling → List Change → List Change
call_or None cs = cs
call_or (Some c) cs = call_changes c.meaning c.arguments

-- the changes that the step from a state makes of the streams, in turn
unfoldable pub changes_of : State → List Change
changes_of s = call_or (call_of s) (read_changes (read_token s.marks (ahead s.source)) s)

-- what a step may change that does not end the run
unfoldable pub is_working : Change → Bool
is_working (places w) = true
is_working (moves n) = true
is_working finishes = false
is_working drops = false
is_working (diverts n) = true

unfoldable pub all_working : List Change → Bool
all_working [] = true
all_working (x ∷ xs) = is_working x && all_working xs

-- the one change of a step that ends it
unfoldable pub ending_change : Ending → Change
ending_change done = finishes
ending_change (exit code) = drops

-- an outcome makes these changes of the streams and no other; a refusal makes none
pub record Makes (cs : List Change) (u : Streams) (o : Outcome) : Type 0 where
  pub on : (t : State) → o ≡ next t → t.streams ≡ changed_in_turn cs u
  pub ended : (x : Ending) (t : State) → o ≡ stop x t → t.streams ≡ changed_in_turn cs u
  pub nothing : (f : Fault) → o ≡ refused f → cs ≡ []

-- and the changes say whether the run goes on: those of a step that ends it are its ending's alone
pub record MakesWholly (cs : List Change) (u : Streams) (o : Outcome) : Type 0 where
  pub on : (t : State) → o ≡ next t → (t.streams ≡ changed_in_turn cs u) × (all_working cs ≡ true)
  pub ended : (x : Ending) (t : State) → o ≡ stop x t → (t.streams ≡ changed_in_turn cs u) × (cs ≡ ending_change x ∷ [])
  pub nothing : (f : Fault) → o ≡ refused f → cs ≡ []

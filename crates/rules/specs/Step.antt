-- One step: 01 "A step takes one token, and all its consequences belong to that step". Nothing here knows of room.
use Rattle.std.specs.Prelude.{ℕ, zero, suc, ◌+◌, ◌-◌, Bool, true, false, cond, ◌||◌, List, [], ◌∷◌, ◌++◌, leb, eqb, length, take, drop, get_or, Option, None, Some}
use Rattle.rules.specs.declared.Token.{Token}
use Rattle.rules.specs.declared.Token.TheVariants as token
use Rattle.rules.specs.declared.Reading.{Reading}
use Rattle.rules.specs.declared.Reading.TheVariants.{Is, OpenQuote, OpenComment}
use Rattle.rules.specs.Bytes.{Bytes, is_blank, left_parenthesis, comma, right_parenthesis}
use Rattle.rules.specs.Answers.{done, unclosed_quote, unclosed_comment, unclosed_call, deep}
use Rattle.rules.specs.Source.{ahead}
use Rattle.rules.specs.Tokens.{read_token}
use Rattle.rules.specs.Table.{Meaning, text, predefined, needs_parenthesis, meaning_of}
use Rattle.rules.specs.Streams.{finishes}
use Rattle.rules.specs.State.{Call, State, Outcome, next, stop, refused, with_calls, with_wrap, taking, resulting, changing, emitting}
use Rattle.rules.specs.Macros.{called}

-- 01 "At end: an open call is refused; else waiting wrap text of one byte or more .. becomes pending; else streams 1 to 9 are appended
-- to the output in order and the run is done"
unfoldable pub at_end : List Call → Bytes → State → Outcome
at_end (c ∷ cs) wrap s = refused unclosed_call
at_end [] (x ∷ xs) s = next (resulting (x ∷ xs) (with_wrap [] s))
at_end [] [] s = stop done (changing (finishes ∷ []) s)

-- bytes that the innermost call collects, and its depth of parentheses then
unfoldable pub collecting : Bytes → ℕ → Call → Call
collecting w depth c = record { name = c.name; finished = c.finished; current = c.current ++ w; depth = depth; collected = true }

-- a token that stands for itself: an argument collects it, or it goes to the current stream
unfoldable pub delivered : Bytes → List Call → State → State
delivered w [] s = emitting w s
delivered w (c ∷ cs) s = with_calls (collecting w c.depth c ∷ cs) s

-- the arguments over all open calls
unfoldable pub argument_count : List Call → ℕ
argument_count [] = 0
argument_count (c ∷ cs) = suc (length c.finished) + argument_count cs

-- a call with its first argument: 01 "an opened call has its first argument at once"
unfoldable pub open_call : Bytes → Call
open_call name = record { name = name; finished = []; current = []; depth = 0; collected = false }

-- how many calls may be open, and how many arguments they may have together
abbrev pub most_calls : ℕ
most_calls = 64

abbrev pub most_arguments : ℕ
most_arguments = 256

-- refusal 13: "a 65th open call, or a 257th argument over all open calls"
unfoldable pub opened : Bytes → State → Outcome
opened name s =
    elim (leb most_calls (length s.calls) || leb most_arguments (argument_count s.calls)) [
      | true ↦ refused deep
      | false ↦ next (with_calls (open_call name ∷ s.calls) s)
    ]

-- what a name does where it is read: it stands for itself, it opens a call, or it is called at once without arguments
pub data NameUse : Type 0 where
  plain : NameUse
  opening : NameUse
  bare : Meaning → NameUse

-- a name that no `(` directly follows: 01 "Otherwise it is called at once without arguments", but for the predefined meanings of 02,
-- request 2. The meaning counts there and not the name: a text in the place of `len` is called
unfoldable pub unopened : Meaning → NameUse
unopened (text w) = bare (text w)
unopened (predefined k) = cond (needs_parenthesis k) plain (bare (predefined k))

-- the use of a name, by its meaning and by whether `(` directly follows: 01 "A defined name directly followed by `(` opens a call"
unfoldable pub used_with : Option Meaning → Bool → NameUse
used_with None follows = plain
used_with (Some m) true = opening
used_with (Some m) false = unopened m

-- the use of the name that ends at `end` in the text ahead
unfoldable pub name_use : Bytes → ℕ → State → NameUse
name_use name end s = used_with (meaning_of name s.table) (eqb (get_or (ahead s.source) end 0) left_parenthesis)

-- 02 "shall stand as plain text": a token that stands for itself; 01 "opens a call, and that byte belongs to the same step"; 01 "is called
-- at once without arguments"
unfoldable pub named : NameUse → Bytes → ℕ → State → Outcome
named plain name end s = next (delivered name s.calls (taking end s))
named opening name end s = opened name (taking (suc end) s)
named (bare m) name end s = called (Some m) name [] (taking end s)

-- 01 "The definition used is the one in force at closing"
unfoldable pub closed : Call → List Call → State → Outcome
closed c cs s = called (meaning_of c.name s.table) c.name (c.finished ++ (c.current ∷ [])) (with_calls cs s)

-- 01 "A comma at depth zero starts the next argument"
unfoldable pub next_argument : Call → Call
next_argument c = record { name = c.name; finished = c.finished ++ (c.current ∷ []); current = []; depth = 0; collected = false }

unfoldable pub comma_met : Call → List Call → State → Outcome
comma_met c cs s = elim (leb most_arguments (argument_count (c ∷ cs))) [ true ↦ refused deep | false ↦ next (with_calls (next_argument c ∷ cs) s) ]

-- 01 "the right parenthesis at depth zero closes"
unfoldable pub right_met : ℕ → Call → List Call → State → Outcome
right_met zero c cs s = closed c cs s
right_met (suc d) c cs s = next (with_calls (collecting (right_parenthesis ∷ []) d c ∷ cs) s)

unfoldable pub comma_at_depth : ℕ → Call → List Call → State → Outcome
comma_at_depth zero c cs s = comma_met c cs s
comma_at_depth (suc d) c cs s = next (with_calls (collecting (comma ∷ []) (suc d) c ∷ cs) s)

-- 01 "unquoted spaces, tabs and newlines before the first collected token of an argument are dropped"
unfoldable pub other_met : ℕ → Call → List Call → State → Outcome
other_met x c cs s =
    elim (is_blank x) [
      | true ↦ elim c.collected [ true ↦ next (with_calls (collecting (x ∷ []) c.depth c ∷ cs) s) | false ↦ next s ]
      | false ↦ next (with_calls (collecting (x ∷ []) c.depth c ∷ cs) s)
    ]

-- a byte in an argument: 01 "Unquoted parentheses nest"
unfoldable pub in_call : ℕ → Call → List Call → State → Outcome
in_call x c cs s =
    elim (eqb x left_parenthesis) [
      | true ↦ next (with_calls (collecting (x ∷ []) (suc c.depth) c ∷ cs) s)
      | false ↦
          elim (eqb x right_parenthesis) [
            | true ↦ right_met c.depth c cs s
            | false ↦ elim (eqb x comma) [ true ↦ comma_at_depth c.depth c cs s | false ↦ other_met x c cs s ]
          ]
    ]

-- 01 "Outside calls, tokens go to the current stream"
unfoldable pub single_byte : ℕ → List Call → State → Outcome
single_byte x [] s = next (emitting (x ∷ []) s)
single_byte x (c ∷ cs) s = in_call x c cs s

-- what follows from a token
unfoldable pub act : Token → State → Outcome
act token.End s = at_end s.calls s.wrap s
act (token.Comment end) s = next (delivered (take end (ahead s.source)) s.calls (taking end s))
act (token.Quoted begins ends end) s =
    next (delivered (take (ends - begins) (drop begins (ahead s.source))) s.calls (taking end s))
act (token.Name end) s =
    let name = take end (ahead s.source) in
    named (name_use name end s) name end s
act (token.Byte x) s = single_byte x s.calls (taking 1 s)

-- 01 "An unclosed quote or comment is refused"
unfoldable pub reacted : Reading → State → Outcome
reacted (Is t) s = act t s
reacted (OpenQuote n) s = refused unclosed_quote
reacted OpenComment s = refused unclosed_comment

unfoldable pub step : State → Outcome
step s = reacted (read_token s.marks (ahead s.source)) s

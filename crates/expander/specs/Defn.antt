-- How long the result of defn is, as the code answers it, and what a single name gives to it.
use Rattle.std.specs.Prelude.{ℕ, ◌+◌, [], length, None, Some, Result, Ok, Err}
use Rattle.rules.specs.Bytes.{Bytes}
use Rattle.rules.specs.Marks.{MarkTexts, quoted}
use Rattle.rules.specs.Table.{text, predefined, Table, meaning_of}
use Rattle.rules.specs.Results.{Result as Given, yields, fails, in_front}
use Rattle.rules.specs.declared.Answer.{Answer}
use Rattle.rules.specs.Answers.{fault_answer, no_text}

-- how long a result is, or the answer that refuses it
unfoldable pub measured_as : Given → Result ℕ Answer
measured_as (yields w) = Ok (length w)
measured_as (fails f) = Err (fault_answer f)

-- what a name gives to the result
unfoldable pub named_result : MarkTexts → Table → Bytes → Given
named_result m t w = elim (meaning_of w t) [ None ↦ yields [] | Some (text x) ↦ yields (quoted m x) | Some (predefined k) ↦ fails no_text ]

-- a result and the one behind it
unfoldable pub followed_by : Given → Given → Given
followed_by (yields w) r = in_front w r
followed_by (fails f) r = fails f

-- n bytes more
unfoldable pub longer : ℕ → Result ℕ Answer → Result ℕ Answer
longer n (Ok k) = Ok (n + k)
longer n (Err x) = Err x

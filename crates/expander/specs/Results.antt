-- What the functions that work out results answer: a number to be written, or a part of an argument.
use Rattle.std.specs.Prelude.{Bool, true, false, List, [], pos, Result, Ok, Err, ℤ}
use Rattle.std.specs.Borrow.{Bor}
use Rattle.rules.specs.declared.Answer.{Answer}
use Rattle.rules.specs.declared.EvalError.{EvalError}
use Rattle.rules.specs.Bytes.{Bytes}
use Rattle.rules.specs.Answers.{fault_answer, no_item}
use Rattle.rules.specs.Words.{largest}
use Rattle.rules.specs.Numerals.{written_in}
use Rattle.rules.specs.Results.{Result as Given, yields, fails, needing, shown_result}
use Rattle.rules.specs.Arguments.{number_or, bounded}
use Rattle.expander.specs.declared.numeral.Numeral.{Numeral}

-- a result of the book: the text, or the answer that refuses it
unfoldable pub answered : Given → Result Bytes Answer
answered (yields w) = Ok w
answered (fails f) = Err (fault_answer f)

-- the text of a number
unfoldable pub number_text : Result Numeral Answer → Result Bytes Answer
number_text (Ok n) = Ok (written_in n.radix n.least n.value)
number_text (Err x) = Err x

-- the text that a slice is
unfoldable pub part_text : Result (Bor Bytes) Answer → Result Bytes Answer
part_text (Ok s) = Ok s.now
part_text (Err x) = Err x

-- what an item gives that is not in the set, where it is needed and where it is not
unfoldable pub unknown : Bool → Given
unknown true = fails no_item
unknown false = yields []

-- eval's result from a value that could be read
unfoldable pub read_result : Result ℤ EvalError → List Bytes → Given
read_result v args =
    needing (bounded 2 36 (number_or (pos 10) 2 args))
    (λ radix. needing (bounded 0 largest (number_or (pos 0) 3 args)) (λ least. shown_result v radix least))

-- The answers of 01's table, their numbers and details, and why a step ends or is refused.
use Rattle.std.specs.Prelude.{ℕ, Bool, ◌||◌, List, [], ◌∷◌, leb, eqb}
use Rattle.rules.specs.declared.Answer.{Answer}
use Rattle.rules.specs.declared.Answer.TheVariants as answer
use Rattle.rules.specs.declared.Report.{Report}

-- the column "No."
unfoldable pub answer_number : Answer → ℕ
answer_number answer.Done = 0
answer_number (answer.Exit code) = 1
answer_number answer.Lend = 2
answer_number answer.Spent = 3
answer_number (answer.Room buffer) = 4
answer_number (answer.Unclosed what) = 5
answer_number answer.Name = 6
answer_number answer.Number = 7
answer_number answer.Expression = 8
answer_number answer.Divisor = 9
answer_number answer.Mark = 10
answer_number answer.NoText = 11
answer_number answer.Gone = 12
answer_number answer.Deep = 13
answer_number answer.BadSet = 14
answer_number answer.NoItem = 15
answer_number answer.NoDefinition = 16

-- the column "Detail"
unfoldable pub answer_detail : Answer → ℕ
answer_detail answer.Done = 0
answer_detail (answer.Exit code) = code
answer_detail answer.Lend = 0
answer_detail answer.Spent = 0
answer_detail (answer.Room buffer) = buffer
answer_detail (answer.Unclosed what) = what
answer_detail answer.Name = 0
answer_detail answer.Number = 0
answer_detail answer.Expression = 0
answer_detail answer.Divisor = 0
answer_detail answer.Mark = 0
answer_detail answer.NoText = 0
answer_detail answer.Gone = 0
answer_detail answer.Deep = 0
answer_detail answer.BadSet = 0
answer_detail answer.NoItem = 0
answer_detail answer.NoDefinition = 0

-- 0 and 1: what is not a refusal
unfoldable pub is_finished : Answer → Bool
is_finished a = leb (answer_number a) 1

-- room or spent: what more room or budget might have let go on
abbrev pub is_stopped_number : ℕ → Bool
is_stopped_number n = eqb n 3 || eqb n 4

unfoldable pub is_stopped : Answer → Bool
is_stopped a = is_stopped_number (answer_number a)

-- 01 "The numbers of an answer": number, detail, completed steps and place, and the counts of output and error bytes
unfoldable pub numbers : Report → List ℕ
numbers r = answer_number r.answer ∷ answer_detail r.answer ∷ r.steps ∷ r.place ∷ r.output ∷ r.errors ∷ []

-- how a step ends a run by itself: the text is used up, or m4exit with a code
pub data Ending : Type 0 where
  done : Ending
  exit : ℕ → Ending

unfoldable pub ending_answer : Ending → Answer
ending_answer done = answer.Done
ending_answer (exit code) = answer.Exit code

-- why a step is refused, apart from room: the answers 5 to 13, 15 of 02, request 1, and 16 of request 7
pub data Fault : Type 0 where
  unclosed_quote unclosed_comment unclosed_call no_name no_number no_expression divisor bad_mark no_text gone deep no_item no_definition : Fault

unfoldable pub fault_answer : Fault → Answer
fault_answer unclosed_quote = answer.Unclosed 1
fault_answer unclosed_comment = answer.Unclosed 2
fault_answer unclosed_call = answer.Unclosed 3
fault_answer no_name = answer.Name
fault_answer no_number = answer.Number
fault_answer no_expression = answer.Expression
fault_answer divisor = answer.Divisor
fault_answer bad_mark = answer.Mark
fault_answer no_text = answer.NoText
fault_answer gone = answer.Gone
fault_answer deep = answer.Deep
fault_answer no_item = answer.NoItem
fault_answer no_definition = answer.NoDefinition

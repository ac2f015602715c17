-- Request 8 of document 02 of `expand` itself: every byte once. As demand 3 (TwoCalls), it is stated over what a caller learns of a call from the proved contract.
use Rattle.rules.proofs.Base.{take}
use borrow.Fn.World.{ResD}
use contract.Lifetimes.{Lfts}
use Rattle.rules.specs.Answers.{answer_number}
use Rattle.rules.specs.State.{fresh_start}
use Rattle.rules.specs.Contract.{setting_of}
use Rattle.rules.specs.History.{history_of, EveryByteOnce}
use Rattle.rules.proofs.Once.{calls_once}
use Rattle.expander.specs.contracts.expand.{signature}
use Rattle.expander.proofs.expand.Reads.{Learnt}
use Rattle.expander.proofs.TwoCalls.{Arguments, Lasting, text_of, set_of, budget_of, lent_to, left_from, of_expand}

-- of a call that answers done or exit, the written bytes have the numbers of the run's history
pub call_writes_once :
    (κs : Lfts 9) (a : Arguments κs) (r : ResD signature κs) (x : Lasting κs) → Learnt κs a r x
    → EveryByteOnce (history_of (fresh_start (text_of κs a) (set_of κs a)) (setting_of (lent_to κs a) (budget_of κs a))) (answer_number r.answer) (take r.output (left_from κs x).output)
call_writes_once κs a r x learnt = calls_once (text_of κs a) (set_of κs a) (budget_of κs a) (lent_to κs a) (left_from κs x) r (of_expand κs a r x learnt)

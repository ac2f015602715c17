-- Request 8 of document 02 of `quenhovach_expand` itself, in what it gives back and the six numbers of its report: every byte once.
use Rattle.rules.proofs.Base.{ℕ, refl, List, take, get_or}
use borrow.Fn.World.{ResD}
use contract.Lifetimes.{Lfts}
use Rattle.rules.specs.Bytes.{Bytes}
use Rattle.rules.specs.Answers.{numbers}
use Rattle.rules.specs.State.{fresh_start}
use Rattle.rules.specs.Contract.{Buffers, setting_of, report_of, run_in}
use Rattle.rules.specs.History.{history_of, EveryByteOnce}
use Rattle.rules.proofs.Once.{calls_once}
use Rattle.quenhovach.specs.Reported.{Reported}
use Rattle.quenhovach.specs.contracts.quenhovach_expand.{signature}
use Rattle.quenhovach.proofs.quenhovach_expand.Reads.{Learnt}
use Rattle.quenhovach.proofs.TwoCalls.{Arguments, Lasting, text_of, set_of, budget_of, lent_to, left_from, report_in}

-- of any function that promises `Reported`: the fifth number of a report counts the written bytes of the output
pub reports_once :
    (text set : Bytes) (budget : ℕ) (before after : Buffers) (n : ℕ) (report : List ℕ) → Reported text set budget before after n report
    → EveryByteOnce (history_of (fresh_start text set) (setting_of before budget)) n (take (get_or report 4 0) after.output)
unfolding numbers report_of
reports_once text set budget before after n report e =
    rw (e.number_is, e.report_is) (calls_once text set budget before after (report_of (run_in text set before budget)) (record { report = refl; buffers = e.buffers_are }))

pub call_writes_once :
    (κs : Lfts 10) (a : Arguments κs) (n : ResD signature κs) (x : Lasting κs) → Learnt κs a n x
    → EveryByteOnce (history_of (fresh_start (text_of κs a) (set_of κs a)) (setting_of (lent_to κs a) (budget_of κs a))) n (take (get_or (report_in κs x) 4 0) (left_from κs x).output)
call_writes_once κs a n x learnt = reports_once (text_of κs a) (set_of κs a) (budget_of κs a) (lent_to κs a) (left_from κs x) n (report_in κs x) learnt

-- What a call from C promises: the number that it gives back, the six numbers of its report, and every byte of the seven buffers.
use Rattle.std.specs.Prelude.{ℕ, ◌≡◌, List}
use Rattle.rules.specs.Bytes.{Bytes}
use Rattle.rules.specs.Answers.{answer_number, numbers}
use Rattle.rules.specs.Contract.{Buffers, report_of, left_by, run_in}

-- a call on a text with a set: n is what it gives back, `report` its numbers as 01 lists them ("The numbers of an answer"), `after` what the buffers then hold
pub record Reported (text set : Bytes) (budget : ℕ) (before after : Buffers) (n : ℕ) (report : List ℕ) : Type 0 where
  pub number_is : n ≡ answer_number (run_in text set before budget).answer
  pub report_is : report ≡ numbers (report_of (run_in text set before budget))
  pub buffers_are : after ≡ left_by (run_in text set before budget) before

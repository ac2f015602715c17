-- What a machine makes of a result that was written before its text ahead.
use Rattle.std.specs.Prelude.{ℕ, ◌-◌, true, false, nat_le, Result, Ok, Err}
use Rattle.rules.specs.declared.Answer.{Answer}
use Rattle.rules.specs.declared.Answer.TheVariants as answer
use Rattle.expander.specs.declared.machine.Machine.{Machine}
use Rattle.expander.specs.declared.machine.Stepped.{Stepped}
use Rattle.expander.specs.declared.machine.Progress.TheVariants as progress
use Rattle.expander.specs.Machine.{source_set, stepped}

-- where n bytes begin that end at a place, if buffer 1 has room for them
unfoldable pub place_before : ℕ → ℕ → Result ℕ Answer
place_before from n = elim (nat_le n from) [ true ↦ Ok (from - n) | false ↦ Err (answer.Room 1) ]

-- the machine with what was written from a place on, or its refusal
unfoldable pub pushed_step : Machine → Result ℕ Answer → Stepped
pushed_step m (Ok at) = stepped progress.On (source_set (record { from = at; taken = m.source.taken }) m)
pushed_step m (Err x) = stepped (progress.Refused x) m

-- The bounds of a run, and the lengths of the links that follow from them, as src/limits.rt has them for the code.
use Rattle.std.specs.Prelude.{ℕ, ◌+◌, ◌-◌, ◌*◌, ◌/◌, ◌^◌}
-- bytes of the text, and of a buffer that is lent
pub use Rattle.rules.specs.Run.{most_lent}
-- open calls, and arguments over all of them
pub use Rattle.rules.specs.Step.{most_calls, most_arguments}
-- buckets of names
pub use Rattle.hashing.specs.Hashing.{bucket_count}
-- predefined macros, as many as the book names (law `Fresh-in` of Rows)
pub use Rattle.builtins.specs.Numbers.{macro_count}

-- the mask in which each predefined macro keeps its own meaning
abbrev pub all_own : ℕ
all_own = 2 ^ macro_count - 1

-- the ends of an open call's strings, its name and its arguments; four words for each call
abbrev pub call_ends_length : ℕ
call_ends_length = most_calls + most_arguments

abbrev pub stack_length : ℕ
stack_length = 4 * most_calls

-- the ends of name and text for each definition, which has a byte at least; behind them its meaning, of four definitions in a word; its link
-- to the next older definition of its bucket, of two in a word; and a word for each bucket
abbrev pub meanings_start : ℕ
meanings_start = 2 * most_lent

abbrev pub links_start : ℕ
links_start = meanings_start + most_lent / 4

abbrev pub heads_start : ℕ
heads_start = links_start + most_lent / 2

abbrev pub table_ends_length : ℕ
table_ends_length = heads_start + bucket_count

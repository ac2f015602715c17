-- The arguments of a call that is closed, and the marks that lists of them are written with.
use Rattle.std.specs.Prelude.{◌≤◌, true, false, List, length, ◌==◌}
use Rattle.rules.specs.declared.Marks.{Marks}
use Rattle.rules.specs.Bytes.{Bytes}
use Rattle.rules.specs.Arguments.{arg}
use Rattle.expander.specs.declared.argument_strings.Arguments.{Arguments}
use Rattle.expander.specs.Held.{strings_from}

-- the arguments themselves
unfoldable pub args_of : Arguments → List Bytes
args_of x = strings_from x.ends.now x.strings x.bytes.now x.base

-- the second argument, or w where there is one argument
unfoldable pub second_or : Bytes → List Bytes → Bytes
second_or w args = elim (length args == 1) [ true ↦ w | false ↦ arg 2 args ]

-- the quote marks have at most five bytes each, or none
pub record ShortQuotes (m : Marks) : Type 0 where
  pub begin_most : m.begin_quote.len ≤ 5
  pub end_most : m.end_quote.len ≤ 5

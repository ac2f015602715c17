-- `lines::rank` meets its contract: the ones of the word masked below the place. Assumes nothing.
use Rattle.rules.proofs.Base.{◌%◌, arith}
use Rattle.lines.proofs.WordLaws.{masked}
use Rattle.lines.proofs.rank.Goals as goal

pub returns : goal.returns
returns c = masked c.args.word (c.args.place % 64) (omega arith)

-- `container::chunks::number_at` meets its contract: its four bytes make the number. Assumes nothing.
use Rattle.rules.proofs.Base.{◌∙◌}
use Rattle.container.proofs.Reading.{four_at}
use Rattle.container.proofs.chunks.number_at.Goals as goal

pub returns-clause-value : goal.returns-clause-value
returns-clause-value c = c.from_le_bytes.ensures ∙ four_at c.args.w.now c.args.at c.requires

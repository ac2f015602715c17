-- `expander::meanings::put` meets its contract. Assumes nothing.
use Rattle.expander.proofs.MeaningLaws.{put_is}
use Rattle.expander.proofs.meanings.put.Goals as goal

pub returns : goal.returns
returns c = put_is c.args.i c.requires.1 c.put.ensures

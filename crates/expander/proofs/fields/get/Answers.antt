-- `expander::fields::get` meets its contract: one number of a word. Assumes nothing.
use Rattle.expander.proofs.FieldLaws.{got}
use Rattle.expander.proofs.fields.get.Goals as goal

pub returns : goal.returns
returns g c = let a = c.args in got g.row.WIDTH c.requires.width a.i a.start a.words.now

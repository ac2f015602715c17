-- `expander::lists::fill_mark` meets its contract: the mark's text is the part of its bytes. Assumes nothing.
use Rattle.rules.proofs.Base.{refl}
use Rattle.rules.specs.Marks.{mark_text}
use Rattle.expander.proofs.lists.fill_mark.Goals as goal

pub returns : goal.returns
unfolding mark_text
returns c = (c.fill_slice.ensures, refl)

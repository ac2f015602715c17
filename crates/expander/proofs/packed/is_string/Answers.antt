-- `expander::packed::is_string` meets its contract: a part is compared. Assumes nothing.
use Rattle.rules.proofs.Base.{◌∙◌, ap}
use Rattle.rules.specs.Bytes.{same_bytes}
use Rattle.expander.proofs.packed.is_string.Goals as goal

pub returns : goal.returns
returns c = λ count used ss h l. c.same.ensures ∙ ap (same_bytes c.args.s.now) (c.part.ensures count used ss h l)

pub part-requires : goal.part-requires
part-requires c = c.requires

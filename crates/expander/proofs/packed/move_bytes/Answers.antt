-- `expander::packed::move_bytes` meets its contract: the bytes are copied, or stay. Assumes nothing.
use Rattle.rules.proofs.Base.{◌∙◌, arith}
use Rattle.expander.proofs.Overwriting.{moved_at, unmoved_at}
use Rattle.expander.proofs.packed.move_bytes.Goals as goal

pub returns-then-to-from : goal.returns-then-to-from
returns-then-to-from c =
    let a = c.args in
    c.copy_within.ensures.after ∙ moved_at a.bytes.now a.to a.from a.end (omega arith)

pub returns-else-to-from : goal.returns-else-to-from
returns-else-to-from c =
    let a = c.args in
    unmoved_at a.bytes.now a.to a.from a.end (omega arith) (omega arith) (omega arith)

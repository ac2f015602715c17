-- `expander::packed::string` meets its contract: it is a part. Assumes nothing.
use Rattle.expander.proofs.packed.string.Goals as goal

pub part-requires : goal.part-requires
part-requires c =
    record { count = c.args.p.count; used = c.args.p.used; formed = c.requires.formed; within = c.requires.k_lt_count }

pub returns : goal.returns
returns c = λ ss h. c.part.ensures c.args.p.count c.args.p.used ss h c.requires.k_lt_count

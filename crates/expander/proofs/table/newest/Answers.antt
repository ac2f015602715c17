-- `expander::table::newest` meets its contract: the search through the bucket of the name. Assumes nothing.
use Rattle.expander.proofs.table.newest.Goals as goal

pub newest_in-requires : goal.newest_in-requires
newest_in-requires c = record { some_definitions = record { packed = c.args.packed; valid = c.requires }; bucket_value = c.bucket_of.ensures }

pub returns : goal.returns
returns c = λ ds h. c.newest_in.ensures c.args.packed ds h

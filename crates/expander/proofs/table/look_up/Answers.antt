-- `expander::table::look_up` meets its contract: what is found with the bucket of the name. Assumes nothing.
use Rattle.expander.proofs.table.look_up.Goals as goal

pub look_up_in-requires : goal.look_up_in-requires
look_up_in-requires c = record { some_definitions = record { packed = c.args.packed; valid = c.requires }; bucket_value = c.bucket_of.ensures }

pub returns : goal.returns
returns c = λ t h. c.look_up_in.ensures c.args.packed t h

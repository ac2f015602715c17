-- `expander::table::meaning_of` meets its contract: the name's own meaning where no definition is in its bucket, else what `look_up_in` answers. Assumes nothing.
use Rattle.rules.proofs.Base.{◌∙◌, sym, ap, arith}
use Rattle.builtins.specs.Numbers.{candidate_in}
use Rattle.hashing.proofs.Laws.{bucket_below}
use Rattle.expander.proofs.Rows.{represents_own}
use Rattle.expander.proofs.table.meaning_of.Goals as goal

pub returns-then-none_in : goal.returns-then-none_in
returns-then-none_in c =
    λ t h. represents_own h c.args.name.now (c.none_in.ensures c.if-none_in.true c.args.bytes.now t.definitions c.args.name.now h.holds (sym c.requires.bucket_value)) c.own_meaning.ensures

pub returns : goal.returns
returns c = λ t h. c.look_up_in.ensures c.args.packed t h

pub none_in-requires : goal.none_in-requires
none_in-requires c = (c.requires.valid_definitions.holds.ends_are, omega (arith, c.requires.bucket_value, bucket_below c.args.name.now))

pub candidate_at-requires : goal.candidate_at-requires
candidate_at-requires c = (c.requires.valid_definitions.holds.ends_are, omega (arith, c.requires.bucket_value, bucket_below c.args.name.now), c.requires.valid_definitions.holds.chained.candidates)

pub own_meaning-requires : goal.own_meaning-requires
own_meaning-requires c = c.candidate_at.ensures ∙ ap candidate_in c.requires.bucket_value

pub look_up_in-requires : goal.look_up_in-requires
look_up_in-requires c = record { some_definitions = record { packed = c.args.packed; valid = c.requires.valid_definitions }; bucket_value = c.requires.bucket_value }

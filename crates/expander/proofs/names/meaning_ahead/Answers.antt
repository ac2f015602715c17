-- `expander::names::meaning_ahead` meets its contract. Assumes nothing.
use Rattle.rules.proofs.Base.{◌∙◌, sym, ap, arith, take}
use Rattle.hashing.specs.Hashing.{bucket_of}
use Rattle.hashing.proofs.Laws.{bucket_below}
use Rattle.expander.specs.Machine.{bytes_ahead}
use Rattle.expander.proofs.CallingLaws.{represents_nothing, represents_none, represents_ahead}
use Rattle.expander.proofs.Rows.{valid}
use Rattle.expander.proofs.names.meaning_ahead.Goals as goal

pub nothing_in-requires : goal.nothing_in-requires
nothing_in-requires c =
    let a = c.args in
    (c.requires.valid.represents.limits.table_ends, omega (arith, c.requires.bucket_value, bucket_below (take a.n (bytes_ahead a.text.now a.pending.now a.m.source))))

pub returns-then-nothing_in : goal.returns-then-nothing_in
returns-then-nothing_in c =
    λ a s b m. represents_none m c.requires.reach c.requires.bucket_value (c.nothing_in.ensures c.if-nothing_in.true)

pub returns-then-name-n : goal.returns-then-name-n
returns-then-name-n c =
    λ a s b m. represents_nothing m c.requires.reach (omega (arith, c.name_ahead-name.ensures.fewer c.if-name-n.true, c.requires.scratch_len))

pub meaning_of-requires : goal.meaning_of-requires
meaning_of-requires c =
    record { valid_definitions = valid c.requires.valid.represents.table.holds; bucket_value = c.requires.bucket_value ∙ ap bucket_of (sym (c.name_ahead-name.ensures.is c.if-name-n.false)) }

pub returns : goal.returns
returns c =
    λ a s b m. represents_ahead m c.requires.reach (c.name_ahead-name.ensures.is c.if-name-n.false) c.meaning_of.ensures

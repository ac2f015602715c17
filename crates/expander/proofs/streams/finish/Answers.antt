-- `expander::streams::finish` meets its contract: a tally, where each stream begins, and each byte in its place. Assumes nothing.
use Rattle.rules.proofs.Base.{refl, arith, take}
use Rattle.expander.proofs.Totals.{counts_all, begins_each}
use Rattle.expander.proofs.streams.finish.Goals as goal

pub tally-requires : goal.tally-requires
tally-requires c =
    let w = c.requires.owned in record { used_in_bounds = (w.in_owners, λ k h. omega (arith, (w.numbered k h).high)); counts_value = refl }

pub sum_before-requires : goal.sum_before-requires
sum_before-requires c =
    let t = c.tally in
    (t.ensures.ten, omega (arith, counts_all c.requires.owned t.new.counts t.ensures))

pub place-requires : goal.place-requires
place-requires c =
    let t = c.tally in
    let n = c.sum_before in record { owned = c.requires.owned; dst_len = c.requires.dst_len; ten = begins_each t.new.counts n.new.numbers (take c.args.used c.args.owners.now) t.ensures n.ensures }

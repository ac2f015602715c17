-- `expander::diverting::fits` meets its contract: all that waits fits, nothing goes to the output, or what goes there is counted. Assumes nothing.
use Rattle.std.proofs.Common.{w32, of_z}
use Rattle.std.proofs.lemmas.Int.{ints}
use Rattle.rules.proofs.Base.{refl, ap, arith}
use Rattle.expander.specs.Arguments.{args_of}
use Rattle.expander.specs.Diverting.{turns}
use Rattle.expander.proofs.Fitting.{counts_most, leaving_all, fits_all, fits_elsewhere, fits_counted}
use Rattle.expander.proofs.UndivertOrder.{turn_each}
use Rattle.expander.proofs.diverting.fits.Goals as goal

pub returns-then-sinks-free : goal.returns-then-sinks-free
returns-then-sinks-free c = λ streams u m. let args = args_of c.args.x in fits_all m (turns args) (turn_each args c.requires.all_named) c.if-sinks-free.true

pub returns-then-sinks-ne0 : goal.returns-then-sinks-ne0
returns-then-sinks-ne0 c = λ streams u m. let args = args_of c.args.x in fits_elsewhere m (turns args) (turn_each args c.requires.all_named) (λ e. c.if-sinks-ne0.true (ap (of_z w32) e))

pub tally-requires : goal.tally-requires
tally-requires c = let p = c.requires.waiting_in_bounds in record { used_in_bounds = (p.0, p.3); counts_value = refl }

pub count_streams-requires : goal.count_streams-requires
count_streams-requires c =
    let p = c.requires in record { by_index = λ i h. omega (arith, p.waiting_in_bounds.1, counts_most c.args.owners.now c.args.sinks.waiting p.waiting_in_bounds.0 c.tally.ensures i h); all_named = p.all_named }

pub returns : goal.returns
returns c =
    let n = c.count_streams in
    λ streams u m. fits_counted m (turns (args_of c.args.x)) n.result (n.ensures u (leaving_all m (omega (arith, ints)) c.tally.ensures))

-- `expander::diverting::undivert` meets its contract: an argument names no stream, the output has no room, both before anything is written; or the moves are made. Assumes nothing.
use Rattle.rules.proofs.Base.{◌∙◌, refl, sym, ap, ◌≡◌, true, arith, length, leb-true, not-true, not-false, not}
use Rattle.rules.specs.Streams.{moved_in_turn}
use Rattle.expander.specs.declared.machine.Progress.TheVariants as progress
use Rattle.expander.specs.Arguments.{args_of}
use Rattle.expander.specs.Diverting.{all_named, turns}
use Rattle.expander.specs.Machine.{stepped}
use Rattle.expander.proofs.DivertingLaws.{undivert_bad, undivert_full, undivert_on}
use Rattle.expander.proofs.SteppedLaws.{refines_by}
use Rattle.expander.proofs.diverting.undivert.Goals as goal
use Rattle.expander.proofs.diverting.undivert.Goals.{Else-not-names_streams}

all_named_lem : (c : Else-not-names_streams) → all_named (args_of c.args.x) ≡ true
all_named_lem c = let n = c.names_streams in sym n.ensures ∙ not-false n.result (ap not c.if-not-names_streams.false)

pub returns-then-not-names_streams : goal.returns-then-not-names_streams
returns-then-not-names_streams c =
    let n = c.names_streams in
    λ a s b r. refines_by refl c.refused.ensures (undivert_bad r (args_of c.args.x) (sym n.ensures ∙ not-true n.result (ap not c.if-not-names_streams.true)))

pub fits-requires : goal.fits-requires
fits-requires c =
    let m = c.requires.valid.represents in
    let o = m.sinks.waiting.owned in record {
      waiting_in_bounds = (o.in_owners, omega (arith, o.in_bytes, m.limits.streams_most), m.sinks.written.inside, λ j l. omega (arith, (o.numbered j l).high));
      all_named = all_named_lem (goal.at.fits-requires c).Else-not-names_streams;
    }

pub returns-then-not-fits : goal.returns-then-not-fits
returns-then-not-fits c =
    let f = c.fits in
    λ a s b r.
    refines_by refl c.refused-then-not-fits.ensures
    (undivert_full r (args_of c.args.x) (all_named_lem (goal.at.returns-then-not-fits c).Else-not-names_streams) (sym (f.ensures c.args.streams.now s.streams r.sinks) ∙ not-true f.result (ap not c.if-not-fits.true)))

pub move_streams-k-requires : goal.move_streams-k-requires
move_streams-k-requires c =
    let f = c.fits in
    let m = c.requires.valid.represents in
    let u = c.requires.valid.state.streams in record {
      all_named = all_named_lem (goal.at.move_streams-k-requires c).Else-not-names_streams;
      some_sinks = record {
        held = u;
        are = m.sinks;
        fits =
            leb-true (length (moved_in_turn (turns (args_of c.args.x)) u).output) (length c.args.output.now)
            (sym (f.ensures c.args.streams.now u m.sinks) ∙ not-false f.result (ap not c.if-not-fits.false));
        room = omega (arith, m.limits.streams_most, c.requires.scratch_len);
      };
      seen_value = refl;
    }

pub returns : goal.returns
returns c =
    let k = c.move_streams-k in
    λ a s b r.
    refines_by refl (c.on.ensures ∙ ap (stepped progress.On) c.with_sinks.ensures)
    (undivert_on r (args_of c.args.x) (all_named_lem (goal.at.returns c).Else-not-names_streams) (k.ensures s.streams r.sinks) k.auto.streams k.auto.owners k.auto.output)

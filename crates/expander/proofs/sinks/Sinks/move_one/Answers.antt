-- `expander::sinks::Sinks::move_one` meets its contract: to the output, nowhere, behind the current stream, or it is the current one. Assumes nothing.
use Rattle.std.proofs.Common.{w32, to_z, of_z}
use Rattle.std.proofs.lemmas.Int.{ints}
use Rattle.rules.proofs.Base.{◌≡◌, true, nat_abs, sym, arith}
use Rattle.rules.specs.Streams.{discards}
use Rattle.expander.proofs.SinksLaws.{Waits, waits, below_lost, above_lost}
use Rattle.expander.proofs.DivertingLaws.{out_long, lost_moves, stream_moves, same_moves}
use Rattle.expander.proofs.sinks.Sinks.move_one.Goals as goal
use Rattle.expander.proofs.sinks.Sinks.move_one.Goals.{In-1-to-9, In_default, in_default-via-then-self-lt0, in_default-via-else-self-lt0+else-self-lt10}

to_stream : (c : In-1-to-9) → Waits c.args.self.current (nat_abs (to_z w32 (of_z w32 c.args.self.current)))
to_stream c = waits c.args.self.current (omega (arith, ints)) (omega (arith, ints))

lost : (c : In_default) → discards c.args.self.current ≡ true
lost c =
    elim c.in_default.branch [
      | in_default-via-then-self-lt0 w ↦ below_lost c.args.self.current (omega (arith, ints))
      | in_default-via-else-self-lt0+else-self-lt10 w ↦ above_lost c.args.self.current (omega (arith, ints))
    ]

pub move_out-requires : goal.move_out-requires
move_out-requires c =
    let p = c.requires.0 in
    let o = p.are.waiting.owned in
    (o.in_bytes, o.in_owners, omega (arith, p.fits, out_long p.are c.args.i c.requires.1 (omega (arith, ints))))

pub returns-in_default : goal.returns-in_default
returns-in_default c =
    λ u m. lost_moves m c.args.i c.requires.1 (lost (goal.at.returns-in_default c).In_default) (c.compact.ensures.1 u.waiting c.requires.1 m.waiting)

pub returns-then-to-i : goal.returns-then-to-i
returns-then-to-i c =
    λ u m.
    stream_moves m c.args.i c.requires.1 (to_stream (goal.at.returns-then-to-i c).In-1-to-9) (λ q. c.if-to-i.true (sym q)) (λ i j d. c.move_stream.ensures u.waiting i j d m.waiting)

pub returns-else-to-i : goal.returns-else-to-i
returns-else-to-i c =
    λ u m. same_moves m c.args.i c.requires.1 (to_stream (goal.at.returns-else-to-i c).In-1-to-9) (sym c.if-to-i.false)

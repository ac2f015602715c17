-- `expander::sinks::Sinks::emit_byte` meets its contract. Assumes nothing.
use Rattle.std.proofs.Common.{w32, to_z, of_z}
use Rattle.std.proofs.lemmas.Int.{ints}
use Rattle.rules.proofs.Base.{nat_abs, refl, arith}
use Rattle.expander.proofs.FilledLaws.{byte_fills}
use Rattle.expander.proofs.SinksLaws.{Waits, waits, below_lost, above_lost, fits_output, fits_stream, emitted_output, emitted_stream, emitted_lost}
use Rattle.expander.proofs.sinks.Sinks.emit_byte.Goals as goal
use Rattle.expander.proofs.sinks.Sinks.emit_byte.Goals.{In-1-to-9}

to_stream : (c : In-1-to-9) → Waits c.args.self.current (nat_abs (to_z w32 (of_z w32 c.args.self.current)))
to_stream c = waits c.args.self.current (omega (arith, ints)) (omega (arith, ints))

pub bounds-output-self : goal.bounds-output-self
bounds-output-self c = omega (arith, fits_output c.requires (omega (arith, ints)))

pub bounds-streams-self : goal.bounds-streams-self
bounds-streams-self c = omega (arith, fits_stream c.requires (to_stream (goal.at.bounds-streams-self c).In-1-to-9))

pub bounds-owners-self : goal.bounds-owners-self
bounds-owners-self c = omega (arith, fits_stream c.requires (to_stream (goal.at.bounds-owners-self c).In-1-to-9), c.requires.owners_long, c.requires.streams_short)

pub returns-in-0 : goal.returns-in-0
returns-in-0 c = λ x m. emitted_output m _ 1 refl (omega (arith, ints)) (byte_fills _ _ _ (fits_output c.requires (omega (arith, ints))))

pub returns-in-1-to-9 : goal.returns-in-1-to-9
returns-in-1-to-9 c =
    let w = to_stream (goal.at.returns-in-1-to-9 c).In-1-to-9 in
    let h = fits_stream c.requires w in
    λ x m. emitted_stream m _ 1 refl w (byte_fills _ _ _ h) (byte_fills _ _ _ (omega (arith, h, c.requires.owners_long, c.requires.streams_short)))

pub returns-then-self-lt0 : goal.returns-then-self-lt0
returns-then-self-lt0 c = λ x m. emitted_lost m _ 1 refl (below_lost c.args.self.current (omega (arith, ints)))

pub returns-else-self-lt10 : goal.returns-else-self-lt10
returns-else-self-lt10 c = λ x m. emitted_lost m _ 1 refl (above_lost c.args.self.current (omega (arith, ints)))

-- `expander::sinks::Sinks::emit_ahead` meets its contract. Assumes nothing.
use Rattle.std.proofs.Common.{w32, to_z, of_z}
use Rattle.std.proofs.lemmas.Int.{ints}
use Rattle.rules.proofs.Base.{◌≤◌, ◌+◌, nat_abs, arith, length}
use Rattle.expander.specs.Source.{bytes_of}
use Rattle.expander.proofs.SinksLaws.{Waits, waits, below_lost, above_lost, fits_output, fits_stream, emitted_output, emitted_stream, emitted_lost, ahead_taken}
use Rattle.expander.proofs.FilledLaws.{owned_fills}
use Rattle.expander.proofs.sinks.Sinks.emit_ahead.Goals as goal
use Rattle.expander.proofs.sinks.Sinks.emit_ahead.Goals.{In-1-to-9}

to_stream : (c : In-1-to-9) → Waits c.args.self.current (nat_abs (to_z w32 (of_z w32 c.args.self.current)))
to_stream c = waits c.args.self.current (omega (arith, ints)) (omega (arith, ints))

pub fill-requires : goal.fill-requires
fill-requires c = (c.requires.n_in_bounds, fits_output c.requires.fits (omega (arith, ints)))

pub fill-requires-in-1-to-9 : goal.fill-requires-in-1-to-9
fill-requires-in-1-to-9 c = (c.requires.n_in_bounds, fits_stream c.requires.fits (to_stream (goal.at.fill-requires-in-1-to-9 c).In-1-to-9))

pub overflow_add-self : goal.overflow_add-self
overflow_add-self c = omega (arith, fits_output c.requires.fits (omega (arith, ints)), c.requires.fits.output_short)

pub own-requires : goal.own-requires
own-requires c = omega (arith, fits_stream c.requires.fits (to_stream (goal.at.own-requires c).In-1-to-9), c.requires.fits.owners_long, c.requires.fits.streams_short)

pub overflow_add-self-in-1-to-9 : goal.overflow_add-self-in-1-to-9
overflow_add-self-in-1-to-9 c = omega (arith, fits_stream c.requires.fits (to_stream (goal.at.overflow_add-self-in-1-to-9 c).In-1-to-9), c.requires.fits.streams_short)

pub returns-in-0 : goal.returns-in-0
returns-in-0 c =
    let a = c.args in
    λ x m. emitted_output m _ a.n (ahead_taken (bytes_of a.ahead) a.start a.n c.requires.n_in_bounds) (omega (arith, ints)) c.fill.ensures

pub returns-in-1-to-9 : goal.returns-in-1-to-9
returns-in-1-to-9 c =
    let a = c.args in
    let p = c.requires in
    let w = to_stream (goal.at.returns-in-1-to-9 c).In-1-to-9 in
    let l : a.self.waiting + a.n ≤ length a.owners.now = omega (arith, fits_stream p.fits w, p.fits.owners_long, p.fits.streams_short) in
    λ x m.
    emitted_stream m _ a.n (ahead_taken (bytes_of a.ahead) a.start a.n p.n_in_bounds) w c.fill-in-1-to-9.ensures
    (owned_fills a.owners.now _ a.self.waiting a.n _ l c.own.ensures)

pub returns-then-self-lt0 : goal.returns-then-self-lt0
returns-then-self-lt0 c =
    let a = c.args in
    λ x m. emitted_lost m _ a.n (ahead_taken (bytes_of a.ahead) a.start a.n c.requires.n_in_bounds) (below_lost a.self.current (omega (arith, ints)))

pub returns-else-self-lt10 : goal.returns-else-self-lt10
returns-else-self-lt10 c =
    let a = c.args in
    λ x m. emitted_lost m _ a.n (ahead_taken (bytes_of a.ahead) a.start a.n c.requires.n_in_bounds) (above_lost a.self.current (omega (arith, ints)))

-- `expander::calls::Calls::open_ahead` meets its contract. Assumes nothing.
use Rattle.rules.proofs.Base.{arith, take}
use Rattle.hashing.proofs.Laws.{bucket_below}
use Rattle.expander.specs.Source.{bytes_of}
use Rattle.expander.proofs.SinksLaws.{ahead_taken}
use Rattle.expander.proofs.calls.Calls.open_ahead.Goals as goal

pub opened-requires : goal.opened-requires
opened-requires c =
    let a = c.args in
    let r = c.requires.call_room.0 in (
      record { bytes = a.bytes.now; calls = r.calls; are = r.are; short = r.short; links = r.links },
      c.requires.opens_lt_most_calls.0,
      c.requires.opens_lt_most_calls.1,
      omega (arith, r.fits, r.short),
      omega (arith, c.requires.bucket_value, bucket_below (take a.n (bytes_of a.ahead))),
    )

pub returns : goal.returns
returns c =
    let a = c.args in
    let p = c.requires in
    λ cs m. c.opened.ensures a.bytes.now _ (take a.n (bytes_of a.ahead)) cs m (ahead_taken (bytes_of a.ahead) 0 a.n (omega (arith, p.call_room.1))) p.bucket_value c.fill.ensures

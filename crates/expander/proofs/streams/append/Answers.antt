-- `expander::streams::append` meets its contract: s is written behind what is in use, and owned. Assumes nothing.
use Rattle.rules.proofs.Base.{refl, arith, length}
use Rattle.expander.proofs.FilledLaws.{owned_fills}
use Rattle.expander.proofs.Waiting.{appended_at}
use Rattle.expander.proofs.streams.append.Goals as goal

pub returns : goal.returns
returns c =
    let a = c.args in (
      refl,
      λ ws s m.
          appended_at m a.i s c.fill_slice.ensures
          (owned_fills a.owners.now _ a.used (length a.s.now) a.i (omega (arith, c.requires)) c.own.ensures),
    )

-- `expander::calls::Calls::collect_byte` meets its contract. Assumes nothing.
use Rattle.rules.proofs.Base.{refl, [], ◌∷◌}
use Rattle.expander.proofs.FilledLaws.{byte_fills}
use Rattle.expander.proofs.calls.Calls.collect_byte.Goals as goal

pub returns : goal.returns
returns c =
    let a = c.args in
    λ x xs m h. c.collected.ensures a.bytes.now _ (a.b ∷ []) x xs m refl (byte_fills a.bytes.now a.self.strings.used a.b c.requires.0.fits) h

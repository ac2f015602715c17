-- `expander::packed::Packed::push_slice` meets its contract: what `grow_last` says of the bytes written behind the strings. Assumes nothing.
use Rattle.rules.proofs.Base.{refl}
use Rattle.expander.proofs.FilledLaws.{filled_front}
use Rattle.expander.proofs.packed.Packed.push_slice.Goals as goal

pub returns : goal.returns
returns c =
    let a = c.args in
    let g = c.grow_last in
    let f = c.fill_slice in record { packs = λ ss h. g.ensures.packs a.bytes.now _ ss a.s.now h refl (filled_front f.ensures); count_value = g.ensures.count_value }

-- `expander::packed::Packed::replace` meets its contract: what is written stands where `resize` made room. Assumes nothing.
use Rattle.rules.proofs.Base.{refl, arith, length}
use Rattle.expander.specs.Packed.{overlaid}
use Rattle.expander.proofs.Splicing.{place_room, written_at}
use Rattle.expander.proofs.packed.Packed.replace.Goals as goal

-- after `resize`: s has room
pub fill_slice-requires : goal.fill_slice-requires
fill_slice-requires c =
    let f = c.requires.formed in
    let a = c.start-a in
    omega (
      arith,
      place_room f.packs c.args.k a.result (length c.args.s.now) (omega (arith, c.requires)) a.ensures (c.requires.s_in_bounds f.strings f.packs),
      c.resize-sized.auto.bytes,
    )

pub returns : goal.returns
unfolding overlaid
returns c =
    let a = c.start-a in
    let r = c.resize-sized in
    let x = c.args.s.now in record { packs = λ ss h. written_at c.args.ends.now c.args.k a.result x r.new.bytes (r.ensures.packs ss x h refl) a.ensures c.fill_slice.ensures.is; ends_unchanged = r.ensures.ends_unchanged }

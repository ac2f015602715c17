-- `expander::packed::Packed::push_string` meets its contract: an empty string, filled. Assumes nothing.
use Rattle.rules.proofs.Base.{[], ◌++◌, ◌∷◌, arith}
use Rattle.expander.proofs.Packing.{filled_last, kept_behind}
use Rattle.expander.proofs.packed.Packed.push_string.Goals as goal

pub push_slice-requires : goal.push_slice-requires
push_slice-requires c =
    let e = c.push_empty-more in record { count_nonzero = (omega arith, omega (arith, e.auto.ends)); s_in_bounds = omega arith }

pub returns : goal.returns
returns c =
    let a = c.args in
    let g = c.push_slice in
    let e = c.push_empty-more in record { packs = λ ss h. rw (filled_last ss a.s.now) at (g.ensures.packs (ss ++ ([] ∷ [])) (e.ensures.packs a.bytes.now ss h)); count_value = (omega arith, omega arith, kept_behind a.ends.now e.new.ends g.new.ends e.ensures.count_value.0 g.ensures.count_value.2 e.ensures.count_value.2) }

-- `expander::packed::Packed::resize` meets its contract: the laws `resized_same` and `resized_moved`, with what `start` returned for a and e. Assumes nothing.
use Rattle.rules.proofs.Base.{◌≤◌, ◌+◌, ◌-◌, refl, [], arith, length, get_or}
use Rattle.expander.specs.Packed.{rebased}
use Rattle.expander.proofs.Packing.{Lies, lies}
use Rattle.expander.proofs.Splicing.{rebasable, resized_same, resized_moved, ends_behind}
use Rattle.expander.proofs.packed.Packed.resize.Goals as goal
use Rattle.expander.proofs.packed.Packed.resize.Goals.{After-start-e}

-- after both calls of `start`: where string k lies, and that there is room for the new one
at : (c : After-start-e)
    → Lies c.args.bytes.now c.args.self.used c.start-a.result c.start-e.result (get_or c.requires.formed.strings c.args.k [])
at c =
    lies c.requires.formed.packs c.args.k c.start-a.result c.start-e.result (omega (arith, c.requires)) c.start-a.ensures c.start-e.ensures

room : (c : After-start-e) → c.args.self.used + c.args.n ≤ length c.args.bytes.now + length (get_or c.requires.formed.strings c.args.k [])
room c =
    c.requires.n_in_bounds c.requires.formed.strings c.requires.formed.packs

pub returns-then-old-n : goal.returns-then-old-n
returns-then-old-n c = record {
  packs = λ ss x h ex.
      resized_same h c.args.k c.start-a.result c.start-e.result c.args.n x (omega (arith, c.requires)) c.start-a.ensures
      c.start-e.ensures c.if-old-n.true ex;
  ends_unchanged = refl;
}

pub move_bytes-requires : goal.move_bytes-requires
move_bytes-requires c =
    ((at (goal.at.move_bytes-requires c).After-start-e).inside, c.requires.formed.packs.used_in, omega (arith, room (goal.at.move_bytes-requires c).After-start-e, at (goal.at.move_bytes-requires c).After-start-e))

pub rebase-requires : goal.rebase-requires
rebase-requires c =
    let a = c.args in
    let f = c.requires.formed.packs in record {
      to_le_from = (omega arith, omega (arith, c.requires), omega (arith, f.count_in));
      by_index = λ j lj jc.
          rebasable f a.k (a.k + 1) c.start-a.result c.start-e.result a.n (omega arith) (omega (arith, c.requires)) c.start-a.ensures
          c.start-e.ensures (omega (arith, c.requires, room (goal.at.rebase-requires c).After-start-e, at (goal.at.rebase-requires c).After-start-e)) j (omega arith) jc;
    }

pub returns : goal.returns
returns c =
    let a = c.args in
    let rebasing = c.rebase.ensures in record {
      packs = λ ss x h ex.
          resized_moved h a.k c.start-a.result c.start-e.result a.n x (omega (arith, c.requires)) c.start-a.ensures
          c.start-e.ensures (omega (arith, room (goal.at.returns c).After-start-e, at (goal.at.returns c).After-start-e)) ex rebasing c.move_bytes.ensures;
      ends_unchanged = ends_behind (rebased (c.start-e.result - c.start-a.result) a.n) a.ends.now a.k a.k a.self.count (omega arith) (omega (arith, c.requires))
          c.requires.formed.packs.count_in rebasing;
    }

pub overflow_sub-old : goal.overflow_sub-old
overflow_sub-old c = (at (goal.at.overflow_sub-old c).After-start-e).ordered

pub overflow_add-to : goal.overflow_add-to
overflow_add-to c = omega (arith, room (goal.at.overflow_add-to c).After-start-e, at (goal.at.overflow_add-to c).After-start-e, c.requires)

pub overflow_sub-sized : goal.overflow_sub-sized
overflow_sub-sized c = omega (arith, at (goal.at.overflow_sub-sized c).After-start-e)

pub overflow_add-sized : goal.overflow_add-sized
overflow_add-sized c = omega (arith, room (goal.at.overflow_add-sized c).After-start-e, at (goal.at.overflow_add-sized c).After-start-e, c.requires)

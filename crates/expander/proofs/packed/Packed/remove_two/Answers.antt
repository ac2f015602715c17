-- `expander::packed::Packed::remove_two` meets its contract: the law `removed_two`, with what `start` returned for a and e. Assumes nothing.
use Rattle.rules.proofs.Base.{◌+◌, ◌-◌, arith}
use Rattle.expander.specs.Packed.{rebased}
use Rattle.expander.proofs.Splicing.{Spans, spans, rebasable, removed_two, ends_behind}
use Rattle.expander.proofs.packed.Packed.remove_two.Goals as goal
use Rattle.expander.proofs.packed.Packed.remove_two.Goals.{After-start-e}

-- after both calls of `start`: where the two strings lie
at : (c : After-start-e) → Spans c.args.bytes.now c.args.self.used c.start-a.result c.start-e.result
at c =
    spans c.requires.formed.packs c.args.k (c.args.k + 2) c.start-a.result c.start-e.result (omega arith) (omega (arith, c.requires))
    c.start-a.ensures c.start-e.ensures

pub move_bytes-requires : goal.move_bytes-requires
move_bytes-requires c = ((at (goal.at.move_bytes-requires c).After-start-e).inside, (at (goal.at.move_bytes-requires c).After-start-e).all, omega (arith, (at (goal.at.move_bytes-requires c).After-start-e).ordered, (at (goal.at.move_bytes-requires c).After-start-e).inside, (at (goal.at.move_bytes-requires c).After-start-e).all))

pub rebase-requires : goal.rebase-requires
rebase-requires c =
    let a = c.args in
    let f = c.requires.formed.packs in record {
      to_le_from = (omega (arith, c.requires), omega (arith, c.requires), omega (arith, f.count_in));
      by_index = λ j lj jc.
          rebasable f a.k (a.k + 2) c.start-a.result c.start-e.result 0 (omega arith) (omega (arith, c.requires)) c.start-a.ensures
          c.start-e.ensures (omega (arith, c.requires, (at (goal.at.rebase-requires c).After-start-e).all)) j (omega arith) jc;
    }

pub returns : goal.returns
returns c =
    let a = c.args in
    let rebasing = c.rebase.ensures in record {
      packs = λ ss h.
          removed_two h a.k c.start-a.result c.start-e.result (omega (arith, c.requires)) c.start-a.ensures c.start-e.ensures
          rebasing c.move_bytes.ensures;
      ends_unchanged = ends_behind (rebased (c.start-e.result - c.start-a.result) 0) a.ends.now a.k (a.k + 2) a.self.count (omega arith) (omega (arith, c.requires))
          c.requires.formed.packs.count_in rebasing;
    }

pub overflow_sub-n : goal.overflow_sub-n
overflow_sub-n c = (at (goal.at.overflow_sub-n c).After-start-e).ordered

pub overflow_sub-less : goal.overflow_sub-less
overflow_sub-less c = omega (arith, (at (goal.at.overflow_sub-less c).After-start-e).inside)

-- `expander::packed::Packed::push_copy` meets its contract: the law `copied_behind`, and what `push_empty` and `grow_last` say. Assumes nothing.
use Rattle.rules.proofs.Base.{◌≤◌, ◌+◌, sym, List, [], ◌++◌, ◌∷◌, arith, length, get_or}
use Rattle.rules.specs.Bytes.{Bytes}
use Rattle.expander.specs.Packed.{Packs}
use Rattle.expander.proofs.Packing.{Lies, lies, filled_last, kept_behind}
use Rattle.expander.proofs.Splicing.{copied_behind}
use Rattle.expander.proofs.packed.Packed.push_copy.Goals as goal
use Rattle.expander.proofs.packed.Packed.push_copy.Goals.{After-start-e}

-- after both calls of `start`: where string k lies, and that there is room for another
lies_for : (c : After-start-e) (ss : List Bytes)
    → Packs c.args.ends.now c.args.self.count c.args.bytes.now c.args.self.used ss
    → Lies c.args.bytes.now c.args.self.used c.start-a.result c.start-e.result (get_or ss c.args.k [])
lies_for c ss h =
    lies h c.args.k c.start-a.result c.start-e.result c.requires.k_lt_count.0 c.start-a.ensures c.start-e.ensures

at : (c : After-start-e)
    → Lies c.args.bytes.now c.args.self.used c.start-a.result c.start-e.result (get_or c.requires.formed.strings c.args.k [])
at c = lies_for c c.requires.formed.strings c.requires.formed.packs

room : (c : After-start-e) → c.args.self.used + length (get_or c.requires.formed.strings c.args.k []) ≤ length c.args.bytes.now
room c =
    c.requires.k_in_bounds c.requires.formed.strings c.requires.formed.packs

pub move_bytes-requires : goal.move_bytes-requires
move_bytes-requires c =
    ((at (goal.at.move_bytes-requires c).After-start-e).ordered, (at (goal.at.move_bytes-requires c).After-start-e).within, omega (arith, room (goal.at.move_bytes-requires c).After-start-e, at (goal.at.move_bytes-requires c).After-start-e))

pub grow_last-requires : goal.grow_last-requires
grow_last-requires c =
    let e = c.push_empty-more in
    (omega (arith, e.ensures.count_value), omega (arith, e.ensures.count_value, e.auto.ends, c.requires), omega (arith, e.ensures.count_value, room (goal.at.grow_last-requires c).After-start-e, at (goal.at.grow_last-requires c).After-start-e, c.requires))

pub returns : goal.returns
returns c =
    let a = c.args in
    let m = c.start-a in
    let e = c.push_empty-more in
    let g = c.grow_last in record {
      packs = λ ss h.
          rw (filled_last ss (get_or ss a.k []))
          at
          (g.ensures.packs a.bytes.now _ (ss ++ ([] ∷ [])) (get_or ss a.k []) (e.ensures.packs a.bytes.now ss h) (sym (lies_for (goal.at.returns c).After-start-e ss h).long)
          (copied_behind h a.k m.result c.start-e.result e.result.used c.requires.k_lt_count.0 m.ensures c.start-e.ensures e.ensures.count_value.1
          c.move_bytes.ensures));
      ends_unchanged = kept_behind a.ends.now e.new.ends g.new.ends e.ensures.count_value.0 g.ensures.count_value.2 e.ensures.count_value.2;
    }

pub overflow_sub-n : goal.overflow_sub-n
overflow_sub-n c = (at (goal.at.overflow_sub-n c).After-start-e).ordered

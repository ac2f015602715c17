-- `expander::packed::Packed::copy_over` meets its contract: `resize` makes room, and string `from`, where it then lies, is copied there. Assumes nothing.
use Rattle.rules.proofs.Base.{◌-◌, refl, sym, List, [], arith, get_or}
use Rattle.rules.specs.Bytes.{Bytes}
use Rattle.expander.specs.Packed.{Packs}
use Rattle.expander.proofs.Packing.{Lies, lies}
use Rattle.expander.proofs.Splicing.{Copies, copies, copied_over, copied_same}
use Rattle.expander.proofs.packed.Packed.copy_over.Goals as goal
use Rattle.expander.proofs.packed.Packed.copy_over.Goals.{After-start-e, After-start-moved}

-- after the first two calls of `start`: where string `from` lies
lies_for : (c : After-start-e) (ss : List Bytes)
    → Packs c.args.ends.now c.args.self.count c.args.bytes.now c.args.self.used ss
    → Lies c.args.bytes.now c.args.self.used c.start-a.result c.start-e.result (get_or ss c.args.from [])
lies_for c ss h =
    lies h c.args.from c.start-a.result c.start-e.result c.requires.k_lt_count.1 c.start-a.ensures c.start-e.ensures

-- after the last: where it lies now, and the place that string k has
copies_for : (c : After-start-moved) (ss : List Bytes)
    → Packs c.args.ends.now c.args.self.count c.args.bytes.now c.args.self.used ss
    → Copies c.args.ends.now c.args.k c.resize-sized.new.bytes c.start-to.result c.start-moved.result
    (c.start-e.result - c.start-a.result) (get_or ss c.args.from [])
copies_for c ss h =
    let m = c.start-a in
    let r = c.resize-sized in
    let long = (lies h c.args.from m.result c.start-e.result c.requires.k_lt_count.1 m.ensures c.start-e.ensures).long in
    copies h c.args.k c.args.from m.result c.start-e.result c.requires.k_lt_count.0 c.requires.k_lt_count.1 c.if-k-from.false m.ensures c.start-e.ensures
    (c.requires.from_in_bounds ss h) r.new.bytes (r.ensures.packs ss (get_or ss c.args.from []) h (sym long)) r.auto.bytes c.start-to.result c.start-moved.result
    c.start-to.ensures c.start-moved.ensures

at : (c : After-start-moved)
    → Copies c.args.ends.now c.args.k c.resize-sized.new.bytes c.start-to.result c.start-moved.result
    (c.start-e.result - c.start-a.result) (get_or c.requires.formed.strings c.args.from [])
at c = copies_for c c.requires.formed.strings c.requires.formed.packs

pub returns-then-k-from : goal.returns-then-k-from
returns-then-k-from c =
    let a = c.args in record { packs = λ ss h. copied_same h a.k a.from c.if-k-from.true; ends_unchanged = refl }

pub resize-sized-requires : goal.resize-sized-requires
resize-sized-requires c = record { formed = c.requires.formed; k_lt_count = (c.requires.k_lt_count.0, c.requires.k_lt_count.2); n_in_bounds = λ ss h. omega (arith, c.requires.from_in_bounds ss h, (lies_for (goal.at.resize-sized-requires c).After-start-e ss h).long) }

pub overflow_add-moved : goal.overflow_add-moved
overflow_add-moved c = omega (arith, (at (goal.at.overflow_add-moved c).After-start-moved).within, c.resize-sized.auto.bytes, c.requires.k_lt_count.2)

pub move_bytes-requires : goal.move_bytes-requires
move_bytes-requires c = (omega arith, (at (goal.at.move_bytes-requires c).After-start-moved).within, omega (arith, (at (goal.at.move_bytes-requires c).After-start-moved).room))

pub returns : goal.returns
returns c =
    let r = c.resize-sized in record {
      packs = λ ss h.
          copied_over (r.ensures.packs ss (get_or ss c.args.from []) h (sym (lies_for (goal.at.returns c).After-start-e ss h).long)) (copies_for (goal.at.returns c).After-start-moved ss h) c.move_bytes.ensures;
      ends_unchanged = r.ensures.ends_unchanged;
    }

pub overflow_sub-n : goal.overflow_sub-n
overflow_sub-n c = (lies_for (goal.at.overflow_sub-n c).After-start-e c.requires.formed.strings c.requires.formed.packs).ordered

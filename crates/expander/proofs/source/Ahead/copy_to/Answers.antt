-- `expander::source::Ahead::copy_to` meets its contract. Assumes nothing.
use Rattle.rules.proofs.Base.{◌∙◌, sym, ap, ap₂, arith, length, length-append, length-take-le, ◌++◌}
use Rattle.expander.proofs.Border.{out_of_rest, out_of_front, out_of_both, second_part, written_twice}
use Rattle.expander.proofs.Parts.{part_size}
use Rattle.expander.proofs.source.Ahead.copy_to.Goals as goal

pub returns-then-front-start : goal.returns-then-front-start
returns-then-front-start c =
    let a = c.args in
    c.copy.ensures ∙ out_of_rest a.self.front.now a.self.rest.now (length a.dst.now) a.start c.if-front-start.true

pub returns-then-size-left : goal.returns-then-size-left
returns-then-size-left c =
    let a = c.args in
    c.copy-then-size-left.ensures ∙ out_of_front a.self.front.now a.self.rest.now (length a.dst.now) a.start (omega arith)

pub copy-requires-2 : goal.copy-requires-2
copy-requires-2 c =
    let a = c.args in
    part_size a.self.front.now a.start ∙ sym (length-take-le _ _ (omega arith))

pub copy-requires-3 : goal.copy-requires-3
copy-requires-3 c =
    let a = c.args in
    let x = c.copy-2 in
    second_part a.dst.now x.new.into _ (ap length x.ensures ∙ part_size a.self.front.now a.start) (omega arith) a.self.rest.now (omega (arith, length-append a.self.front.now a.self.rest.now))

pub returns : goal.returns
returns c =
    let a = c.args in
    let x = c.copy-2 in
    let y = c.copy-3 in
    written_twice a.dst.now x.new.into _ (ap length x.ensures ∙ part_size a.self.front.now a.start) (omega arith) y.new.into
    ∙ ap₂ ◌++◌ x.ensures y.ensures
    ∙ out_of_both a.self.front.now a.self.rest.now (length a.dst.now) a.start (omega arith) (omega arith)

pub slice_bounds-copy-end-4 : goal.slice_bounds-copy-end-4
slice_bounds-copy-end-4 c = sym (length-take-le _ _ (omega arith))

pub slice_bounds-copy-end-5 : goal.slice_bounds-copy-end-5
slice_bounds-copy-end-5 c = let a = c.args in sym (length-take-le _ _ (omega (arith, length-append a.self.front.now a.self.rest.now)))

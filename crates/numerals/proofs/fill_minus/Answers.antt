-- `numerals::fill_minus` meets its contract. Assumes nothing.
use Rattle.rules.proofs.Base.{◌∙◌, ap, ◌∷◌, arith, length, length-set, rules}
use Rattle.numerals.proofs.Writing.{part_length, put_behind}
use Rattle.numerals.proofs.fill_minus.Goals as goal

pub shape_of-out : goal.shape_of-out
shape_of-out c =
    let before = c.args.out.now in
    let k = part_length before (omega arith) in
    ap length (put_behind before (omega arith) c.fill.new.out) ∙ omega arith

pub returns : goal.returns
returns c =
    let before = c.args.out.now in
    put_behind before (omega arith) c.fill.new.out ∙ ap (λ ds. 45 ∷ ds) (c.fill.ensures ∙ rw (part_length before (omega arith)))

pub slice_bounds-fill-count : goal.slice_bounds-fill-count
slice_bounds-fill-count c = simp length-set (omega arith)

pub slice_bounds-fill-start : goal.slice_bounds-fill-start
slice_bounds-fill-start c = simp length-set (omega arith)

pub fill-requires : goal.fill-requires
fill-requires c = (search rules, search rules, omega (arith, part_length c.args.out.now (omega arith)))

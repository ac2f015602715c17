-- `numerals::write_number` meets its contract. Assumes nothing.
use Rattle.rules.proofs.Base.{◌∙◌, sym, length}
use Rattle.std.proofs.lemmas.Int.{to_z-of_z}
use Rattle.std.specs.Int.{w32}
use Rattle.numerals.proofs.Writing.{same_length, other_length, written_whole, written_none, room_text}
use Rattle.numerals.proofs.write_number.Goals as goal

pub returns-then-ne : goal.returns-then-ne
returns-then-ne c =
    let a = c.args in
    let w = rw (to_z-of_z w32 a.x c.ranges.x) at c.written_length.ensures in
    written_none a.radix _ a.out.now (λ e. other_length c.written_length.result (length a.out.now) (sym c.if-ne.true ∙ c.ne.ensures) (w ∙ e))

pub fill_text-requires : goal.fill_text-requires
fill_text-requires c =
    let a = c.args in
    let r = to_z-of_z w32 a.x c.ranges.x in
    let w = rw r at c.written_length.ensures in
    rw r (room_text a.radix a.least a.x a.out.now (sym w ∙ same_length c.written_length.result (length a.out.now) (sym c.if-ne.false ∙ c.ne.ensures)))

pub returns : goal.returns
returns c =
    let a = c.args in
    let r = to_z-of_z w32 a.x c.ranges.x in
    let w = rw r at c.written_length.ensures in
    let f = rw r at (c.fill_text.ensures a.least) in
    written_whole a.radix _ a.out.now c.fill_text.new.out (sym w ∙ same_length c.written_length.result (length a.out.now) (sym c.if-ne.false ∙ c.ne.ensures)) f

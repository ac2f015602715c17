-- `expander::change_marks::change_quotes` meets its contract: both marks are tested, and then replace those of the machine. Assumes nothing.
use Rattle.rules.proofs.Base.{ap, not}
use Rattle.rules.specs.Marks.{with_quotes}
use Rattle.expander.proofs.ChangeMarksLaws.{MarksSized, marks_sized, made_full, badly_marked, well_marked}
use Rattle.expander.proofs.change_marks.change_quotes.Goals as goal
use Rattle.expander.proofs.change_marks.change_quotes.Goals.{Else-not-are_marks}

sized : (c : Else-not-are_marks) → MarksSized c.args.begin.now c.args.end.now
sized c =
    let p = c.args in
    marks_sized p.begin.now p.end.now c.are_marks.ensures (ap not c.if-not-are_marks.false)

pub returns-then-not-are_marks : goal.returns-then-not-are_marks
returns-then-not-are_marks c =
    let p = c.args in
    λ a s b r. badly_marked with_quotes p.begin.now p.end.now s c.are_marks.ensures (ap not c.if-not-are_marks.true) c.refused.ensures

pub returns : goal.returns
returns c =
    let p = c.args in
    let v = c.mark_of in
    let w = c.mark_of-2 in
    let x = c.with_quotes.ensures in
    let z = sized (goal.at.returns c).Else-not-are_marks in
    λ a s b r.
    well_marked with_quotes p.begin.now p.end.now s c.are_marks.ensures (ap not c.if-not-are_marks.false) r v.result w.result v.ensures.0 w.ensures.0 x.1
    (x.2 r.marks_good (made_full z.begin v.ensures.1) (made_full z.end w.ensures.1)) x.0 c.on.ensures

pub mark_of-requires : goal.mark_of-requires
mark_of-requires c = (sized (goal.at.mark_of-requires c).Else-not-are_marks).begin.most

pub mark_of-requires-2 : goal.mark_of-requires-2
mark_of-requires-2 c = (sized (goal.at.mark_of-requires-2 c).Else-not-are_marks).end.most

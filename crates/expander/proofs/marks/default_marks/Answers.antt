-- `expander::marks::default_marks` meets its contract. Assumes nothing.
use Rattle.rules.proofs.Base.{arith}
use Rattle.rules.specs.Marks.{mark_texts, default_marks}
use Rattle.expander.proofs.marks.default_marks.Goals as goal

pub returns : goal.returns
unfolding mark_texts default_marks
returns c = (
  rw (c.single.ensures.0, c.single-2.ensures.0, c.single-3.ensures.0, c.single-4.ensures.0),
  record {
    begin_quote = record { least = omega (arith, c.single.ensures.1); most = omega (arith, c.single.ensures.1) };
    end_quote = record { least = omega (arith, c.single-2.ensures.1); most = omega (arith, c.single-2.ensures.1) };
    begin_comment = omega (arith, c.single-3.ensures.1);
    end_comment = record { least = omega (arith, c.single-4.ensures.1); most = omega (arith, c.single-4.ensures.1) };
  },
)

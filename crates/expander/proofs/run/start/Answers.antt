use Rattle.expander.proofs.RunLaws.{started}
use Rattle.expander.proofs.run.start.Goals as goal

pub returns : goal.returns
returns c = λ a b is l k i e. started a b is c.default_marks.result c.args.from c.default_marks.ensures.0 c.default_marks.ensures.1 l k i e

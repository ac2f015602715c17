use Rattle.expander.proofs.ExpandLaws.{output_inside, errors_inside}
use Rattle.expand.proofs.expanded.Goals as goal

pub returns : goal.returns
returns c = record {
  output = output_inside c.expand.ensures c.expand.auto.output;
  errors = errors_inside c.expand.ensures c.expand.auto.errors;
}

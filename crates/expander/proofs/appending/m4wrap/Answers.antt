-- `expander::appending::m4wrap` meets its contract. Assumes nothing.
use Rattle.expander.specs.Arguments.{args_of}
use Rattle.expander.proofs.TextLaws.{wrap_full, wrap_more}
use Rattle.expander.proofs.appending.m4wrap.Goals as goal

pub returns-then-wrap-at : goal.returns-then-wrap-at
returns-then-wrap-at c = λ a s b r. wrap_full r (args_of c.args.x) c.argument-s.ensures c.if-wrap-at.true c.refused.ensures

pub returns : goal.returns
returns c = λ a s b r. wrap_more r (args_of c.args.x) c.argument-s.ensures c.fill_slice.ensures c.with_wrap.ensures c.on.ensures

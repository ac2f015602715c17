-- `expander::calls::Calls::closed` meets its contract. Assumes nothing.
use Rattle.expander.proofs.CallsLaws.{calls_closed}
use Rattle.expander.proofs.calls.Calls.closed.Goals as goal

pub returns : goal.returns
returns c = λ bytes stack x xs m e. rw c.start-used.ensures (calls_closed m _ e)

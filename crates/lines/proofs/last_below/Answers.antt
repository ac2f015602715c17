-- `lines::last_below` meets its contract: where it is found, and what that comes to. Assumes nothing.
use Rattle.rules.proofs.Base.{length, rules}
use Rattle.std.proofs.iter.runs.Made.{chains}
use Rattle.lines.proofs.Seeking.{Last, last_is}
use Rattle.lines.proofs.last_below.Goals as goal

pub returns : goal.returns
returns c =
    let found : Last c.args.number c.args.totals.now (length c.args.totals.now) c.rposition.result = search (rules, chains) in
    last_is c.args.number c.args.totals.now (length c.args.totals.now) c.rposition.result found

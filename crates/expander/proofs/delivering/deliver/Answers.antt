-- `expander::delivering::deliver` meets its contract: to the current stream where no call is open, else to the innermost call. Assumes nothing.
use Rattle.rules.proofs.Base.{arith, drop, take}
use Rattle.rules.specs.Source.{ahead}
use Rattle.rules.specs.State.{taking}
use Rattle.expander.specs.Machine.{calls_at, sinks_at}
use Rattle.expander.proofs.DeliveringLaws.{delivers_out, delivers_in}
use Rattle.expander.proofs.delivering.deliver.Goals as goal

pub emit_token-requires : goal.emit_token-requires
emit_token-requires c =
    let u = c.requires.valid in record { valid = record { others = calls_at c.args.calls.now c.args.ends.now c.args.stack.now u.others; setting = u.setting; state = u.state; represents = u.represents }; reach = c.requires.reach }

pub returns-then-m-eq0 : goal.returns-then-m-eq0
returns-then-m-eq0 c =
    λ a s b r.
    delivers_out r (take c.args.n (drop c.args.start (ahead s.source))) (taking c.args.width s) c.if-m-eq0.true
    (c.emit_token.ensures a s (calls_at c.args.calls.now c.args.ends.now c.args.stack.now b) r)

pub collect_token-requires : goal.collect_token-requires
collect_token-requires c =
    let u = c.requires.valid in record { valid = record { others = sinks_at c.args.streams.now c.args.owners.now c.args.output.now u.others; setting = u.setting; state = u.state; represents = u.represents }; reach = (c.requires.reach, omega (arith, c.if-m-eq0.false)) }

pub returns : goal.returns
returns c =
    λ a s b r.
    delivers_in r (take c.args.n (drop c.args.start (ahead s.source))) (taking c.args.width s) c.if-m-eq0.false
    (λ x xs q. c.collect_token.ensures a s (sinks_at c.args.streams.now c.args.owners.now c.args.output.now b) x xs r q)

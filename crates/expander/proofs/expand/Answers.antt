-- `expander::expand` meets its contract. Assumes nothing.
use Rattle.rules.proofs.Base.{◌∙◌, sym, arith, length}
use Rattle.expander.proofs.ExpandLaws.{all_lent, zeros, expanded, not_lent}
use Rattle.rules.specs.Contract.{Buffers, setting_of}
use Rattle.rules.specs.Run.{lengths}
use Rattle.expander.proofs.expand.Goals as goal
use Rattle.expander.proofs.expand.Goals.{Start}

-- the lent buffers
abbrev lent : Start → Buffers
lent c =
    let a = c.args in
    record {
      pending = a.pending.now;
      calls = a.calls.now;
      definitions = a.definitions.now;
      streams = a.streams.now;
      wrap = a.wrap.now;
      errors = a.errors.now;
      output = a.output.now;
    }

pub work-r-requires : goal.work-r-requires
work-r-requires c = all_lent _ _ _ _ _ _ _ _ (sym c.if-lendable.true ∙ c.lendable.ensures)

pub returns-then-lendable : goal.returns-then-lendable
unfolding setting_of lengths
returns-then-lendable c =
    let b = lent (goal.at.returns-then-lendable c).Start in
    let z = c.clear_five.ensures in
    let k = c.work-r.auto in
    expanded c.args.text.now c.args.set.now c.args.budget b (sym c.if-lendable.true ∙ c.lendable.ensures) c.work-r.ensures
    (zeros (length b.pending) z.0 (omega (arith, k))) (zeros (length b.calls) z.1 (omega (arith, k))) (zeros (length b.definitions) z.2 (omega (arith, k)))
    (zeros (length b.streams) z.3 (omega (arith, k))) (zeros (length b.wrap) z.4 (omega (arith, k)))

pub returns : goal.returns
unfolding setting_of lengths
returns c =
    not_lent c.args.text.now c.args.set.now c.args.budget (lent (goal.at.returns c).Start) c.not_started.ensures (sym c.if-lendable.false ∙ c.lendable.ensures)

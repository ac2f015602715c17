-- `expander::buckets::clear_heads` meets its contract: the loop keeps that the heads of the buckets so far are 0. Assumes nothing.
use Rattle.rules.proofs.Base.{◌<◌, ◌≡◌, ℕ, take}
use Rattle.expander.specs.Limits.{links_start}
use Rattle.expander.specs.Buckets.{head_at, Candidates}
use Rattle.expander.proofs.buckets.clear_heads.Given as goal

abbrev pub invariant-loop-b : goal.invariant-loop-b
invariant-loop-b l = ((c : ℕ) → c < l.b → head_at l.ends c ≡ 0) × Candidates l.ends × (take links_start l.ends ≡ take links_start l.initial.ends)

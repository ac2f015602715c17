-- `expander::buckets::join` meets its contract: a link and a head are written. Assumes nothing.
use Rattle.rules.proofs.Base.{◌+◌, ℕ, subst, arith}
use Rattle.expander.specs.Buckets.{head_at, Linked, Headed}
use Rattle.expander.proofs.Chains.{chained_joined, joined_before}
use Rattle.expander.proofs.buckets.join.Goals as goal

pub returns : goal.returns
returns c =
    let h = c.head_at-head in
    let l = c.put_link in
    let k = c.put_head in record {
      chained = λ ds d e m f.
          chained_joined {mid = l.new.ends} ds d c.args.bucket m c.requires.1 (omega (arith, e, c.requires.2)) f
          (subst (λ (n : ℕ). Linked c.args.ends.now n (head_at c.args.ends.now c.args.bucket) l.new.ends) e
          (subst (λ (n : ℕ). Linked c.args.ends.now c.args.i n l.new.ends) h.ensures l.ensures))
          (subst (λ (n : ℕ). Headed l.new.ends c.args.bucket (n + 1) k.new.ends) e k.ensures);
      ends_unchanged = joined_before c.args.ends.now l.new.ends k.new.ends l.ensures.ends k.ensures.ends;
    }

pub put_link-requires : goal.put_link-requires
put_link-requires c = (c.requires.0, c.requires.2, omega (arith, c.head_at-head.ensures, c.requires))

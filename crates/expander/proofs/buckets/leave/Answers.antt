-- `expander::buckets::leave` meets its contract: a head is written, or the chains are made anew. Assumes nothing.
use Rattle.rules.proofs.Base.{refl, suc, subst, sym, ℕ, ◌<◌, ◌++◌, arith, take, drop, length-append, length-drop, length-take-le}
use Rattle.expander.specs.Buckets.{Headed}
use Rattle.expander.proofs.Packing.{count_is}
use Rattle.expander.proofs.Rows.{length-rows}
use Rattle.expander.proofs.Chains.{link_small, chained_left, joined_before}
use Rattle.expander.proofs.buckets.leave.Goals as goal

pub returns-then-i-packed : goal.returns-then-i-packed
returns-then-i-packed c =
    let k = c.put_head in
    let i = c.args.i in record {
      chained = λ ds l e h p.
          chained_left ds i c.args.bucket
          (omega (arith, l, c.if-i-packed.true, count_is p, length-rows (take i ds ++ drop (suc i) ds), length-append (take i ds) (drop (suc i) ds), length-take-le i ds (omega (arith, l)), length-drop (suc i) ds))
          c.requires.ends_len.4 e h (subst (λ (n : ℕ). Headed c.args.ends.now c.args.bucket n k.new.ends) c.link_at-link.ensures k.ensures);
      ends_unchanged = joined_before c.args.ends.now c.args.ends.now k.new.ends refl k.ensures.ends;
    }

pub returns : goal.returns
returns c =
    let r = c.rebuild in
    let i = c.args.i in record { chained = λ ds l e h p. r.ensures.chained (take i ds ++ drop (suc i) ds) p; ends_unchanged = r.ensures.ends_unchanged }

pub overflow_cast-link : goal.overflow_cast-link
overflow_cast-link c = omega (arith, subst (λ (n : ℕ). n < 65536) (sym c.link_at-link.ensures) (link_small c.args.ends.now _))

pub put_head-requires : goal.put_head-requires
put_head-requires c = (c.requires.ends_len.0, c.requires.ends_len.3, omega (arith, subst (λ (n : ℕ). n < 65536) (sym c.link_at-link.ensures) (link_small c.args.ends.now _)))

pub rebuild-requires : goal.rebuild-requires
rebuild-requires c = record { rows_in = c.requires.rows_in; ends_len = (c.requires.ends_len.0, c.requires.ends_len.1, c.requires.ends_len.2) }

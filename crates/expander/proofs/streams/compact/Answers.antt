-- `expander::streams::compact` meets its contract: the loop keeps what is kept and what is left, of bytes and owners. Assumes nothing.
use Rattle.rules.proofs.Base.{◌≤◌, ℕ, ◌<◌, ◌∙◌, ap, ◌≡◌, arith, length, take, get_or, length-take, rules}
use Rattle.expander.specs.Streams.{owns_one}
use Rattle.expander.proofs.Passes.{closes_first, closes_read, closes_by, closes_end, closed_count}
use Rattle.expander.proofs.Waiting.{compacted}
use Rattle.expander.proofs.streams.compact.Goals as goal

pub loop-k-init : goal.loop-k-init
loop-k-init c =
    let a = c.args in
    let os = take a.used a.owners.now in
    (search rules, closes_first a.i os a.bytes.now a.used, closes_first a.i os a.owners.now a.used)

pub loop-k-preserved : goal.loop-k-preserved
loop-k-preserved c =
    let a = c.args in
    let l = c.loop-k in
    let os = take a.used a.owners.now in
    let h : l.k < a.used = omega arith in
    let ls : a.used ≤ length os = omega (arith, length-take a.used a.owners.now) in
    let e : c.of_stream.result ≡ owns_one (get_or os l.k 0) a.i =
    c.of_stream.ensures.0 ∙ ap (λ (o : ℕ). owns_one o a.i) (closes_read a.i os a.owners.now l.owners a.used l.n l.k l.invariant.2 h) in (
      omega arith,
      closes_by a.i os a.bytes.now l.bytes a.used l.n l.k l.invariant.1 (omega arith) h ls (omega arith) c.of_stream.result e,
      closes_by a.i os a.owners.now l.owners a.used l.n l.k l.invariant.2 (omega arith) h ls (omega arith) c.of_stream.result e,
    )

pub returns : goal.returns
returns c =
    let a = c.args in
    let l = c.loop-k in
    let os = take a.used a.owners.now in
    let le : length os ≤ l.k = omega (arith, length-take a.used a.owners.now) in
    let eb = closes_end a.i os a.bytes.now l.bytes a.used l.n l.k l.invariant.1 le in
    let eo = closes_end a.i os a.owners.now l.owners a.used l.n l.k l.invariant.2 le in (
      closed_count a.i a.used a.owners.now l.owners l.n (omega arith) (omega arith) eo,
      λ ws s m. compacted m a.i s l.bytes l.owners l.n (omega arith) (omega arith) eb eo,
    )

pub overflow_sub-n : goal.overflow_sub-n
overflow_sub-n c = omega arith

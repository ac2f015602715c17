-- `expander::tokens::mark_at` meets its contract: the loop keeps that the rest of the mark stands further on just where the whole mark
-- stands at the place. Assumes nothing.
use Rattle.rules.proofs.Base.{ℕ, ◌<◌, ◌∙◌, sym, ap, add-zero, arith, drop, length-drop}
use Rattle.rules.specs.Marks.{mark_text}
use Rattle.rules.specs.Tokens.{begins_with}
use Rattle.expander.specs.Source.{bytes_of}
use Rattle.expander.proofs.MarkPlaces.{mark_byte, begins_short, begins_end, begins_not, begins_on}
use Rattle.expander.proofs.tokens.mark_at.Goals as goal

pub returns-then-len-i : goal.returns-then-len-i
returns-then-len-i c =
    let a = c.args in
    sym (begins_short (mark_text a.m) (drop a.i (bytes_of a.ahead)) (omega (arith, length-drop a.i (bytes_of a.ahead))))

pub loop-k-init : goal.loop-k-init
loop-k-init c =
    let a = c.args in
    ap (λ (n : ℕ). begins_with (mark_text a.m) (drop n (bytes_of a.ahead))) (add-zero a.i)

pub returns-then-m-k : goal.returns-then-m-k
returns-then-m-k c =
    let a = c.args in
    let l = c.loop-k in
    let h : l.k < a.m.len = omega arith in
    sym (begins_not (mark_text a.m) (bytes_of a.ahead) a.i l.k (omega arith) (omega arith) (λ q. c.if-m-k.true (mark_byte a.m l.k h ∙ q ∙ sym c.byte-x.ensures))) ∙ l.invariant

pub loop-k-preserved : goal.loop-k-preserved
loop-k-preserved c =
    let a = c.args in
    let l = c.loop-k in
    let h : l.k < a.m.len = omega arith in
    sym (begins_on (mark_text a.m) (bytes_of a.ahead) a.i l.k (omega arith) (omega arith) (sym (mark_byte a.m l.k h) ∙ c.if-m-k.false ∙ c.byte-x.ensures)) ∙ l.invariant

pub returns : goal.returns
returns c =
    let a = c.args in
    let l = c.loop-k in
    sym (begins_end (mark_text a.m) (bytes_of a.ahead) a.i l.k (omega arith)) ∙ l.invariant

use Rattle.rules.proofs.Base.{true, false, arith}
use Rattle.expander.proofs.RunLaws.{lend_stops, lend_goes, lend_all}
use Rattle.expander.proofs.lendable.Goals as goal

pub returns-then-t-gt-MOST_LENT : goal.returns-then-t-gt-MOST_LENT
returns-then-t-gt-MOST_LENT c = lend_stops _ _ (omega (arith, c.if-t-gt-MOST_LENT.true))

pub returns-then-a-gt-MOST_LENT : goal.returns-then-a-gt-MOST_LENT
returns-then-a-gt-MOST_LENT c = lend_goes _ _ false (omega (arith, c.if-t-gt-MOST_LENT.false)) (lend_stops _ _ (omega (arith, c.if-a-gt-MOST_LENT.true)))

pub returns-then-b-gt-MOST_LENT : goal.returns-then-b-gt-MOST_LENT
returns-then-b-gt-MOST_LENT c = lend_goes _ _ false (omega (arith, c.if-t-gt-MOST_LENT.false)) (lend_goes _ _ false (omega (arith, c.if-a-gt-MOST_LENT.false)) (lend_stops _ _ (omega (arith, c.if-b-gt-MOST_LENT.true))))

pub returns-then-c-gt-MOST_LENT : goal.returns-then-c-gt-MOST_LENT
returns-then-c-gt-MOST_LENT c = lend_goes _ _ false (omega (arith, c.if-t-gt-MOST_LENT.false)) (lend_goes _ _ false (omega (arith, c.if-a-gt-MOST_LENT.false)) (lend_goes _ _ false (omega (arith, c.if-b-gt-MOST_LENT.false)) (lend_stops _ _ (omega (arith, c.if-c-gt-MOST_LENT.true)))))

pub returns-then-d-gt-MOST_LENT : goal.returns-then-d-gt-MOST_LENT
returns-then-d-gt-MOST_LENT c = lend_goes _ _ false (omega (arith, c.if-t-gt-MOST_LENT.false)) (lend_goes _ _ false (omega (arith, c.if-a-gt-MOST_LENT.false)) (lend_goes _ _ false (omega (arith, c.if-b-gt-MOST_LENT.false)) (lend_goes _ _ false (omega (arith, c.if-c-gt-MOST_LENT.false)) (lend_stops _ _ (omega (arith, c.if-d-gt-MOST_LENT.true))))))

pub returns-then-e-gt-MOST_LENT : goal.returns-then-e-gt-MOST_LENT
returns-then-e-gt-MOST_LENT c = lend_goes _ _ false (omega (arith, c.if-t-gt-MOST_LENT.false)) (lend_goes _ _ false (omega (arith, c.if-a-gt-MOST_LENT.false)) (lend_goes _ _ false (omega (arith, c.if-b-gt-MOST_LENT.false)) (lend_goes _ _ false (omega (arith, c.if-c-gt-MOST_LENT.false)) (lend_goes _ _ false (omega (arith, c.if-d-gt-MOST_LENT.false)) (lend_stops _ _ (omega (arith, c.if-e-gt-MOST_LENT.true)))))))

pub returns-then-f-gt-MOST_LENT : goal.returns-then-f-gt-MOST_LENT
returns-then-f-gt-MOST_LENT c = lend_goes _ _ false (omega (arith, c.if-t-gt-MOST_LENT.false)) (lend_goes _ _ false (omega (arith, c.if-a-gt-MOST_LENT.false)) (lend_goes _ _ false (omega (arith, c.if-b-gt-MOST_LENT.false)) (lend_goes _ _ false (omega (arith, c.if-c-gt-MOST_LENT.false)) (lend_goes _ _ false (omega (arith, c.if-d-gt-MOST_LENT.false)) (lend_goes _ _ false (omega (arith, c.if-e-gt-MOST_LENT.false)) (lend_stops _ _ (omega (arith, c.if-f-gt-MOST_LENT.true))))))))

pub returns-then-g-gt-MOST_LENT : goal.returns-then-g-gt-MOST_LENT
returns-then-g-gt-MOST_LENT c = lend_goes _ _ false (omega (arith, c.if-t-gt-MOST_LENT.false)) (lend_goes _ _ false (omega (arith, c.if-a-gt-MOST_LENT.false)) (lend_goes _ _ false (omega (arith, c.if-b-gt-MOST_LENT.false)) (lend_goes _ _ false (omega (arith, c.if-c-gt-MOST_LENT.false)) (lend_goes _ _ false (omega (arith, c.if-d-gt-MOST_LENT.false)) (lend_goes _ _ false (omega (arith, c.if-e-gt-MOST_LENT.false)) (lend_goes _ _ false (omega (arith, c.if-f-gt-MOST_LENT.false)) (lend_stops _ _ (omega (arith, c.if-g-gt-MOST_LENT.true)))))))))

pub returns : goal.returns
returns c = lend_goes _ _ true (omega (arith, c.if-t-gt-MOST_LENT.false)) (lend_goes _ _ true (omega (arith, c.if-a-gt-MOST_LENT.false)) (lend_goes _ _ true (omega (arith, c.if-b-gt-MOST_LENT.false)) (lend_goes _ _ true (omega (arith, c.if-c-gt-MOST_LENT.false)) (lend_goes _ _ true (omega (arith, c.if-d-gt-MOST_LENT.false)) (lend_goes _ _ true (omega (arith, c.if-e-gt-MOST_LENT.false)) (lend_goes _ _ true (omega (arith, c.if-f-gt-MOST_LENT.false)) (lend_goes _ _ true (omega (arith, c.if-g-gt-MOST_LENT.false)) lend_all)))))))

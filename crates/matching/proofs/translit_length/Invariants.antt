-- `matching::translit_length` meets its contract: those bytes are counted for which something stands. Assumes nothing.
use Rattle.rules.proofs.Base.{◌≡◌, ltb, get_or, take}
use Rattle.std.specs.List.{count_by}
use Rattle.matching.proofs.translit_length.Given as goal

abbrev pub invariant-loop-b : goal.invariant-loop-b
invariant-loop-b l = l.n ≡ count_by (λ x. ltb (get_or l.table x 0) 257) (take l.b-index l.s)

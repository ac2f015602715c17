-- `builtins::needs_parenthesis` meets its contract: the table has the book's answer for each number. Assumes nothing.
use Rattle.rules.proofs.Base.{ℕ, ◌≡◌, ◌∙◌, sym, ap, false, Option, None, Some, eqb, arith, rules}
use denote.Ref.{Bor}
use Rattle.std.specs.Option.{option_map_or}
use Rattle.std.specs.Slice.{IsGetResult}
use Rattle.rules.specs.Table.{needs_parenthesis}
use Rattle.rules.proofs.Bare.{parenthesis_table, none_above, by_table}
use Rattle.rules.proofs.Book.{book}
use Rattle.builtins.proofs.needs_parenthesis.Goals as goal

-- what is at a place of the table, if anything
needing : (k : ℕ) (o : Option (Bor ℕ)) → IsGetResult parenthesis_table k k o → option_map_or (λ (x : Bor ℕ). eqb x.now 40) o false ≡ needs_parenthesis k
unfolding book
needing k None h = sym (none_above k (omega (arith, h.3)))
needing k (Some x) h = ap (λ (y : ℕ). eqb y 40) (h.4 (omega arith) 0) ∙ by_table k (omega (arith, h.3.0))

pub returns : goal.returns
unfolding book
returns c =
    let told : c.is_some_and.result ≡ option_map_or (λ (x : Bor ℕ). eqb x.now 40) c.get.result false = search rules in
    told ∙ needing c.args.k c.get.result c.get.ensures.lookup

-- `hashing::hash_on` meets its contract: 32 bits of the sum are enough for 32 bits of the product. Assumes nothing.
use Rattle.rules.proofs.Base.{◌+◌}
use Rattle.std.proofs.lemmas.Nat.{mul-mod_first}
use Rattle.hashing.specs.Hashing.{hash_on}
use Rattle.hashing.proofs.hash_on.Goals as goal

pub returns : goal.returns
unfolding hash_on
returns c = mul-mod_first (c.args.hash + c.args.x) 2654435773 4294967296

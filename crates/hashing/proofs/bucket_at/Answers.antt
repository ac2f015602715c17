-- `hashing::bucket_at` meets its contract. Assumes nothing.
use Rattle.rules.proofs.Base.{refl}
use Rattle.hashing.specs.Hashing.{bucket_at}
use Rattle.hashing.proofs.bucket_at.Goals as goal

pub returns : goal.returns
unfolding bucket_at
returns c = refl

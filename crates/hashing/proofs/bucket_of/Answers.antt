-- `hashing::bucket_of` meets its contract: the hash of a name is that of its bytes in turn. Assumes nothing.
use Rattle.rules.proofs.Base.{◌≡◌, ◌∙◌, ap, rules}
use Rattle.std.specs.List.{fold}
use Rattle.hashing.specs.Hashing.{hash_on, bucket_at, bucket_of}
use Rattle.hashing.proofs.Laws.{folded}
use Rattle.hashing.proofs.bucket_of.Goals as goal

pub returns : goal.returns
unfolding bucket_of
returns c =
    let e : c.fold-hash.result ≡ fold hash_on 0 c.args.name.now = search rules in
    c.bucket_at.ensures ∙ ap bucket_at (e ∙ folded 0 c.args.name.now)

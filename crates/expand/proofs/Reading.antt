-- A part at the front of a buffer is as long as it is asked to be.
use Rattle.rules.proofs.Base.{◌≤◌, ℕ, sym, ◌≡◌, List, length, take, length-take-le}

pub part_long : (n : ℕ) (buffer : List ℕ) → n ≤ length buffer → n ≡ length (take n buffer)
part_long n buffer h = sym (length-take-le n buffer h)

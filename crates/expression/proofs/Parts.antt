-- Parts of a slice. Assumes nothing.
use Rattle.rules.proofs.Base.{ℕ, ◌-◌, ◌∙◌, ap, ◌≡◌, le_of_eq, length, drop, take, length-drop, take_all}
use Rattle.rules.specs.Bytes.{Bytes}

-- `&s[n..]`, as the logic has it
abbrev pub part : Bytes → ℕ → Bytes
part s n = take (length s - n) (drop n s)

pub part_drop : (s : Bytes) (n : ℕ) → part s n ≡ drop n s
part_drop s n = take_all (length s - n) (drop n s) (le_of_eq (length-drop n s))

pub part_length : (s : Bytes) (n : ℕ) → length (part s n) ≡ length s - n
part_length s n = ap length (part_drop s n) ∙ length-drop n s

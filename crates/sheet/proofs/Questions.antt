-- Laws of a question by name. Assumes nothing.
use Rattle.rules.proofs.Base.{◌≤◌, ◌+◌, ℕ, ◌-◌, ◌<◌, refl, ◌≡◌, true, false, Bool, cond, Some, List, [], ◌∷◌, arith, le-leb, lt-leb, length, take, drop}
use Rattle.rules.specs.declared.Value.{Value}
use Rattle.rules.specs.declared.Entry.{Entry}
use Rattle.std.specs.List.{find}
use Rattle.std.specs.Option.{option_map}
use Rattle.rules.specs.Bytes.{Bytes, same_bytes}
use Rattle.rules.specs.Sheets.{unused_line, name_in, is_named, first_named}

-- the name of a line, by place and length alone
module _ (text name : Bytes) (p n : ℕ) (v : Value) where
  abbrev there : Entry
  there = record { name = p; length = n; value = v }

  pub outside : length text < p + n → false ≡ is_named text name there
  unfolding is_named
  outside h = rw (lt-leb (p + n) (length text) h)

  pub inside : p + n ≤ length text → is_named text name there ≡ same_bytes (take (p + n - p) (drop p text)) name
  unfolding is_named name_in
  inside h = let e : p + n - p ≡ n = omega arith in rw (le-leb (p + n) (length text) h, e)

-- of a line place and length are asked
pub named_by_place : (text name : Bytes) (e : Entry) → is_named text name e ≡ is_named text name (record { name = e.name; length = e.length; value = unused_line.value })
unfolding is_named name_in
named_by_place text name e = refl

-- the first line that has the name, among any lines, with its reading
pub found_first : (text name : Bytes) (es : List Entry) → option_map (λ (e : Entry). e.value) (find (λ (e : Entry). is_named text name (there text name e.name e.length unused_line.value)) es) ≡ first_named text name es
unfolding first_named is_named name_in
found_first text name [] = refl
found_first text name (e ∷ es) = go (is_named text name e) refl (found_first text name es)
  where
    go : (t : Bool) → is_named text name e ≡ t → option_map (λ (d : Entry). d.value) (find (λ (d : Entry). is_named text name (there text name d.name d.length unused_line.value)) es) ≡ first_named text name es
        → option_map (λ (d : Entry). d.value) (cond t (Some e) (find (λ (d : Entry). is_named text name (there text name d.name d.length unused_line.value)) es)) ≡ elim t [ true ↦ Some e.value | false ↦ first_named text name es ]
    go true q r = refl
    go false q r = r

-- Laws of the macros whose result is a part of an argument. Assumes nothing.
use Rattle.rules.proofs.Base.{◌≤◌, ◌+◌, ℕ, ◌-◌, ◌<◌, ◌∙◌, refl, sym, ap, ◌≡◌, true, Bool, false, ◌⊎◌, inl, inr, Some, None, List, [], ◌∷◌, add-zero, arith, pos, length, drop, take, get_or, length-drop, drop-drop, take_all, get_or-drop, le-leb, leb, leb-true, leb-false, min, drop_of_length-le}
use denote.Enum.Declared.{tag_of}
use Rattle.std.specs.Prelude.{Result, Ok, Err, Option, ok_or}
use Rattle.rules.specs.declared.Answer.{Answer}
use Rattle.rules.specs.declared.Answer.TheVariants as answer
use Rattle.rules.specs.Bytes.{Bytes, same_bytes}
use Rattle.rules.specs.Answers.{no_number, fault_answer}
use Rattle.rules.specs.Numerals.{number}
use Rattle.rules.specs.Table.{Table, Definition, meaning_of, is_defined}
use Rattle.rules.specs.Arguments.{arg, number_or, bounded}
use Rattle.rules.specs.Results.{Result as Given, yields, fails, needing, ifdef_result, chosen, ifelse_result, shortened, substr_result}
use Rattle.expander.specs.declared.table.Meaning.{Meaning as Looked}
use Rattle.expander.specs.declared.table.Meaning.TheVariants as looked
use Rattle.expander.specs.Table.{rows, meaning_for, Finds}
use Rattle.expander.specs.Results.{answered}
use Rattle.expander.specs.contracts.table.Meaning.{the_type}
use Rattle.expander.proofs.Packing.{same_of}
use Rattle.expander.proofs.ArgumentLaws.{arg_from}

-- a text that is given
pub shows : {s w : Bytes} {v : Given} → v ≡ yields w → s ≡ w → ◌≡◌ {A = Result Bytes Answer} (Ok s) (answered v)
unfolding answered
shows e f = rw (e, f, answered)

-- no number, where one is needed
pub shows_none :
    {v : Given} {o : Option ℕ} {x : Answer} → ◌≡◌ {A = Result ℕ Answer} (Err x) (ok_or o answer.Number) → o ≡ None → v ≡ fails no_number
    → ◌≡◌ {A = Result Bytes Answer} (Err x) (answered v)
unfolding answered fault_answer
shows_none {x = x} h n e = let k : x ≡ answer.Number = (let q = rw n at h in cc) in rw (k, e, answered, fault_answer)

-- ---- ifdef

is_defined_lem : (ds : List Definition) (r : Looked) → (tag_of the_type r ≡ 0) ⊎ (tag_of the_type r ≡ 2) → (w : Bytes) (t : Table) → meaning_of w t ≡ meaning_for (rows ds) r → is_defined w t ≡ true
unfolding is_defined meaning_for
is_defined_lem ds looked.Undefined (inl k) w t e = absurd (omega arith)
is_defined_lem ds looked.Undefined (inr k) w t e = absurd (omega arith)
is_defined_lem ds (looked.Text i) k w t e = rw (e, is_defined)
is_defined_lem ds (looked.Predefined n) k w t e = rw (e, is_defined)

module _ (args : List Bytes) (t : Table) {w : Bytes} (e : w ≡ arg 1 args) {ds : List Definition} {r : Looked} (f : Finds ds (meaning_of w t) r) where
  pub ifdef_none : r ≡ looked.Undefined → ifdef_result t args ≡ yields (arg 3 args)
  unfolding ifdef_result is_defined meaning_for
  ifdef_none k =
      let m : is_defined w t ≡ false = rw (f.is ∙ ap (meaning_for (rows ds)) k, is_defined) in
      rw (← e, m)

  -- by what the default arm of the `match` tells
  pub ifdef_some : (tag_of the_type r ≡ 0) ⊎ (tag_of the_type r ≡ 2) → ifdef_result t args ≡ yields (arg 2 args)
  unfolding ifdef_result
  ifdef_some k = rw (← e, is_defined_lem ds r k w t f.is)

-- ---- ifelse

-- the strings that are left, by how many they are and whether the first two are the same
same_left : (l : List Bytes) → 3 ≤ length l → same_bytes (get_or l 0 []) (get_or l 1 []) ≡ true → chosen l ≡ get_or l 2 []
unfolding chosen
same_left [] h e = absurd (omega arith)
same_left (a ∷ []) h e = absurd (omega arith)
same_left (a ∷ b ∷ []) h e = absurd (omega arith)
same_left (a ∷ b ∷ c ∷ []) h e = rw e
same_left (a ∷ b ∷ c ∷ d ∷ []) h e = rw e
same_left (a ∷ b ∷ c ∷ d ∷ f ∷ []) h e = rw e
same_left (a ∷ b ∷ c ∷ d ∷ f ∷ g ∷ l) h e = ap (λ (t : Bool). elim t [ true ↦ c | false ↦ chosen (d ∷ f ∷ g ∷ l) ]) e

last_left : (l : List Bytes) → 3 ≤ length l → length l ≤ 5 → same_bytes (get_or l 0 []) (get_or l 1 []) ≡ false → chosen l ≡ get_or l 3 []
unfolding chosen
last_left [] h k e = absurd (omega arith)
last_left (a ∷ []) h k e = absurd (omega arith)
last_left (a ∷ b ∷ []) h k e = absurd (omega arith)
last_left (a ∷ b ∷ c ∷ []) h k e = rw e
last_left (a ∷ b ∷ c ∷ d ∷ []) h k e = rw e
last_left (a ∷ b ∷ c ∷ d ∷ f ∷ []) h k e = rw e
last_left (a ∷ b ∷ c ∷ d ∷ f ∷ g ∷ l) h k e = absurd (omega arith)

more_left : (l : List Bytes) → 5 < length l → same_bytes (get_or l 0 []) (get_or l 1 []) ≡ false → chosen (drop 3 l) ≡ chosen l
unfolding chosen
more_left [] h e = absurd (omega arith)
more_left (a ∷ []) h e = absurd (omega arith)
more_left (a ∷ b ∷ []) h e = absurd (omega arith)
more_left (a ∷ b ∷ c ∷ []) h e = absurd (omega arith)
more_left (a ∷ b ∷ c ∷ d ∷ []) h e = absurd (omega arith)
more_left (a ∷ b ∷ c ∷ d ∷ f ∷ []) h e = absurd (omega arith)
more_left (a ∷ b ∷ c ∷ d ∷ f ∷ g ∷ l) h e = sym (ap (λ (t : Bool). elim t [ true ↦ c | false ↦ chosen (d ∷ f ∷ g ∷ l) ]) e)

few_left : (l : List Bytes) → length l < 3 → chosen l ≡ []
unfolding chosen
few_left [] h = refl
few_left (a ∷ []) h = refl
few_left (a ∷ b ∷ []) h = refl
few_left (a ∷ b ∷ c ∷ l) h = absurd (omega arith)

-- what the loop of `ifelse` keeps: the arguments from k on give what all give
pub record Choosing (args : List Bytes) (k : ℕ) : Type 0 where
  pub low : 1 ≤ k
  pub high : k ≤ 321
  pub same : chosen (drop (k - 1) args) ≡ chosen args

pub choosing_begins : (args : List Bytes) → Choosing args 1
choosing_begins args = record { low = omega arith; high = omega arith; same = refl }

-- argument j of those from k on
left_at : (args : List Bytes) (k j : ℕ) → 1 ≤ k → get_or (drop (k - 1) args) j [] ≡ arg (k + j) args
left_at args k j h =
    get_or-drop (k - 1) args j [] ∙ ap (λ (n : ℕ). get_or args n []) (let e : k - 1 + j ≡ k + j - 1 = omega arith in e) ∙ sym (arg_from (k + j) args (omega (arith, h)))

module _ {args : List Bytes} {k : ℕ} (c : Choosing args k) {have : ℕ} (n : have ≡ length args) where
  left_long : length (drop (k - 1) args) ≡ have - (k - 1)
  left_long = length-drop (k - 1) args ∙ ap (λ (m : ℕ). m - (k - 1)) (sym n)

  pub none_left : have < k + 2 → ifelse_result args ≡ yields []
  unfolding ifelse_result
  none_left l = ap yields (sym (c.same) ∙ few_left (drop (k - 1) args) (omega (arith, left_long, c.low)))

  module _ (l : k + 2 ≤ have) {r : Bool} (e : r ≡ same_bytes (arg k args) (arg (k + 1) args)) where
    alike_left : same_bytes (get_or (drop (k - 1) args) 0 []) (get_or (drop (k - 1) args) 1 []) ≡ r
    alike_left = same_of (left_at args k 0 c.low ∙ ap (λ (i : ℕ). arg i args) (add-zero k)) (left_at args k 1 c.low) ∙ sym e

    pub taken_left : r ≡ true → ifelse_result args ≡ yields (arg (k + 2) args)
    unfolding ifelse_result
    taken_left t = ap yields (sym (c.same) ∙ same_left (drop (k - 1) args) (omega (arith, left_long, c.low)) (alike_left ∙ t) ∙ left_at args k 2 c.low)

    pub other_left : r ≡ false → have ≤ k + 4 → ifelse_result args ≡ yields (arg (k + 3) args)
    unfolding ifelse_result
    other_left t m =
        ap yields (sym (c.same) ∙ last_left (drop (k - 1) args) (omega (arith, left_long, c.low)) (omega (arith, left_long, c.low)) (alike_left ∙ t) ∙ left_at args k 3 c.low)

    next_left : r ≡ false → k + 4 < have → chosen (drop (k + 3 - 1) args) ≡ chosen args
    next_left t m =
        let e : k - 1 + 3 ≡ k + 3 - 1 = omega (arith, c.low) in
        ap (λ (i : ℕ). chosen (drop i args)) (sym e)
        ∙ ap chosen (sym (drop-drop 3 (k - 1) args))
        ∙ more_left (drop (k - 1) args) (omega (arith, left_long, c.low)) (alike_left ∙ t)
        ∙ c.same

    pub choosing_on : length args ≤ 320 → r ≡ false → k + 4 < have → Choosing args (k + 3)
    choosing_on f t m = record { low = omega arith; high = omega arith; same = next_left t m }

-- ---- substr

-- what stands behind a place, or nothing
pub behind_is : (w : Bytes) (from a : ℕ) → a ≡ min from (length w) → take (length w - a) (drop a w) ≡ drop from w
behind_is w from a e = go (leb from (length w)) refl
  where
    go : (t : Bool) → leb from (length w) ≡ t → take (length w - a) (drop a w) ≡ drop from w
    go true q =
        let k : a ≡ from = omega (arith, leb-true from (length w) q) in
        take_all (length w - a) (drop a w) (omega (arith, length-drop a w)) ∙ ap (λ (i : ℕ). drop i w) k
    go false q =
        let l = leb-false from (length w) q in
        take_all (length w - a) (drop a w) (omega (arith, length-drop a w)) ∙ drop_of_length-le w {i = a} (omega arith) ∙ sym (drop_of_length-le w {i = from} (omega arith))

-- as many bytes as there are
pub front_is : (w : Bytes) (count a : ℕ) → a ≡ min count (length w) → take a w ≡ take count w
front_is w count a e = go (leb count (length w)) refl
  where
    go : (t : Bool) → leb count (length w) ≡ t → take a w ≡ take count w
    go true q = let k : a ≡ count = omega (arith, leb-true count (length w) q) in ap (λ (i : ℕ). take i w) k
    go false q = let l = leb-false count (length w) q in take_all a w (omega arith) ∙ sym (take_all count w (omega arith))

pub no_start : (args : List Bytes) → bounded 0 2147483647 (number (arg 2 args)) ≡ None → substr_result args ≡ fails no_number
unfolding substr_result needing
no_start args e = rw e

-- the length of a part: the text has no more than `size` bytes, which stand for an absent one
module _ {size : ℕ} (few : size ≤ 2147483647) where
  size_good : bounded 0 2147483647 (Some (pos size)) ≡ Some size
  unfolding bounded
  size_good = rw (le-leb 0 size (omega arith), le-leb size 2147483647 few, bounded)

  shortened_fails :
      (rest : List Bytes) (w : Bytes) → bounded 0 2147483647 (elim rest [ [] ↦ Some (pos size) | a ∷ more ↦ number a ]) ≡ None → shortened rest w ≡ fails no_number
  unfolding shortened needing
  shortened_fails [] w e = let q : Some size ≡ None = sym size_good ∙ e in let z : ◌≡◌ {A = ℕ} 0 1 = cc in absurd (omega arith)
  shortened_fails (a ∷ more) w e = rw e refl

  shortened_yields :
      (rest : List Bytes) (w : Bytes) (count : ℕ) → length w ≤ size → bounded 0 2147483647 (elim rest [ [] ↦ Some (pos size) | a ∷ more ↦ number a ]) ≡ Some count
      → shortened rest w ≡ yields (take count w)
  unfolding shortened needing
  shortened_yields [] w count l e = let r : Some size ≡ Some count = sym size_good ∙ e in let q : size ≡ count = cc in ap yields (sym (take_all count w (omega (arith, l, q))))
  shortened_yields (a ∷ more) w count l e = rw e refl

module _ (args : List Bytes) (from : ℕ) (e : bounded 0 2147483647 (number (arg 2 args)) ≡ Some from) {behind : Bytes} (b : behind ≡ drop from (arg 1 args))
    (few : length behind ≤ 2147483647) where
  from_there : substr_result args ≡ shortened (drop 2 args) behind
  unfolding substr_result needing
  from_there = rw (e, b)

  pub no_count : bounded 0 2147483647 (number_or (pos (length behind)) 3 args) ≡ None → substr_result args ≡ fails no_number
  unfolding number_or
  no_count f = from_there ∙ shortened_fails few (drop 2 args) behind f

  pub start_and_count : (count : ℕ) → bounded 0 2147483647 (number_or (pos (length behind)) 3 args) ≡ Some count → substr_result args ≡ yields (take count behind)
  unfolding number_or
  start_and_count count f = from_there ∙ shortened_yields few (drop 2 args) behind count (omega arith) f

-- Laws of a defined text that arguments are put into, from a place of it on. Assumes nothing.
use Rattle.rules.proofs.Base.{◌≤◌, ◌+◌, ℕ, ◌-◌, ◌<◌, suc, zero, ◌/◌, ◌%◌, ◌∙◌, refl, sym, ap, ◌≡◌, subst, true, Bool, false, Some, None, Option, List, [], ◌++◌, ◌∷◌, append_assoc, append-nil, arith, ltb, pos, length, drop, take, get_or, length-append, length-drop, set, drop_of_length-le, replicate, length-take-le, drop-cons, drop-drop, take_all, eq-eqb, ne_eqb}
use mir.Syntax.{w32}
use mir.Val.{to_z}
use Rattle.std.proofs.lemmas.Int.{to_z_pos}
use Rattle.rules.specs.Words.{largest}
use Rattle.rules.specs.Bytes.{Bytes, is_digit}
use Rattle.rules.specs.Marks.{MarkTexts}
use Rattle.rules.specs.Numerals.{digits_by, digits_in, digit_byte, zero_filled, written_in, decimal}
use Rattle.rules.specs.Arguments.{parameter, parameter_at, substituted}
use Rattle.rules.proofs.Classes.{digit_bounds, a_digit, no_digit}
use Rattle.expander.specs.Substitution.{parameter_text, parameter_width, OneDigit, Leads, Lays}
use Rattle.expander.specs.declared.substitution.Parameter.{Parameter}
use Rattle.expander.specs.declared.substitution.Parameter.TheVariants as kind
use Rattle.expander.proofs.FilledLaws.{filled_front, filled_long, byte_fills}

-- ---- a text of two bytes at least

module _ (name : Bytes) (args : List Bytes) (m : MarkTexts) (x y : ℕ) (ys : Bytes) where
  either : (o : Option Bytes) → parameter_at name args m x y ≡ o
      → substituted name args m (x ∷ y ∷ ys)
      ≡ elim o as (λ _. Bytes) [ Some w ↦ w ++ substituted name args m ys | None ↦ x ∷ substituted name args m (y ∷ ys) ]
  unfolding substituted
  either o e = ap (λ (z : Option Bytes). elim z as (λ _. Bytes) [ Some w ↦ w ++ substituted name args m ys | None ↦ x ∷ substituted name args m (y ∷ ys) ]) e

-- ---- what leads a text

-- a byte that is not `$`
leads_plain : (x : ℕ) (xs : Bytes) → (x ≡ 36 → ⊥) → Leads (x ∷ xs) (kind.Literal x)
unfolding parameter_text parameter_width OneDigit substituted parameter_at
leads_plain x [] n = record { is = λ name args m. refl; within = omega arith; digit = tt }
leads_plain x (y ∷ ys) n = record { is = λ name args m. either name args m x y ys None (rw (ne_eqb x 36 n, parameter_at)); within = omega arith; digit = tt }

-- the last byte
leads_last : (x : ℕ) → Leads (x ∷ []) (kind.Literal x)
unfolding parameter_text parameter_width OneDigit substituted
leads_last x = record { is = λ name args m. refl; within = omega arith; digit = tt }

module _ (y : ℕ) (ys : Bytes) where
  -- `$` and a byte that has a meaning behind it
  leads_named : (p : Parameter) → ((name : Bytes) (args : List Bytes) (m : MarkTexts) → parameter name args m y ≡ Some (parameter_text name args m p))
      → parameter_width p ≡ 2 → OneDigit p → Leads (36 ∷ y ∷ ys) p
  unfolding parameter_at
  leads_named p e w d = record {
    is = λ name args m. either name args m 36 y ys (Some (parameter_text name args m p)) (e name args m) ∙ rw w;
    within = omega arith;
    digit = d;
  }

  pub leads_name : y ≡ 48 → Leads (36 ∷ y ∷ ys) kind.Name
  unfolding parameter parameter_text parameter_width OneDigit
  leads_name e = leads_named kind.Name (λ name args m. rw (a_digit y (omega arith) (omega arith), eq-eqb y 48 e, parameter)) refl tt

  pub leads_count : y ≡ 35 → Leads (36 ∷ y ∷ ys) kind.Count
  unfolding parameter parameter_text parameter_width OneDigit
  leads_count e = leads_named kind.Count (λ name args m. rw (no_digit y (λ h k. omega arith), eq-eqb y 35 e, parameter)) refl tt

  pub leads_all : y ≡ 42 → Leads (36 ∷ y ∷ ys) kind.All
  unfolding parameter parameter_text parameter_width OneDigit
  leads_all e = leads_named kind.All (λ name args m. rw (no_digit y (λ h k. omega arith), ne_eqb y 35 (λ q. omega arith), eq-eqb y 42 e, parameter)) refl tt

  pub leads_quoted : y ≡ 64 → Leads (36 ∷ y ∷ ys) kind.Quoted
  unfolding parameter parameter_text parameter_width OneDigit
  leads_quoted e = leads_named kind.Quoted (λ name args m. rw (no_digit y (λ h k. omega arith), ne_eqb y 35 (λ q. omega arith), ne_eqb y 42 (λ q. omega arith), eq-eqb y 64 e, parameter)) refl tt

  -- a digit but 0
  pub leads_argument : is_digit y ≡ true → (y ≡ 48 → ⊥) → Leads (36 ∷ y ∷ ys) (kind.Argument (y - 48))
  unfolding parameter parameter_text parameter_width OneDigit
  leads_argument e n =
      let r = digit_bounds y e in
      leads_named (kind.Argument (y - 48)) (λ name args m. rw (e, ne_eqb y 48 n, parameter)) refl (omega arith, omega arith)

  -- a byte without a meaning
  pub leads_dollar : is_digit y ≡ false → (y ≡ 35 → ⊥) → (y ≡ 42 → ⊥) → (y ≡ 64 → ⊥) → Leads (36 ∷ y ∷ ys) (kind.Literal 36)
  unfolding parameter_at parameter parameter_text parameter_width OneDigit
  leads_dollar e a b d = record {
    is = λ name args m. either name args m 36 y ys None (rw (e, ne_eqb y 35 a, ne_eqb y 42 b, ne_eqb y 64 d, parameter));
    within = omega arith;
    digit = tt;
  }

-- ---- what leads the part from a place on

module _ (body : Bytes) (i : ℕ) (h : i < length body) where
  pub plain_at : (get_or body i 0 ≡ 36 → ⊥) → Leads (drop i body) (kind.Literal (get_or body i 0))
  plain_at n = rw (drop-cons body i 0 h) (leads_plain (get_or body i 0) (drop (suc i) body) n)

  pub dollar_last : length body ≤ i + 1 → Leads (drop i body) (kind.Literal (get_or body i 0))
  dollar_last l =
      let e : length body ≤ suc i = omega arith in
      rw (drop-cons body i 0 h, drop_of_length-le body {i = suc i} e) (leads_last (get_or body i 0))

pub width_some : (p : Parameter) → 1 ≤ parameter_width p
unfolding parameter_width
width_some kind.Name = omega arith
width_some (kind.Argument n) = omega arith
width_some kind.Count = omega arith
width_some kind.All = omega arith
width_some kind.Quoted = omega arith
width_some (kind.Literal b) = omega arith

-- ---- a text of which what stands before the place i is measured

-- a parameter of n bytes leads what is left
pub record Stands (body : Bytes) (i : ℕ) (p : Parameter) (n : ℕ) : Type 0 where
  pub leads : Leads (drop i body) p
  pub wide : n ≡ parameter_width p

module _ {body : Bytes} {i : ℕ} {p : Parameter} {n : ℕ} (s : Stands body i p n) where
  pub stands_within : i ≤ length body → i + n ≤ length body
  stands_within h = omega (arith, s.leads.within, s.wide, length-drop i body)

  module _ (name : Bytes) (args : List Bytes) (m : MarkTexts) where
    -- what comes out from i on
    stands_is : substituted name args m (drop i body) ≡ parameter_text name args m p ++ substituted name args m (drop (i + n) body)
    stands_is =
        s.leads.is name args m
        ∙ ap (λ (z : Bytes). parameter_text name args m p ++ substituted name args m z) (drop-drop (parameter_width p) i body ∙ ap (λ (k : ℕ). drop (i + k) body) (sym s.wide))

    stands_long : length (substituted name args m (drop i body)) ≡ length (parameter_text name args m p) + length (substituted name args m (drop (i + n) body))
    stands_long = ap length stands_is ∙ length-append (parameter_text name args m p) (substituted name args m (drop (i + n) body))

pub measured_all : (name : Bytes) (args : List Bytes) (m : MarkTexts) (body : Bytes) (i : ℕ) {total whole : ℕ} → length body ≤ i → total + length (substituted name args m (drop i body)) ≡ whole
    → total ≡ whole
unfolding substituted
measured_all name args m body i h e = omega (arith, rw (drop_of_length-le body {i = i} h) at e)

-- ---- the same, written: the first `at` bytes of a buffer are what stands before the place i comes to

pub record Filling (name : Bytes) (args : List Bytes) (m : MarkTexts) (body : Bytes) (i : ℕ) (dst : Bytes) (at : ℕ) : Type 0 where
  pub in_buffer : at ≤ length dst
  pub long : length dst ≡ length (substituted name args m body)
  pub so_far : take at dst ++ substituted name args m (drop i body) ≡ substituted name args m body

module _ {name : Bytes} {args : List Bytes} {m : MarkTexts} {body : Bytes} {i : ℕ} {dst : Bytes} {at : ℕ} (f : Filling name args m body i dst at) where
  left : at + length (substituted name args m (drop i body)) ≡ length dst
  left =
      omega (
        arith,
        ap length f.so_far,
        length-append (take at dst) (substituted name args m (drop i body)),
        length-take-le at dst f.in_buffer,
        f.long,
      )

  pub filling_ends : length body ≤ i → dst ≡ substituted name args m body
  unfolding substituted
  filling_ends h =
      let e = drop_of_length-le body {i = i} h in
      let n : length dst ≤ at = omega (arith, rw e at left) in
      sym (take_all at dst n) ∙ sym (append-nil (take at dst)) ∙ (rw e at f.so_far)

  pub filling_room : {p : Parameter} → Leads (drop i body) p → at + length (parameter_text name args m p) ≤ length dst
  filling_room {p} l =
      let s : Stands body i p (parameter_width p) = record { leads = l; wide = refl } in
      omega (arith, left, stands_long s name args m)

  pub filling_on : {p : Parameter} {n : ℕ} → Stands body i p n → {dst' : Bytes} {end : ℕ} → Lays dst at (parameter_text name args m p) dst' end
      → Filling name args m body (i + n) dst' end
  filling_on {p} {n} s {dst'} {end} w =
      let more : Bytes = substituted name args m (drop (i + n) body) in
      record {
        in_buffer = omega (arith, w.behind, filling_room s.leads, filled_long w.filled);
        long = filled_long w.filled ∙ f.long;
        so_far =
            ap (λ (k : ℕ). take k dst' ++ more) w.behind
            ∙ ap (λ (z : Bytes). z ++ more) (filled_front w.filled)
            ∙ append_assoc (take at dst) (parameter_text name args m p) more
            ∙ ap (λ (z : Bytes). take at dst ++ z) (sym (stands_is s name args m))
            ∙ f.so_far;
      }

-- ---- a count in decimal

digits_few : (k radix v : ℕ) → length (digits_by k radix v) ≤ k
unfolding digits_by
digits_few zero radix v = omega arith
digits_few (suc k) radix v = go (ltb v radix) (digits_few k radix (v / radix))
  where
    go : (t : Bool) → length (digits_by k radix (v / radix)) ≤ k
        → length {A = ℕ} (elim t as (λ _. Bytes) [ true ↦ digit_byte v ∷ [] | false ↦ digits_by k radix (v / radix) ++ (digit_byte (v % radix) ∷ []) ]) ≤ suc k
    go true h = omega arith
    go false h = omega (arith, length-append (digits_by k radix (v / radix)) (digit_byte (v % radix) ∷ []))

pub decimal_few : (n : ℕ) → length (decimal (pos n)) ≤ n + 1
unfolding decimal written_in zero_filled digits_in
decimal_few n =
    let ds : Bytes = digits_by (suc n) 10 n in
    let none : 0 - length ds ≡ 0 = omega arith in
    let e : length (decimal (pos n)) ≡ length ds = ap (λ (k : ℕ). length (replicate k 48 ++ ds)) none in
    omega (arith, e, digits_few (suc n) 10 n)

-- a count as the code casts it
pub counted_plain : (n : ℕ) → n ≤ largest → to_z w32 n ≡ pos n
counted_plain n h = to_z_pos w32 n (omega arith)

-- ---- how long the text of a parameter is

pub same_long : (name : Bytes) (args : List Bytes) (m : MarkTexts) {p q : Parameter} {n : ℕ} → p ≡ q → n ≡ length (parameter_text name args m q) → n ≡ length (parameter_text name args m p)
same_long name args m e f = f ∙ ap (λ (z : Parameter). length (parameter_text name args m z)) (sym e)

-- ---- a parameter that is known, and its text as it is written

pub same_lays : (name : Bytes) (args : List Bytes) (m : MarkTexts) {p q : Parameter} → p ≡ q → {before : Bytes} {at : ℕ} {after : Bytes} {end : ℕ}
    → Lays before at (parameter_text name args m q) after end → Lays before at (parameter_text name args m p) after end
same_lays name args m e {before} {at} {after} {end} h = subst (λ (z : Parameter). Lays before at (parameter_text name args m z) after end) (sym e) h

pub lays_as : {before : Bytes} {at : ℕ} {w v after : Bytes} {end : ℕ} → w ≡ v → Lays before at w after end → Lays before at v after end
lays_as {before} {at} {w} {v} {after} {end} e h = subst (λ (z : Bytes). Lays before at z after end) e h

pub byte_lays : (d : Bytes) (at b : ℕ) → at + 1 ≤ length d → Lays d at (b ∷ []) (set d at b) (at + 1)
byte_lays d at b h = record { filled = byte_fills d at b h; behind = refl }

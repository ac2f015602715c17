-- Laws of the result of defn, argument by argument. Assumes nothing.
use Rattle.rules.proofs.Base.{◌≤◌, ◌+◌, ℕ, ◌<◌, ◌*◌, ◌^◌, ◌∙◌, refl, sym, ap, ◌≡◌, subst, Some, None, Option, List, [], ◌++◌, ◌∷◌, append_assoc, append-nil, add-one, arith, length, drop, take, get_or, length-append, drop_of_length-le, length-take-le, drop-cons, take_all}
use Rattle.std.specs.Prelude.{Result, Ok, Err}
use Rattle.rules.specs.Bytes.{Bytes}
use Rattle.rules.specs.declared.Answer.{Answer}
use Rattle.rules.specs.Answers.{Fault, fault_answer, no_text}
use Rattle.rules.specs.Marks.{MarkTexts, quoted}
use Rattle.rules.specs.Table.{Meaning, text, predefined, Table, meaning_of}
use Rattle.rules.specs.Arguments.{arg}
use Rattle.rules.specs.Results.{Result as Given, yields, fails, in_front, defn_result}
use Rattle.expander.specs.Limits.{macro_count}
use Rattle.expander.specs.Substitution.{Lays}
use Rattle.expander.specs.Table.{rows, meaning_for, ValidDefinitions, TableIn, Finds}
use Rattle.expander.specs.Defn.{measured_as, named_result, followed_by, longer}
use Rattle.expander.specs.declared.packed.Packed.{Packed}
use Rattle.expander.specs.declared.table.Meaning.{Meaning as Looked}
use Rattle.expander.specs.declared.table.Meaning.TheVariants as looked
use Rattle.expander.proofs.ArgumentLaws.{arg_next}
use Rattle.expander.proofs.FilledLaws.{filled_front, filled_nothing}
use Rattle.expander.proofs.Rows.{finds_within}

-- ---- results one behind the other

front_nothing : (r : Given) → in_front [] r ≡ r
unfolding in_front
front_nothing (yields w) = refl
front_nothing (fails f) = refl

front_twice : (v w : Bytes) (r : Given) → in_front v (in_front w r) ≡ in_front (v ++ w) r
unfolding in_front
front_twice v w (yields x) = ap yields (sym (append_assoc v w x))
front_twice v w (fails f) = refl

measured_front : (w : Bytes) (r : Given) → measured_as (in_front w r) ≡ longer (length w) (measured_as r)
unfolding in_front measured_as longer
measured_front w (yields x) = ap Ok (length-append w x)
measured_front w (fails f) = refl

longer_twice : (a b : ℕ) (l : Result ℕ Answer) → longer a (longer b l) ≡ longer (a + b) l
unfolding longer
longer_twice a b (Ok k) = ap Ok (omega arith)
longer_twice a b (Err x) = refl

longer_zero : (l : Result ℕ Answer) → longer 0 l ≡ l
unfolding longer
longer_zero (Ok k) = ap Ok (omega arith)
longer_zero (Err x) = refl

longer_least : (n : ℕ) (l : Result ℕ Answer) {k : ℕ} → longer n l ≡ Ok k → n ≤ k
unfolding longer
longer_least n (Ok j) {k} e = let h : n + j ≡ k = cc in omega arith
longer_least n (Err x) e = cc

followed_long : (q r : Given) {n : ℕ} → measured_as q ≡ Ok n → measured_as (followed_by q r) ≡ longer n (measured_as r)
unfolding followed_by measured_as
followed_long (yields w) r e = measured_front w r ∙ ap (λ (k : ℕ). longer k (measured_as r)) cc
followed_long (fails f) r e = cc

followed_none : (q r : Given) {x : Answer} → measured_as q ≡ Err x → measured_as (followed_by q r) ≡ Err x
unfolding followed_by measured_as
followed_none (yields w) r e = cc
followed_none (fails f) r e = e

-- a result that is measured by an answer is refused with it
pub record RefusedBy (r : Given) (x : Answer) : Type 0 where
  pub fault : Fault
  pub is : r ≡ fails fault
  pub answer_is : x ≡ fault_answer fault

pub measured_refused : (r : Given) {x : Answer} → measured_as r ≡ Err x → RefusedBy r x
unfolding measured_as
measured_refused (yields w) e = cc
measured_refused (fails f) e = record { fault = f; is = refl; answer_is = cc }

-- the first argument's part
module _ (m : MarkTexts) (t : Table) where
  defn_cons : (w : Bytes) (ws : List Bytes) → defn_result m t (w ∷ ws) ≡ followed_by (named_result m t w) (defn_result m t ws)
  unfolding defn_result named_result followed_by
  defn_cons w ws = go (meaning_of w t)
    where
      go : (o : Option Meaning)
          → ◌≡◌ {A = Given} (elim o [ None ↦ defn_result m t ws | Some (text x) ↦ in_front (quoted m x) (defn_result m t ws) | Some (predefined k) ↦ fails no_text ])
          (followed_by (elim o [ None ↦ yields [] | Some (text x) ↦ yields (quoted m x) | Some (predefined k) ↦ fails no_text ]) (defn_result m t ws))
      go None = sym (front_nothing (defn_result m t ws))
      go (Some (text x)) = refl
      go (Some (predefined k)) = refl

  -- the arguments from k on
  module _ (args : List Bytes) (k : ℕ) where
    turn : {name : Bytes} → name ≡ arg (k + 1) args → k < length args → defn_result m t (drop k args) ≡ followed_by (named_result m t name) (defn_result m t (drop (k + 1) args))
    turn {name} e h =
        let n : name ≡ get_or args k [] = e ∙ arg_next k args in
        ap (defn_result m t) (drop-cons args k [] h ∙ ap (λ (j : ℕ). get_or args k [] ∷ drop j args) (sym (add-one k)))
        ∙ defn_cons (get_or args k []) (drop (k + 1) args)
        ∙ ap (λ (w : Bytes). followed_by (named_result m t w) (defn_result m t (drop (k + 1) args))) (sym n)

    past : length args ≤ k → defn_result m t (drop k args) ≡ yields []
    unfolding defn_result
    past h = ap (defn_result m t) (drop_of_length-le args {i = k} h)

-- ---- measured: the arguments before k have so many bytes

pub record Measured (m : MarkTexts) (t : Table) (args : List Bytes) (k total : ℕ) : Type 0 where
  pub so_far : measured_as (defn_result m t args) ≡ longer total (measured_as (defn_result m t (drop k args)))

pub measured_begins : (m : MarkTexts) (t : Table) (args : List Bytes) → Measured m t args 0 0
measured_begins m t args = record { so_far = sym (longer_zero (measured_as (defn_result m t args))) }

module _ {m : MarkTexts} {t : Table} {args : List Bytes} {k total : ℕ} (s : Measured m t args k total) where
  pub measured_ends : length args ≤ k → Ok total ≡ measured_as (defn_result m t args)
  unfolding measured_as longer
  measured_ends h = sym (s.so_far ∙ ap (λ (r : Given). longer total (measured_as r)) (past m t args k h) ∙ ap Ok (omega arith))

  module _ {name : Bytes} {r : Result ℕ Answer} (e : name ≡ arg (k + 1) args) (h : k < length args) (f : r ≡ measured_as (named_result m t name)) where
    measured_turn : measured_as (defn_result m t args) ≡ longer total (measured_as (followed_by (named_result m t name) (defn_result m t (drop (k + 1) args))))
    measured_turn = s.so_far ∙ ap (λ (q : Given). longer total (measured_as q)) (turn m t args k e h)

    pub measured_on : {n : ℕ} → r ≡ Ok n → Measured m t args (k + 1) (total + n)
    measured_on {n} g =
        record { so_far = measured_turn ∙ ap (longer total) (followed_long (named_result m t name) _ (sym f ∙ g)) ∙ longer_twice total n _ }

    pub measured_none : {x : Answer} → r ≡ Err x → Err x ≡ measured_as (defn_result m t args)
    unfolding longer
    measured_none g = sym (measured_turn ∙ ap (longer total) (followed_none (named_result m t name) _ (sym f ∙ g)))

-- ---- written: the first `at` bytes of a buffer are the texts of the arguments before k

pub record Joining (m : MarkTexts) (t : Table) (args : List Bytes) (k : ℕ) (dst : Bytes) (at : ℕ) : Type 0 where
  pub in_buffer : at ≤ length dst
  pub long : measured_as (defn_result m t args) ≡ Ok (length dst)
  pub so_far : defn_result m t args ≡ in_front (take at dst) (defn_result m t (drop k args))

pub joining_begins : {m : MarkTexts} {t : Table} {args : List Bytes} {dst : Bytes} → measured_as (defn_result m t args) ≡ Ok (length dst) → Joining m t args 0 dst 0
joining_begins {m} {t} {args} e = record { in_buffer = omega arith; long = e; so_far = sym (front_nothing (defn_result m t args)) }

module _ {m : MarkTexts} {t : Table} {args : List Bytes} {k : ℕ} {dst : Bytes} {at : ℕ} (s : Joining m t args k dst at) where
  pub joining_ends : length args ≤ k → defn_result m t args ≡ yields dst
  unfolding in_front measured_as
  joining_ends h =
      let e : defn_result m t args ≡ yields (take at dst) = s.so_far ∙ ap (in_front (take at dst)) (past m t args k h) ∙ ap yields (append-nil (take at dst)) in
      let m : ◌≡◌ {A = Result ℕ Answer} (Ok (length (take at dst))) (Ok (length dst)) = sym (ap measured_as e) ∙ s.long in
      let l : length (take at dst) ≡ length dst = cc in
      e ∙ ap yields (take_all at dst (omega (arith, l, length-take-le at dst s.in_buffer)))

  module _ {name : Bytes} (e : name ≡ arg (k + 1) args) (h : k < length args) where
    joining_turn : defn_result m t args ≡ in_front (take at dst) (followed_by (named_result m t name) (defn_result m t (drop (k + 1) args)))
    joining_turn = s.so_far ∙ ap (in_front (take at dst)) (turn m t args k e h)

    with_text : {w : Bytes} → named_result m t name ≡ yields w → defn_result m t args ≡ in_front (take at dst ++ w) (defn_result m t (drop (k + 1) args))
    unfolding followed_by
    with_text {w} g =
        joining_turn
        ∙ ap (λ (q : Given). in_front (take at dst) (followed_by q (defn_result m t (drop (k + 1) args)))) g
        ∙ front_twice (take at dst) w (defn_result m t (drop (k + 1) args))

    pub joining_room : {w : Bytes} → named_result m t name ≡ yields w → at + length w ≤ length dst
    joining_room {w} g =
        let l = longer_least (length (take at dst ++ w)) _ (sym (measured_front (take at dst ++ w) _) ∙ ap measured_as (sym (with_text g)) ∙ s.long) in
        omega (arith, l, length-append (take at dst) w, length-take-le at dst s.in_buffer)

    -- a name without a text would leave the whole without a length
    no_text_after : (f : Fault) → named_result m t name ≡ fails f → ⊥
    unfolding followed_by in_front measured_as
    no_text_after f g =
        let e : Ok (length dst) ≡ Err (fault_answer f) =
        sym s.long ∙ ap measured_as (joining_turn ∙ ap (λ (q : Given). in_front (take at dst) (followed_by q (defn_result m t (drop (k + 1) args)))) g) in
        cc

    pub joining_on : {dst' : Bytes} {end : ℕ} → ((w : Bytes) → named_result m t name ≡ yields w → Lays dst at w dst' end) → length dst' ≡ length dst
        → Joining m t args (k + 1) dst' end
    joining_on {dst'} {end} f d = go (named_result m t name) refl
      where
        go : (q : Given) → named_result m t name ≡ q → Joining m t args (k + 1) dst' end
        go (yields w) g =
            let l = f w g in
            record {
              in_buffer = omega (arith, l.behind, l.filled.fits, d);
              long = s.long ∙ ap Ok (sym d);
              so_far =
                  with_text g
                  ∙ ap (λ (v : Bytes). in_front v (defn_result m t (drop (k + 1) args))) (sym (ap (λ (j : ℕ). take j dst') l.behind ∙ filled_front l.filled));
            }
        go (fails g) p = absurd (no_text_after g p)

-- ---- what a name gives, from what looking it up answers

module _ (m : MarkTexts) (t : Table) (w : Bytes) {r : Looked} (f : Finds t.definitions (meaning_of w t) r) where
  pub named_text : {i : ℕ} {s : Bytes} → r ≡ looked.Text i → s ≡ get_or (rows t.definitions) (2 * i + 1) [] → named_result m t w ≡ yields (quoted m s)
  unfolding named_result meaning_for
  named_text e g = rw (f.is ∙ ap (meaning_for (rows t.definitions)) e, named_result) (ap (λ (v : Bytes). yields (quoted m v)) (sym g))

  pub named_predefined : {k : ℕ} → r ≡ looked.Predefined k → named_result m t w ≡ fails no_text
  unfolding named_result meaning_for
  named_predefined e = rw (f.is ∙ ap (meaning_for (rows t.definitions)) e, named_result)

  pub named-undefined : r ≡ looked.Undefined → named_result m t w ≡ yields []
  unfolding named_result meaning_for
  named-undefined e = rw (f.is ∙ ap (meaning_for (rows t.definitions)) e, named_result)

-- what looking a name up in valid definitions answers
module _ {bytes : Bytes} {ends : List ℕ} {p : Packed} {own : ℕ} (d : ValidDefinitions bytes ends p) (few : own < 2 ^ macro_count) where
  -- they are those of a table
  pub valid_table : TableIn bytes ends p own (record { definitions = d.definitions; own = own })
  valid_table = record { holds = d.holds; own_is = refl; own_few = few }

  -- a text that it answers has its place
  pub text_within : (w : Bytes) {r : Looked} {i : ℕ} → ((t : Table) → TableIn bytes ends p own t → Finds t.definitions (meaning_of w t) r) → r ≡ looked.Text i → 2 * i + 1 < p.count
  text_within w f e =
      let t : Table = record { definitions = d.definitions; own = own } in
      finds_within d.holds (subst (λ (r : Looked). Finds t.definitions (meaning_of w t) r) e (f t valid_table))

-- a text that a name gives
pub same_text : {r : Given} {v w : Bytes} → r ≡ yields v → r ≡ yields w → v ≡ w
same_text e f = cc

pub no_text_lem : {r : Given} {f : Fault} {w : Bytes} → r ≡ fails f → r ≡ yields w → ⊥
no_text_lem e g = cc

-- no text: the buffer is as it was
pub nothing_lays : (d : Bytes) (at : ℕ) → at ≤ length d → Lays d at [] d at
nothing_lays d at h = record { filled = filled_nothing d at h; behind = omega arith }

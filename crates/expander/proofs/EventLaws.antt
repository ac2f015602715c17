-- What the token ahead calls for, by what the code goes by: the role of a byte in a call, a name's meaning, the token. Assumes nothing.
use Rattle.rules.proofs.Base.{◌≤◌, ℕ, ◌-◌, ◌<◌, ◌∙◌, sym, ap, ◌≡◌, subst, true, Bool, false, Option, List, [], ◌∷◌, eqb, take, get_or}
use Rattle.rules.specs.declared.Token.{Token}
use Rattle.rules.specs.declared.Token.TheVariants as token
use Rattle.rules.specs.Bytes.{Bytes}
use Rattle.rules.specs.Macros.{called}
use Rattle.rules.specs.Run.{Setting}
use Rattle.rules.specs.Source.{ahead}
use Rattle.rules.specs.State.{Call, State, taking, with_source}
use Rattle.rules.specs.Step.{NameUse, name_use, named, act, step}
use Rattle.rules.specs.Step as rule
use Rattle.rules.specs.Table.{Meaning, meaning_of}
use Rattle.expander.specs.declared.events.Role.{Role}
use Rattle.expander.specs.declared.events.Role.TheVariants as role
use Rattle.expander.specs.declared.events.Event.{Event}
use Rattle.expander.specs.declared.events.Event.TheVariants as event
use Rattle.expander.specs.declared.events.Plain.TheVariants as plain
use Rattle.expander.specs.declared.events.Special.TheVariants as special
use Rattle.expander.specs.declared.machine.Machine.{Machine}
use Rattle.expander.specs.declared.source.Position.{Position}
use Rattle.expander.specs.declared.table.Meaning.{Meaning as Looked}
use Rattle.expander.specs.declared.table.Meaning.TheVariants as looked
use Rattle.expander.specs.Calls.{CallsIn}
use Rattle.expander.specs.Events.{PlainWithin, SpecialWithin, EventWithin, PlainIs, SpecialIs, EventIs, NameFound}
use Rattle.expander.specs.Machine.{Memory, Represents, ahead_of}
use Rattle.expander.specs.Step.{by_role, HasRole, TokenWithin}
use Rattle.expander.specs.Table.{Finds, plain_unopened}
use Rattle.expander.proofs.CallsLaws.{depth_in}
use Rattle.expander.proofs.StepLaws.{no_calls, some_calls, calls_top, role_is, role_deep, byte_none, byte_some, known, used_undefined, used_opening, used_plain, used_bare, acts}

-- ---- an event that a function gave

module _ {e w : Event} (q : e ≡ w) where
  pub within_as : (text pending : Bytes) (m : Machine) → EventWithin text pending m w → EventWithin text pending m e
  within_as text pending m h = subst (EventWithin text pending m) (sym q) h

  pub is_as : (s : State) → EventIs s w → EventIs s e
  is_as s h = subst (EventIs s) (sym q) h

-- ---- a byte

-- what a byte in a call calls for, by its role
unfoldable pub role_event : ℕ → Role → Event
role_event x role.Dropped = event.Plain plain.Skip
role_event x (role.Collected depth) = event.Plain (plain.Collect x depth)
role_event x role.Closes = event.Special special.Close
role_event x role.Separates = event.Plain plain.Separate

pub role_within :
    (text pending : Bytes) (m : Machine) (x : ℕ) (w : Role) → 0 < m.calls.opens → 1 ≤ ahead_of text pending m.source
    → EventWithin text pending m (role_event x w)
unfolding role_event EventWithin PlainWithin SpecialWithin
role_within text pending m x role.Dropped o h = h
role_within text pending m x (role.Collected depth) o h = (h, o)
role_within text pending m x role.Closes o h = (h, o)
role_within text pending m x role.Separates o h = (h, o)

module _ {a : Setting} {b : Memory} {m : Machine} {s : State} (r : Represents a b m s) (x : ℕ) (e : step s ≡ act (token.Byte x) s) where
  -- no call is open
  pub emit_is : m.calls.opens ≡ 0 → EventIs s (event.Plain (plain.Emit x))
  unfolding EventIs PlainIs act taking with_source
  emit_is z = e ∙ byte_none x (taking 1 s) (no_calls r z)

  -- the innermost call's depth of parentheses, whether it collected a token, and the byte's role by these
  module _ {depth : ℕ} {collected : Bool} {g : Role}
      (at : (bytes : Bytes) (ends : List ℕ) (c : Call) (cs : List Call) → CallsIn bytes ends b.stack m.calls (c ∷ cs) → depth ≡ c.depth)
      (has : (bytes : Bytes) (ends : List ℕ) (c : Call) (cs : List Call) → CallsIn bytes ends b.stack m.calls (c ∷ cs) → collected ≡ c.collected)
      (h : HasRole x depth collected g) where
    call_step : {w : Role} → g ≡ w → (c : Call) (cs : List Call) → s.calls ≡ c ∷ cs → step s ≡ by_role w x c cs (taking 1 s)
    unfolding act taking with_source
    call_step q c cs p =
        let k = calls_top r p in
        e ∙ byte_some x (taking 1 s) c cs p ∙ role_is h q c cs (taking 1 s) (at _ _ c cs k) (has _ _ c cs k)

    pub role_event_lem : (w : Role) → g ≡ w → 0 < m.calls.opens → EventIs s (role_event x w)
    unfolding role_event EventIs PlainIs SpecialIs by_role
    role_event_lem role.Dropped q o = let i = some_calls r o in call_step q i.top i.rest i.is
    role_event_lem (role.Collected depth) q o =
        λ c cs p. let k = calls_top r p in (role_deep c h q (at _ _ c cs k) (depth_in k), call_step q c cs p)
    role_event_lem role.Closes q o = call_step q
    role_event_lem role.Separates q o = call_step q

-- ---- a name

module _ (s : State) (n : ℕ) (e : step s ≡ act (token.Name n) s) {g : Looked} (f : Finds s.table.definitions (meaning_of (take n (ahead s.source)) s.table) g) where
  -- the step by what the name does where it is read
  used : {u : NameUse} → name_use (take n (ahead s.source)) n s ≡ u → step s ≡ named u (take n (ahead s.source)) n s
  unfolding act
  used q = e ∙ ap (λ (u : NameUse). named u (take n (ahead s.source)) n s) q

  plain_is : name_use (take n (ahead s.source)) n s ≡ rule.plain → EventIs s (event.Plain (plain.Deliver 0 n n))
  unfolding EventIs PlainIs named
  plain_is q = used q

  pub undefined_is : g ≡ looked.Undefined → EventIs s (event.Plain (plain.Deliver 0 n n))
  unfolding name_use
  undefined_is q = plain_is (used_undefined f _ q)

  module _ (d : g ≡ looked.Undefined → ⊥) {t : Bool} (p : t ≡ eqb (get_or (ahead s.source) n 0) 40) where
    pub open_is : (bucket : ℕ) → t ≡ true → EventIs s (event.Plain (plain.Open n bucket))
    unfolding EventIs PlainIs name_use named
    open_is bucket q = used (used_opening f _ (known f d) (sym p ∙ q))

    pub unopened_is : t ≡ false → plain_unopened g ≡ true → EventIs s (event.Plain (plain.Deliver 0 n n))
    unfolding name_use
    unopened_is q h = plain_is (used_plain f _ (known f d) (sym p ∙ q) h)

    pub bare_is : t ≡ false → plain_unopened g ≡ false → EventIs s (event.Special (special.Bare n g))
    unfolding EventIs SpecialIs NameFound name_use named
    bare_is q h =
        let k = known f d in
        let name = take n (ahead s.source) in
        (f, used (used_bare f _ k (sym p ∙ q) h) ∙ ap (λ (o : Option Meaning). called o name [] (taking n s)) (sym k.is))

-- ---- a token

module _ (s : State) {t : Token} (e : step s ≡ act t s) where
  pub end_is : t ≡ token.End → EventIs s (event.Special special.End)
  unfolding EventIs SpecialIs act
  end_is q = e ∙ acts q s

  pub comment_is : {n : ℕ} → t ≡ token.Comment n → EventIs s (event.Plain (plain.Deliver 0 n n))
  unfolding EventIs PlainIs act
  comment_is q = e ∙ acts q s

  pub quoted_is : {i j n : ℕ} → t ≡ token.Quoted i j n → EventIs s (event.Plain (plain.Deliver i (j - i) n))
  unfolding EventIs PlainIs act
  quoted_is q = e ∙ acts q s

pub byte_ahead : (text pending : Bytes) (p : Position) {t : Token} {x : ℕ} → t ≡ token.Byte x → TokenWithin text pending p t → 1 ≤ ahead_of text pending p
unfolding TokenWithin
byte_ahead text pending p e w = subst (TokenWithin text pending p) e w

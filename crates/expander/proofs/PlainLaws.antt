-- Plain steps: what an event says by its variant, a byte that was taken, and that no plain step ends a run.
use Rattle.rules.proofs.Base.{◌≤◌, ℕ, ◌<◌, ◌∙◌, refl, sym, ap, ◌≡◌, subst, true, Bool, false, ◌||◌, Some, None, Option, List, ◌∷◌, arith, leb, length}
use Rattle.rules.specs.declared.Answer.{Answer}
use Rattle.rules.specs.Answers.{deep}
use Rattle.rules.specs.Bytes.{Bytes}
use Rattle.rules.specs.Run.{Setting, lengths, held, overfull}
use Rattle.rules.specs.Source.{Source, ahead, advance}
use Rattle.rules.specs.State.{State, Outcome, next, stop, refused, taking}
use Rattle.rules.specs.Step.{step, opened, comma_met, argument_count}
use Rattle.expander.specs.declared.events.Event.{Event}
use Rattle.expander.specs.declared.events.Plain.{Plain}
use Rattle.expander.specs.declared.events.Plain.TheVariants as plain
use Rattle.expander.specs.declared.events.Special.{Special}
use Rattle.expander.specs.declared.machine.Machine.{Machine}
use Rattle.expander.specs.declared.machine.Stepped.{Stepped}
use Rattle.expander.specs.declared.machine.Progress.TheVariants as progress
use Rattle.expander.specs.declared.source.Position.{Position}
use Rattle.expander.specs.Events.{PlainWithin, PlainIs, SpecialWithin, SpecialIs, EventWithin, EventIs}
use Rattle.expander.specs.Machine.{Memory, Represents, Valid, Follows, Refines, ahead_of, source_set}
use Rattle.expander.specs.Source.{SourceIn}
use Rattle.expander.specs.Verdict.{Verdict, going, over, denied, roomed, verdict}
use Rattle.expander.proofs.Parted.{with_source_lem}
use Rattle.expander.proofs.RunLaws.{progress_kind}
use Rattle.expander.proofs.SourceLaws.{ahead_long}
use Rattle.expander.proofs.StepLaws.{some_calls}

-- by the variant
pub plain_is : (s : State) {p q : Plain} → p ≡ q → PlainIs s p → PlainIs s q
plain_is s e h = subst (PlainIs s) e h

pub plain_within : (text pending : Bytes) (m : Machine) {p q : Plain} → p ≡ q → PlainWithin text pending m p → PlainWithin text pending m q
plain_within text pending m e h = subst (PlainWithin text pending m) e h

pub event_is : (s : State) {e f : Event} → e ≡ f → EventIs s e → EventIs s f
event_is s e h = subst (EventIs s) e h

pub event_within : (text pending : Bytes) (m : Machine) {e f : Event} → e ≡ f → EventWithin text pending m e → EventWithin text pending m f
event_within text pending m e h = subst (EventWithin text pending m) e h

pub special_is : (s : State) {e f : Special} → e ≡ f → SpecialIs s e → SpecialIs s f
special_is s e h = subst (SpecialIs s) e h

pub special_within : (text pending : Bytes) (m : Machine) {e f : Special} → e ≡ f → SpecialWithin text pending m e → SpecialWithin text pending m f
special_within text pending m e h = subst (SpecialWithin text pending m) e h

-- a byte was taken
pub one_taken :
    {a : Setting} {b : Memory} {m m' : Machine} {s : State} {to : Position} → Represents a b m s → 1 ≤ ahead_of b.text b.pending m.source
    → ((text : Bytes) (y : Source) → SourceIn text b.pending m.source y → 1 ≤ length (ahead y) → SourceIn text b.pending to (advance 1 y))
    → m' ≡ source_set to m → Represents a b m' (taking 1 s)
unfolding taking
one_taken {a} {b} {m} {s} r w f g =
    let l : 1 ≤ length (ahead s.source) = omega (arith, w, ahead_long r.source) in
    subst (λ (k : Machine). Represents a b k (taking 1 s)) (sym g) (with_source_lem r (f b.text s.source r.source l) refl)

-- and what a function asks holds behind it
pub taken_valid :
    {lent : Memory → Memory} {m m' : Machine} {to : Position} (p : Valid lent m) → 1 ≤ ahead_of (lent p.others).text (lent p.others).pending m.source
    → ((text : Bytes) (y : Source) → SourceIn text (lent p.others).pending m.source y → 1 ≤ length (ahead y) → SourceIn text (lent p.others).pending to (advance 1 y))
    → m' ≡ source_set to m → Valid lent m'
taken_valid p w f g = record { others = p.others; setting = p.setting; state = taking 1 p.state; represents = one_taken p.represents w f g }

pub taken_open : (m : Machine) {m' : Machine} {to : Position} → m' ≡ source_set to m → 0 < m.calls.opens → 0 < m'.calls.opens
taken_open m g h = subst (λ (k : Machine). 0 < k.calls.opens) (sym g) h

-- ---- no plain step ends a run

unfoldable pub Goes_on : Outcome → Type 0
Goes_on (next s) = Unit {0}
Goes_on (refused f) = Unit {0}
Goes_on (stop e s) = ⊥

chosen_goes : (t : Bool) (u : State) → Goes_on (elim t [ true ↦ refused deep | false ↦ next u ])
unfolding Goes_on
chosen_goes true u = tt
chosen_goes false u = tt

goes_as : {o p : Outcome} → o ≡ p → Goes_on p → Goes_on o
goes_as e h = subst Goes_on (sym e) h

module _ {a : Setting} {b : Memory} {m : Machine} {s : State} (r : Represents a b m s) where
  pub plain_goes : (p : Plain) → PlainWithin b.text b.pending m p → PlainIs s p → Goes_on (step s)
  unfolding PlainWithin PlainIs Goes_on opened comma_met
  plain_goes (plain.Deliver start n width) w h = goes_as h tt
  plain_goes (plain.Emit x) w h = goes_as h tt
  plain_goes (plain.Collect x depth) w h =
      let i = some_calls r w.1 in
      goes_as (h i.top i.rest i.is).1 tt
  plain_goes plain.Skip w h = goes_as h tt
  plain_goes plain.Separate w h =
      let i = some_calls r w.1 in
      goes_as (h i.top i.rest i.is) (chosen_goes (leb 256 (argument_count (i.top ∷ i.rest))) _)
  plain_goes (plain.Open n bucket) w h = goes_as h (chosen_goes (leb 64 (length (taking _ s).calls) || leb 256 (argument_count (taking _ s).calls)) _)

unfoldable Not-over : Verdict → Type 0
Not-over (going s) = Unit {0}
Not-over (over x s) = ⊥
Not-over (denied x) = Unit {0}

room_not_over : (o : Option ℕ) (u : State) → Not-over (roomed o (going u))
unfolding Not-over roomed
room_not_over None u = tt
room_not_over (Some k) u = tt

not_over : (ls : List ℕ) (o : Outcome) → Goes_on o → Not-over (verdict ls o)
unfolding Not-over Goes_on verdict
not_over ls (next t) h = room_not_over (overfull (held t) ls) t
not_over ls (stop e t) h = absurd h
not_over ls (refused f) h = tt

follows_not_ended : (a : Setting) (before b : Memory) (t : Stepped) (x : Answer) (v : Verdict) → t.progress ≡ progress.Ended x → Not-over v → Follows a before b t v → ⊥
unfolding Not-over Follows progress_kind
follows_not_ended a before b t x (going u) e n c = let k : ◌≡◌ {A = ℕ} 1 0 = ap progress_kind (sym e ∙ c.0) in omega arith
follows_not_ended a before b t x (over y u) e n c = n
follows_not_ended a before b t x (denied y) e n c = let k : ◌≡◌ {A = ℕ} 1 2 = ap progress_kind (sym e ∙ c.0) in omega arith

pub not_ended : {a : Setting} {o : Outcome} {before b : Memory} {t : Stepped} → Goes_on o → Refines a before o b t → (x : Answer) → t.progress ≡ progress.Ended x → ⊥
not_ended {a} {o} {before} {b} {t} h g x e = follows_not_ended a before b t x (verdict (lengths a) o) e (not_over (lengths a) o h) g.follows

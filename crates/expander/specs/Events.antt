-- What the token ahead calls for: where it lies, and what the step comes to.
use Rattle.std.specs.Prelude.{◌≡◌, ℕ, suc, ◌+◌, ◌<◌, ◌≤◌, List, [], ◌∷◌, length, take, drop}
use Rattle.rules.specs.Answers.{unclosed_quote, unclosed_comment}
use Rattle.rules.specs.Bytes.{Bytes}
use Rattle.rules.specs.Macros.{called}
use Rattle.rules.specs.Source.{ahead}
use Rattle.rules.specs.State.{Call, State, next, refused, with_calls, taking, emitting}
use Rattle.rules.specs.Step.{step, at_end, collecting, delivered, opened, closed, comma_met}
use Rattle.rules.specs.Table.{meaning_of}
use Rattle.hashing.specs.Hashing.{bucket_of}
use Rattle.expander.specs.declared.events.Event.{Event}
use Rattle.expander.specs.declared.events.Event.TheVariants as event
use Rattle.expander.specs.declared.events.Plain.{Plain}
use Rattle.expander.specs.declared.events.Plain.TheVariants as plain
use Rattle.expander.specs.declared.events.Special.{Special}
use Rattle.expander.specs.declared.events.Special.TheVariants as special
use Rattle.expander.specs.declared.machine.Machine.{Machine}
use Rattle.expander.specs.Machine.{Memory, Valid, Reach, ahead_of, bytes_ahead}
use Rattle.expander.specs.declared.table.Meaning.{Meaning}
use Rattle.expander.specs.Table.{Finds}

-- ---- where the bytes of an event lie, that a call is open where it speaks of one, and which bucket a name has

unfoldable pub PlainWithin : Bytes → Bytes → Machine → Plain → Type 0
PlainWithin text pending m (plain.Deliver start n width) = Reach text pending m.source start n width
PlainWithin text pending m (plain.Emit x) = 1 ≤ ahead_of text pending m.source
PlainWithin text pending m (plain.Collect x depth) = (1 ≤ ahead_of text pending m.source) × (0 < m.calls.opens)
PlainWithin text pending m plain.Skip = 1 ≤ ahead_of text pending m.source
PlainWithin text pending m plain.Separate = (1 ≤ ahead_of text pending m.source) × (0 < m.calls.opens)
PlainWithin text pending m (plain.Open n bucket) =
    Reach text pending m.source 0 n (suc n) × (bucket ≡ bucket_of (take n (bytes_ahead text pending m.source)))

unfoldable pub SpecialWithin : Bytes → Bytes → Machine → Special → Type 0
SpecialWithin text pending m special.End = m.source.from ≡ length pending
SpecialWithin text pending m special.Close = (1 ≤ ahead_of text pending m.source) × (0 < m.calls.opens)
SpecialWithin text pending m (special.Bare n meaning) = Reach text pending m.source 0 n n
SpecialWithin text pending m special.OpenQuote = Unit {0}
SpecialWithin text pending m special.OpenComment = Unit {0}

unfoldable pub EventWithin : Bytes → Bytes → Machine → Event → Type 0
EventWithin text pending m (event.Plain p) = PlainWithin text pending m p
EventWithin text pending m (event.Special e) = SpecialWithin text pending m e

-- ---- what the step of a state comes to

unfoldable pub PlainIs : State → Plain → Type 0
PlainIs s (plain.Deliver start n width) = step s ≡ next (delivered (take n (drop start (ahead s.source))) s.calls (taking width s))
PlainIs s (plain.Emit x) = step s ≡ next (emitting (x ∷ []) (taking 1 s))
PlainIs s (plain.Collect x depth) =
    (c : Call) (cs : List Call) → s.calls ≡ c ∷ cs
    → (depth ≤ length c.current + 1) × (step s ≡ next (with_calls (collecting (x ∷ []) depth c ∷ cs) (taking 1 s)))
PlainIs s plain.Skip = step s ≡ next (taking 1 s)
PlainIs s plain.Separate = (c : Call) (cs : List Call) → s.calls ≡ c ∷ cs → step s ≡ comma_met c cs (taking 1 s)
PlainIs s (plain.Open n bucket) = step s ≡ opened (take n (ahead s.source)) (taking (suc n) s)

-- the name of n bytes ahead was looked up
unfoldable pub NameFound : State → ℕ → Meaning → Type 0
NameFound s n meaning = Finds s.table.definitions (meaning_of (take n (ahead s.source)) s.table) meaning

unfoldable pub SpecialIs : State → Special → Type 0
SpecialIs s special.End = step s ≡ at_end s.calls s.wrap s
SpecialIs s special.Close = (c : Call) (cs : List Call) → s.calls ≡ c ∷ cs → step s ≡ closed c cs (taking 1 s)
SpecialIs s (special.Bare n meaning) =
    let name = take n (ahead s.source) in
    NameFound s n meaning × (step s ≡ called (meaning_of name s.table) name [] (taking n s))
SpecialIs s special.OpenQuote = step s ≡ refused unclosed_quote
SpecialIs s special.OpenComment = step s ≡ refused unclosed_comment

unfoldable pub EventIs : State → Event → Type 0
EventIs s (event.Plain p) = PlainIs s p
EventIs s (event.Special e) = SpecialIs s e

-- some state is represented, for some content of the parts of the memory that are not lent, and the name of n bytes ahead was looked up in it
pub record ValidName (lent : Memory → Memory) (m : Machine) (n : ℕ) (meaning : Meaning) : Type 0 where
  pub valid : Valid lent m
  pub found : NameFound valid.state n meaning

-- some state is represented, and its step comes to this
pub record ValidSpecial (lent : Memory → Memory) (m : Machine) (e : Special) : Type 0 where
  pub valid : Valid lent m
  pub is : SpecialIs valid.state e

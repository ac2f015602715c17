-- Laws of what undivert would add to the output, counted before anything is moved. Assumes nothing.
use Rattle.rules.proofs.Base.{◌≤◌, ◌+◌, ℕ, ◌-◌, ◌<◌, suc, zero, ◌∙◌, refl, sym, ap, ◌≡◌, true, Bool, false, List, [], ◌∷◌, ℕ_discrete, arith, leb, pos, length, drop, take, get_or, length-append, set, length-set, length-take-le, get_or-set_same, get_or-set_other, le-leb, leb-true, lt-leb, leb-false}
use Rattle.rules.specs.Bytes.{Bytes}
use Rattle.rules.specs.Streams.{Streams, moved, moved_in_turn}
use Rattle.rules.proofs.StreamLaws.{moved_current}
use Rattle.expander.specs.declared.sinks.Sinks.{Sinks}
use Rattle.expander.specs.Streams.{IsStream, owned_count, Ten}
use Rattle.expander.specs.Sinks.{SinksIn}
use Rattle.expander.specs.Diverting.{Leaving}
use Rattle.expander.proofs.OwnedBytes.{owned_within}
use Rattle.expander.proofs.Waiting.{length_of_lem}
use Rattle.expander.proofs.StreamMoves.{moved_out, turn_on, turns_end}
use Rattle.expander.proofs.Totals.{used_is}
use Rattle.expander.proofs.MachineLaws.{front_long}
use Rattle.expander.proofs.DivertingLaws.{moved_any, moved_nine, turns_sum}

-- ---- one stream

module _ {counts : List ℕ} {u : Streams} (l : Leaving counts u) (i : ℕ) (h : IsStream i) where
  pub counted : Leaving (set counts i 0) (moved i u) × (length (moved i u).output ≡ length u.output + get_or counts i 0)
  counted = (
    record {
      out = moved_current i u ∙ l.out;
      nine = moved_nine i h u l.nine;
      ten = length-set counts i 0 ∙ l.ten;
      long = λ k j. then_long k j (ℕ_discrete k i);
    },
    rw (moved_out i h u l.out) (omega (arith, length-append u.output (get_or u.waiting (i - 1) []), l.long i h)),
  )
    where
      gone : get_or (moved i u).waiting (i - 1) [] ≡ []
      gone = rw (moved_out i h u l.out) (get_or-set_same u.waiting (i - 1) [] [] (omega (arith, h.low, h.high, l.nine)))

      then_long : (k : ℕ) → IsStream k → Dec (k ≡ i) → length (get_or (moved i u).waiting (k - 1) []) ≡ get_or (set counts i 0) k 0
      then_long k j (yes q) = rw q (ap length gone ∙ sym (get_or-set_same counts i 0 0 (omega (arith, h.high, l.ten))))
      then_long k j (no q) =
          rw (moved_out i h u l.out)
          (ap length (get_or-set_other u.waiting (i - 1) (k - 1) [] [] (λ o. q (omega (arith, h.low, j.low)))) ∙ l.long k j ∙ sym (get_or-set_other counts i k 0 0 q))

-- no count grows
pub count_less : (counts : List ℕ) (i k : ℕ) → get_or (set counts i 0) k 0 ≤ get_or counts k 0
count_less [] i k = omega arith
count_less (n ∷ ns) zero zero = omega arith
count_less (n ∷ ns) zero (suc k) = omega arith
count_less (n ∷ ns) (suc i) zero = omega arith
count_less (n ∷ ns) (suc i) (suc k) = count_less ns i k

-- ---- streams in turn: those before j add `sum`

pub record Counting (counts ns : List ℕ) (j sum : ℕ) (u : Streams) : Type 0 where
  pub held : Streams
  pub leaving : Leaving counts held
  pub left : moved_in_turn (drop j ns) held ≡ moved_in_turn ns u
  pub long : length held.output ≡ length u.output + sum

pub counting_begins : {counts : List ℕ} {u : Streams} (ns : List ℕ) → Leaving counts u → Counting counts ns 0 0 u
counting_begins {u = u} ns l = record { held = u; leaving = l; left = refl; long = omega arith }

module _ {counts ns : List ℕ} {j sum : ℕ} {u : Streams} (t : Counting counts ns j sum u) where
  pub counting_on : j < length ns → (i : ℕ) → i ≡ get_or ns j 0 → IsStream i → Counting (set counts i 0) ns (j + 1) (sum + get_or counts i 0) u
  counting_on h i e k =
      let g = counted t.leaving i k in
      record {
        held = moved i t.held;
        leaving = g.0;
        left = turn_on ns j t.held (moved_in_turn ns u) t.left h i e;
        long = omega (arith, g.1, t.long);
      }

  pub counting_ends : length ns ≤ j → length (moved_in_turn ns u).output ≡ length u.output + sum
  counting_ends h = ap (λ (x : Streams). length x.output) (sym (turns_end ns j t.held (moved_in_turn ns u) t.left h)) ∙ t.long

-- ---- whether all fits

-- the output stays where it is not the current stream
turns_still : (ns : List ℕ) → ((k : ℕ) → k < length ns → IsStream (get_or ns k 0)) → (u : Streams) → (u.current ≡ pos 0 → ⊥) → (moved_in_turn ns u).output ≡ u.output
unfolding moved_in_turn
turns_still [] each u d = refl
turns_still (i ∷ ns) each u d =
    turns_still ns (λ k l. each (suc k) (omega arith)) (moved i u) (λ e. d (sym (moved_current i u) ∙ e))
    ∙ moved_any (λ (x : Streams). x.output ≡ u.output) i (each 0 (omega arith)) u (λ c. refl) (λ j c k q. refl) (λ c. absurd (d c)) refl

-- each stream has at most as many bytes as there are
pub counts_most : (owners : List ℕ) (used : ℕ) {counts : List ℕ} → used ≤ length owners → Ten (λ i. owned_count i (take used owners)) counts → (i : ℕ) → i < 10 → get_or counts i 0 ≤ used
counts_most owners used l t i h = omega (arith, t.each i h, owned_within i (take used owners), length-take-le used owners l)

module _ {streams : Bytes} {owners : List ℕ} {output : Bytes} {k : Sinks} {u : Streams} (m : SinksIn streams owners output k u) where
  pub leaving_all : k.current ≡ pos 0 → {counts : List ℕ} → Ten (λ i. owned_count i (take k.waiting owners)) counts → Leaving counts u
  leaving_all e t =
      record {
        out = m.current ∙ e;
        nine = m.waiting.nine;
        ten = t.ten;
        long = λ i h. length_of_lem m.waiting i h ∙ sym (t.each i (omega (arith, h.high)));
      }

  module _ (ns : List ℕ) where
    -- as was counted
    pub fits_counted : (n : ℕ) → length (moved_in_turn ns u).output ≡ length u.output + n → leb n (length output - k.output) ≡ leb (length (moved_in_turn ns u).output) (length output)
    fits_counted n e = go (leb n (length output - k.output)) refl
      where
        go : (t : Bool) → leb n (length output - k.output) ≡ t → t ≡ leb (length (moved_in_turn ns u).output) (length output)
        go true q = sym (le-leb (length (moved_in_turn ns u).output) (length output) (omega (arith, e, leb-true n (length output - k.output) q, front_long m.written, m.written.inside)))
        go false q = sym (lt-leb (length (moved_in_turn ns u).output) (length output) (omega (arith, e, leb-false n (length output - k.output) q, front_long m.written, m.written.inside)))

    module _ (each : (k : ℕ) → k < length ns → IsStream (get_or ns k 0)) where
      -- where all that waits does
      pub fits_all : k.waiting ≤ length output - k.output → true ≡ leb (length (moved_in_turn ns u).output) (length output)
      fits_all h =
          sym (le-leb (length (moved_in_turn ns u).output) (length output) (omega (arith, (turns_sum ns each u m.waiting.nine).1, used_is m.waiting, front_long m.written, m.written.inside)))

      -- where the output is not the current stream
      pub fits_elsewhere : (k.current ≡ pos 0 → ⊥) → true ≡ leb (length (moved_in_turn ns u).output) (length output)
      fits_elsewhere f =
          sym (le-leb (length (moved_in_turn ns u).output) (length output) (omega (arith, ap length (turns_still ns each u (λ e. f (sym m.current ∙ e))), front_long m.written, m.written.inside)))

-- Laws of arguments joined by a byte, each between quote marks: how long they are, and how they are written one behind the other. Assumes nothing.
use Rattle.rules.proofs.Base.{◌≤◌, ◌+◌, ℕ, ◌-◌, ◌<◌, suc, ◌*◌, ◌∙◌, refl, sym, ap, ◌≡◌, subst, List, [], ◌++◌, ◌∷◌, append_assoc, append-nil, add-mul, mul-le-mul, add-one, arith, length, drop, take, length-append, length-drop, drop_of_length-le, take-append-drop, drop-cons, drop-drop}
use Rattle.rules.specs.Bytes.{Bytes}
use Rattle.rules.specs.declared.Marks.{Marks}
use Rattle.rules.specs.Marks.{MarkTexts, mark_text, mark_texts, quoted}
use Rattle.rules.specs.Streams.{joined}
use Rattle.rules.specs.Arguments.{arg, separated, quoted_each}
use Rattle.expander.specs.declared.argument_strings.Arguments.{Arguments}
use Rattle.expander.specs.Limits.{most_lent, call_ends_length}
use Rattle.expander.specs.Filled.{Filled}
use Rattle.expander.specs.Packed.{start_of}
use Rattle.expander.specs.Arguments.{ShortQuotes}
use Rattle.expander.proofs.ArgumentLaws.{ArgumentsIn, arg_next, arguments_counted}
use Rattle.expander.proofs.FilledLaws.{filled_long, filled_nothing, filled_then, filled_next}
use Rattle.expander.proofs.MarkPlaces.{mark_length}
use Rattle.expander.proofs.Packing.{joined-append, used_is, start_is, start_in_lem}

-- marks of no bytes
pub bare_each : (m : Marks) → m.begin_quote.len ≡ 0 → m.end_quote.len ≡ 0 → (ws : List Bytes) → quoted_each (mark_texts m) ws ≡ ws
unfolding quoted_each quoted mark_texts mark_text
bare_each m b e [] = refl
bare_each m b e (w ∷ ws) = rw (bare_each m b e ws, b, e, append-nil)

quoted_long : (m : MarkTexts) (w : Bytes) → length (quoted m w) ≡ length m.begin_quote + length w + length m.end_quote
unfolding quoted
quoted_long m w = omega (arith, length-append m.begin_quote (w ++ m.end_quote), length-append w m.end_quote)

-- the quote marks as the code counts them
pub record QuotesAre (m : Marks) : Type 0 where
  pub begin_is : m.begin_quote.len ≡ length (mark_texts m).begin_quote
  pub end_is : m.end_quote.len ≡ length (mark_texts m).end_quote

pub quotes_are : (m : Marks) → length m.begin_quote.bytes ≡ 5 → length m.end_quote.bytes ≡ 5 → ShortQuotes m → QuotesAre m
unfolding mark_texts
quotes_are m b e h = record {
  begin_is = (mark_length m.begin_quote b h.begin_most).whole;
  end_is = (mark_length m.end_quote e h.end_most).whole;
}

module _ {m : Marks} (q : QuotesAre m) (w : Bytes) where
  pub quoted_size : length (quoted (mark_texts m) w) ≡ m.begin_quote.len + length w + m.end_quote.len
  quoted_size = omega (arith, quoted_long (mark_texts m) w, q.begin_is, q.end_is)

  -- the begin mark, the text and the end mark, written one behind the other
  pub quoted_fills : {d₀ d₁ d₂ d₃ : Bytes} {at text : ℕ} → Filled d₀ at (mark_text m.begin_quote) d₁ → text ≡ at + m.begin_quote.len → Filled d₁ text w d₂
      → Filled d₂ (text + length w) (mark_text m.end_quote) d₃ → Filled d₀ at (quoted (mark_texts m) w) d₃
  unfolding quoted mark_texts
  quoted_fills f e g k = filled_next f (omega (arith, q.begin_is)) (filled_then g k)

-- how long texts are, joined
separated_long : (gap : ℕ) (ws : List Bytes) → length (separated gap ws) ≡ length (joined ws) + (length ws - 1)
unfolding separated joined
separated_long gap [] = refl
separated_long gap (w ∷ []) = omega (arith, length-append w [])
separated_long gap (w ∷ v ∷ ws) =
    omega (arith, length-append w (gap ∷ separated gap (v ∷ ws)), length-append w (joined (v ∷ ws)), separated_long gap (v ∷ ws))

each_count : (m : MarkTexts) (ws : List Bytes) → length (quoted_each m ws) ≡ length ws
unfolding quoted_each
each_count m [] = refl
each_count m (w ∷ ws) = ap suc (each_count m ws)

each_long : (m : MarkTexts) (q : ℕ) → q ≡ length m.begin_quote + length m.end_quote → (ws : List Bytes)
    → length (joined (quoted_each m ws)) ≡ length (joined ws) + length ws * q
unfolding quoted_each joined
each_long m q e [] = omega arith
each_long m q e (w ∷ ws) =
    let k : suc (length ws) * q ≡ q + length ws * q = ap (λ (n : ℕ). n * q) (omega arith) ∙ add-mul 1 (length ws) q ∙ omega arith in
    omega (arith, length-append (quoted m w) (joined (quoted_each m ws)), quoted_long m w, length-append w (joined ws), each_long m q e ws)

-- what a list is measured by: n texts, from `start` on, with q bytes around each
pub record Measured (used start n q : ℕ) : Type 0 where
  pub started : start ≤ used
  pub few : n ≤ call_ends_length
  pub short : used ≤ most_lent
  pub marked : n * q ≤ 3200

module _ {x : Arguments} {args : List Bytes} (h : ArgumentsIn x args) (m : MarkTexts) (gap skip : ℕ) where
  -- no argument stands behind the first `skip`
  pub list_none : length args ≤ skip → separated gap (quoted_each m (drop skip args)) ≡ []
  unfolding separated quoted_each
  list_none le = rw (drop_of_length-le args le)

  -- how long those are that do: the strings from a place on have all bytes but those before it
  rest_long : x.base + skip ≤ x.strings.count → length (joined (drop skip args)) ≡ x.strings.used - start_of x.ends.now (x.base + skip)
  rest_long le =
      let s = h.strings in
      let k = x.base + skip in
      let e : drop skip args ≡ drop k s = ap (drop skip) h.are ∙ drop-drop skip x.base s in
      omega (
        arith,
        ap (λ (l : List Bytes). length (joined l)) e,
        ap (λ (l : List Bytes). length (joined l)) (take-append-drop k s),
        ap length (joined-append (take k s) (drop k s)),
        length-append (joined (take k s)) (joined (drop k s)),
        start_is h.packs k le,
        used_is h.packs,
      )

  -- the numbers that are added up are small
  pub list_measured :
      (n start q : ℕ) → n ≡ x.strings.count - x.base - skip → x.base + skip ≤ x.strings.count → start ≡ start_of x.ends.now (x.base + skip) → q ≤ 10
      → Measured x.strings.used start n q
  list_measured n start q en le es eq =
      let hn : n ≤ call_ends_length = omega (arith, h.few) in
      record {
        started = omega (arith, start_in_lem h.packs (x.base + skip) le);
        few = hn;
        short = omega (arith, h.packs.used_in, h.short);
        marked = mul-le-mul hn eq;
      }

  pub list_long :
      (n start q : ℕ) → n ≡ x.strings.count - x.base - skip → x.base + skip ≤ x.strings.count → start ≡ start_of x.ends.now (x.base + skip)
      → q ≡ length m.begin_quote + length m.end_quote → x.strings.used - start + (n - 1) + n * q ≡ length (separated gap (quoted_each m (drop skip args)))
  list_long n start q en le es eq =
      let c : n ≡ length (drop skip args) = omega (arith, length-drop skip args, arguments_counted h) in
      let k : n * q ≡ length (drop skip args) * q = ap (λ (i : ℕ). i * q) c in
      omega (
        arith,
        separated_long gap (quoted_each m (drop skip args)),
        each_count m (drop skip args),
        each_long m q eq (drop skip args),
        rest_long le,
      )

-- texts with a byte before each
unfoldable pub preceded : ℕ → List Bytes → Bytes
preceded gap [] = []
preceded gap (w ∷ ws) = gap ∷ (w ++ preceded gap ws)

first_then : (gap : ℕ) (w : Bytes) (ws : List Bytes) → separated gap (w ∷ ws) ≡ w ++ preceded gap ws
unfolding separated preceded
first_then gap w [] = sym (append-nil w)
first_then gap w (v ∷ ws) = ap (λ (l : Bytes). w ++ (gap ∷ l)) (first_then gap v ws)

-- what is left of a list behind the first k arguments
unfoldable pub left_from : MarkTexts → ℕ → ℕ → List Bytes → Bytes
left_from m gap k args = preceded gap (quoted_each m (drop k args))

module _ (m : MarkTexts) (gap : ℕ) (args : List Bytes) (k : ℕ) where
  part_result : k < length args → drop k args ≡ arg (k + 1) args ∷ drop (k + 1) args
  part_result lt = rw (arg_next k args, add-one k) (drop-cons args k [] lt)

  list_first : k < length args → separated gap (quoted_each m (drop k args)) ≡ quoted m (arg (k + 1) args) ++ left_from m gap (k + 1) args
  unfolding quoted_each left_from
  list_first lt = rw (part_result lt) (first_then gap (quoted m (arg (k + 1) args)) (quoted_each m (drop (k + 1) args)))

  left_next : k < length args → left_from m gap k args ≡ (gap ∷ quoted m (arg (k + 1) args)) ++ left_from m gap (k + 1) args
  unfolding quoted_each left_from preceded
  left_next lt = rw (part_result lt)

  pub left_none : length args ≤ k → left_from m gap k args ≡ []
  unfolding quoted_each left_from preceded
  left_none le = rw (drop_of_length-le args le)

-- a text is being written from `at` on: `to` is the place behind what is there, and `left` is to follow
pub record Writing (before : Bytes) (at : ℕ) (whole after : Bytes) (to : ℕ) (left : Bytes) : Type 0 where
  pub done : Bytes
  pub filled : Filled before at done after
  pub place : to ≡ at + length done
  pub is : whole ≡ done ++ left
  pub room : at + length whole ≤ length before

writing_first : (d : Bytes) (at : ℕ) (whole : Bytes) → at + length whole ≤ length d → Writing d at whole d at whole
writing_first d at whole h = record { done = []; filled = filled_nothing d at (omega arith); place = omega arith; is = refl; room = h }

module _ {before : Bytes} {at : ℕ} {whole after : Bytes} {to : ℕ} {left : Bytes} (w : Writing before at whole after to left) where
  writing_room : (v more : Bytes) → left ≡ v ++ more → to + length v ≤ length after
  writing_room v more e =
      omega (arith, w.room, w.place, filled_long w.filled, ap length w.is, length-append w.done left, ap length e, length-append v more)

  writing_on : (v more : Bytes) {later : Bytes} {next : ℕ} → left ≡ v ++ more → Filled after to v later → next ≡ to + length v → Writing before at whole later next more
  writing_on v more e f p = record {
    done = w.done ++ v;
    filled = filled_next w.filled w.place f;
    place = omega (arith, w.place, length-append w.done v);
    is = w.is ∙ rw e (sym (append_assoc w.done v more));
    room = w.room;
  }

  pub written_all : left ≡ [] → Filled before at whole after
  written_all e = rw (w.is, e, append-nil) w.filled

-- one more text of a list
module _ {before : Bytes} {at : ℕ} {whole after : Bytes} {to : ℕ} (m : MarkTexts) (gap : ℕ) (args : List Bytes) (k : ℕ)
    (w : Writing before at whole after to (left_from m gap k args)) (lt : k < length args) where
  pub next_room : to + length (gap ∷ quoted m (arg (k + 1) args)) ≤ length after
  next_room = writing_room w (gap ∷ quoted m (arg (k + 1) args)) (left_from m gap (k + 1) args) (left_next m gap args k lt)

  pub next_written : {later : Bytes} {next : ℕ} → Filled after to (gap ∷ quoted m (arg (k + 1) args)) later → next ≡ to + length (gap ∷ quoted m (arg (k + 1) args))
      → Writing before at whole later next (left_from m gap (k + 1) args)
  next_written = writing_on w (gap ∷ quoted m (arg (k + 1) args)) (left_from m gap (k + 1) args) (left_next m gap args k lt)

-- a list whose first text, v, is written
module _ {v : Bytes} (m : MarkTexts) (gap skip : ℕ) (args : List Bytes) (lt : skip < length args) (e : v ≡ arg (skip + 1) args) where
  parted : separated gap (quoted_each m (drop skip args)) ≡ quoted m v ++ left_from m gap (skip + 1) args
  parted = list_first m gap args skip lt ∙ ap (λ (w : Bytes). quoted m w ++ left_from m gap (skip + 1) args) (sym e)

  pub first_room : (at size : ℕ) → at + length (separated gap (quoted_each m (drop skip args))) ≤ size → at + length (quoted m v) ≤ size
  first_room at size h = omega (arith, ap length parted, length-append (quoted m v) (left_from m gap (skip + 1) args))

  module _ {d d₁ : Bytes} {at to : ℕ} (f : Filled d at (quoted m v) d₁) (p : to ≡ at + length (quoted m v)) where
    pub list_begun : at + length (separated gap (quoted_each m (drop skip args))) ≤ length d
        → Writing d₁ to (left_from m gap (skip + 1) args) d₁ to (left_from m gap (skip + 1) args)
    list_begun h =
        writing_first d₁ to (left_from m gap (skip + 1) args)
        (omega (arith, filled_long f, ap length parted, length-append (quoted m v) (left_from m gap (skip + 1) args)))

    pub list_written : {d₂ : Bytes} → Filled d₁ to (left_from m gap (skip + 1) args) d₂ → Filled d at (separated gap (quoted_each m (drop skip args))) d₂
    list_written {d₂} g = subst (λ (w : Bytes). Filled d at w d₂) (sym parted) (filled_next f p g)

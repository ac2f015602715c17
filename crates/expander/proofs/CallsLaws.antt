-- Laws of the open calls in buffer 2: what opening, collecting, separating and closing leave.
use Rattle.rules.proofs.Base.{add-zero, ◌≤◌, ◌+◌, ℕ, ◌-◌, ◌<◌, suc, ◌*◌, ◌∙◌, refl, sym, ap, ◌≡◌, subst, true, Bool, false, List, [], ◌++◌, ◌∷◌, append_assoc, append-nil, arith, length, drop, take, get_or, length-append, set, length-set, take-suc-set, get_or-set_same, get_or-set_other, take-append_seam, drop-append-add, get_or_at}
use Rattle.rules.specs.Bytes.{Bytes}
use Rattle.rules.specs.State.{Call}
use Rattle.rules.specs.Run.{calls_cost}
use Rattle.rules.specs.Step.{open_call, collecting, next_argument, argument_count}
use Rattle.expander.specs.declared.calls.Calls.{Calls}
use Rattle.rules.specs.Streams.{joined, total_length}
use Rattle.hashing.specs.Hashing.{bucket_of}
use Rattle.expander.specs.Limits.{most_calls, most_arguments, call_ends_length, stack_length}
use Rattle.expander.specs.Packed.{Packs, ends_from, last_more, start_of}
use Rattle.expander.specs.Calls.{call_strings, open_strings, bit, Stacked, CallsIn}
use Rattle.expander.specs.Filled.{Filled}
use Rattle.expander.proofs.FilledLaws.{filled_front, filled_long}
use Rattle.expander.proofs.Packing.{count_is, used_is, joined-append, ends_append, pushed_empty, grown, front}

-- ---- counting

pub arguments_counted : (cs : List Call) → argument_count cs + length cs ≡ length (open_strings cs)
unfolding argument_count open_strings call_strings
arguments_counted [] = refl
arguments_counted (c ∷ cs) =
    omega (arith, arguments_counted cs, length-append (open_strings cs) (call_strings c), length-append c.finished (c.current ∷ []))

pub joined_total : (ws : List Bytes) → length (joined ws) ≡ total_length ws
unfolding total_length joined
joined_total [] = refl
joined_total (w ∷ ws) = length-append w (joined ws) ∙ omega (arith, joined_total ws)

total_append : (vs ws : List Bytes) → total_length (vs ++ ws) ≡ total_length vs + total_length ws
unfolding total_length
total_append [] ws = omega arith
total_append (v ∷ vs) ws = omega (arith, total_append vs ws)

cost_total : (cs : List Call) → calls_cost cs ≡ total_length (open_strings cs)
unfolding calls_cost open_strings call_strings total_length
cost_total [] = refl
cost_total (c ∷ cs) =
    omega (arith, cost_total cs, total_append (open_strings cs) (call_strings c), total_append c.finished (c.current ∷ []))

-- what buffer 2 holds
pub calls_held : {bytes : Bytes} {ends stack : List ℕ} {x : Calls} {cs : List Call} → CallsIn bytes ends stack x cs → calls_cost cs ≡ x.strings.used
calls_held {cs} m = cost_total cs ∙ sym (joined_total (open_strings cs)) ∙ used_is m.strings

pub calls_counted : {bytes : Bytes} {ends stack : List ℕ} {x : Calls} {cs : List Call} → CallsIn bytes ends stack x cs → argument_count cs + x.opens ≡ x.strings.count
calls_counted {cs} m = omega (arith, arguments_counted cs, m.open_is, count_is m.strings)

-- an open call has a string and more
pub some_strings : {bytes : Bytes} {ends stack : List ℕ} {x : Calls} {cs : List Call} → CallsIn bytes ends stack x cs → x.opens ≤ x.strings.count
some_strings m = omega (arith, calls_counted m)

-- ---- the words of the stack

-- a store above the words of some calls
stacked_set : (st : List ℕ) (i v : ℕ) (cs : List Call) → 4 * length cs ≤ i → Stacked st cs → Stacked (set st i v) cs
unfolding Stacked
stacked_set st i v [] h k = tt
stacked_set st i v (c ∷ cs) h k = (
  get_or-set_other st i (4 * length cs) v 0 (λ e. omega arith) ∙ k.0,
  get_or-set_other st i (4 * length cs + 1) v 0 (λ e. omega arith) ∙ k.1,
  get_or-set_other st i (4 * length cs + 2) v 0 (λ e. omega arith) ∙ k.2,
  get_or-set_other st i (4 * length cs + 3) v 0 (λ e. omega arith) ∙ k.3,
  k.4,
  stacked_set st i v cs (omega arith) k.5,
)

-- depth and mark of the innermost call, stored anew
stacked_top :
    (st : List ℕ) (d : ℕ) (b : Bool) (c c' : Call) (cs : List Call) (n : ℕ) → length cs ≡ n → 4 * n + 2 < length st → c'.name ≡ c.name → c'.depth ≡ d
    → c'.collected ≡ b → d ≤ length c'.current → Stacked st (c ∷ cs) → Stacked (set (set st (4 * n + 1) d) (4 * n + 2) (bit b)) (c' ∷ cs)
unfolding Stacked
stacked_top st d b c c' cs n e l en ed eb h k =
    let s1 = set st (4 * n + 1) d in
    let ls = length-set st (4 * n + 1) d in
    let f0 : get_or (set s1 (4 * n + 2) (bit b)) (4 * n) 0 ≡ length (open_strings cs) =
    get_or-set_other s1 (4 * n + 2) (4 * n) (bit b) 0 (λ q. omega arith) ∙ get_or-set_other st (4 * n + 1) (4 * n) d 0 (λ q. omega arith) ∙ (rw e at k.0) in
    let f1 : get_or (set s1 (4 * n + 2) (bit b)) (4 * n + 1) 0 ≡ c'.depth =
    get_or-set_other s1 (4 * n + 2) (4 * n + 1) (bit b) 0 (λ q. omega arith) ∙ get_or-set_same st (4 * n + 1) d 0 (omega arith) ∙ sym ed in
    let f2 : get_or (set s1 (4 * n + 2) (bit b)) (4 * n + 2) 0 ≡ bit c'.collected = get_or-set_same s1 (4 * n + 2) (bit b) 0 (omega (arith, ls)) ∙ ap bit (sym eb) in
    let f3 : get_or (set s1 (4 * n + 2) (bit b)) (4 * n + 3) 0 ≡ bucket_of c'.name =
    get_or-set_other s1 (4 * n + 2) (4 * n + 3) (bit b) 0 (λ q. omega arith) ∙ get_or-set_other st (4 * n + 1) (4 * n + 3) d 0 (λ q. omega arith) ∙ (rw e at k.3) ∙ ap bucket_of (sym en) in
    (rw e f0, rw e f1, rw e f2, rw e f3, omega (arith, ed), stacked_set s1 (4 * n + 2) (bit b) cs (omega (arith, e)) (stacked_set st (4 * n + 1) d cs (omega (arith, e)) k.5))

-- the words of a new call
stacked_new :
    (st : List ℕ) (v u n : ℕ) (name : Bytes) (cs : List Call) → length cs ≡ n → 4 * n + 3 < length st → v ≡ length (open_strings cs) → u ≡ bucket_of name → Stacked st cs
    → Stacked (set (set (set (set st (4 * n) v) (4 * n + 1) 0) (4 * n + 2) 0) (4 * n + 3) u) (open_call name ∷ cs)
unfolding Stacked open_call bit
stacked_new st v u n name cs e l ev eu k =
    let s0 = set st (4 * n) v in
    let s1 = set s0 (4 * n + 1) 0 in
    let s2 = set s1 (4 * n + 2) 0 in
    let l0 = length-set st (4 * n) v in
    let l1 = length-set s0 (4 * n + 1) 0 in
    let l2 = length-set s1 (4 * n + 2) 0 in
    let f0 : get_or (set s2 (4 * n + 3) u) (4 * n) 0 ≡ length (open_strings cs) =
    get_or-set_other s2 (4 * n + 3) (4 * n) u 0 (λ q. omega arith) ∙ get_or-set_other s1 (4 * n + 2) (4 * n) 0 0 (λ q. omega arith)
    ∙ get_or-set_other s0 (4 * n + 1) (4 * n) 0 0 (λ q. omega arith) ∙ get_or-set_same st (4 * n) v 0 (omega arith) ∙ ev in
    let f1 : get_or (set s2 (4 * n + 3) u) (4 * n + 1) 0 ≡ 0 =
    get_or-set_other s2 (4 * n + 3) (4 * n + 1) u 0 (λ q. omega arith) ∙ get_or-set_other s1 (4 * n + 2) (4 * n + 1) 0 0 (λ q. omega arith)
    ∙ get_or-set_same s0 (4 * n + 1) 0 0 (omega (arith, l0)) in
    let f2 : get_or (set s2 (4 * n + 3) u) (4 * n + 2) 0 ≡ 0 =
    get_or-set_other s2 (4 * n + 3) (4 * n + 2) u 0 (λ q. omega arith) ∙ get_or-set_same s1 (4 * n + 2) 0 0 (omega (arith, l0, l1)) in
    let f3 : get_or (set s2 (4 * n + 3) u) (4 * n + 3) 0 ≡ bucket_of name = get_or-set_same s2 (4 * n + 3) u 0 (omega (arith, l0, l1, l2)) ∙ eu in (
      rw e f0,
      rw e f1,
      rw e f2,
      rw e f3,
      omega arith,
      stacked_set s2 (4 * n + 3) u cs (omega (arith, e))
          (stacked_set s1 (4 * n + 2) 0 cs (omega (arith, e)) (stacked_set s0 (4 * n + 1) 0 cs (omega (arith, e)) (stacked_set st (4 * n) v cs (omega (arith, e)) k))),
    )

-- ---- opening

-- two new ends, of a written string and of an empty one
two_more :
    {ends : List ℕ} {count : ℕ} {bytes : Bytes} {used : ℕ} {ps : List Bytes} {w after : Bytes} → Packs ends count bytes used ps → count + 1 < length ends
    → Filled bytes used w after
    → Packs (set (set ends count (used + length w)) (count + 1) (used + length w)) (count + 2) after (used + length w) (ps ++ (w ∷ ([] ∷ [])))
unfolding joined ends_from
two_more {ends} {count} {bytes} {used} {ps} {w} {after} h room f =
    let u = used + length w in
    let one : take (suc count) (set ends count u) ≡ ends_from 0 ps ++ (u ∷ []) =
    take-suc-set ends count u (omega arith) ∙ ap (λ (l : List ℕ). l ++ (u ∷ [])) h.ends_are in
    let two : take (suc (suc count)) (set (set ends count u) (suc count) u) ≡ (ends_from 0 ps ++ (u ∷ [])) ++ (u ∷ []) =
    take-suc-set (set ends count u) (suc count) u (omega (arith, length-set ends count u)) ∙ ap (λ (l : List ℕ). l ++ (u ∷ [])) one in
    let z1 : 0 + length (joined ps) + length w ≡ u = omega (arith, used_is h) in
    let z2 : 0 + length (joined ps) + length w + 0 ≡ u = omega (arith, used_is h) in
    let ee : ends_from 0 (ps ++ (w ∷ ([] ∷ []))) ≡ ends_from 0 ps ++ (u ∷ (u ∷ [])) = ends_append 0 ps (w ∷ ([] ∷ [])) ∙ rw (z2, z1) refl in
    let c1 : count + 1 ≡ suc count = omega arith in
    let c2 : count + 2 ≡ suc (suc count) = omega arith in
    record {
      ends_are = rw (c1, c2) (two ∙ append_assoc (ends_from 0 ps) (u ∷ []) (u ∷ []) ∙ sym ee);
      bytes_are =
          filled_front f ∙ ap (λ (l : Bytes). l ++ w) h.bytes_are
          ∙ sym (joined-append ps (w ∷ ([] ∷ [])) ∙ ap (λ (l : Bytes). joined ps ++ l) (append-nil w));
      count_in = omega (arith, length-set (set ends count u) (count + 1) u, length-set ends count u);
      used_in = omega (arith, filled_long f, f.fits);
    }

module _ {bytes : Bytes} {ends stack : List ℕ} {x : Calls} (e-long : length ends ≡ call_ends_length) (s-long : length stack ≡ stack_length) where
  pub calls_opened :
      {cs : List Call} (name after : Bytes) (n bucket : ℕ) → CallsIn bytes ends stack x cs → length name ≡ n → bucket ≡ bucket_of name
      → Filled bytes x.strings.used name after → x.opens < most_calls → x.strings.count < x.opens + most_arguments
      → CallsIn after (set (set ends x.strings.count (x.strings.used + n)) (x.strings.count + 1) (x.strings.used + n))
      (set (set (set (set stack (4 * x.opens) x.strings.count) (4 * x.opens + 1) 0) (4 * x.opens + 2) 0) (4 * x.opens + 3) bucket)
      (record { strings = record { count = x.strings.count + 2; used = x.strings.used + n }; opens = x.opens + 1 }) (open_call name ∷ cs)
  unfolding open_strings call_strings open_call
  calls_opened {cs} name after n bucket m en eb f few args =
      rw (sym en)
      (record {
        strings = two_more m.strings (omega (arith, e-long)) f;
        open_is = omega (arith, m.open_is);
        stacked = stacked_new stack x.strings.count bucket x.opens name cs m.open_is (omega (arith, s-long)) (sym (count_is m.strings)) eb m.stacked;
        open_few = omega arith;
        args_few = omega arith;
      })

-- ---- collecting

last_grown : (xs : List Bytes) (y w : Bytes) → last_more (xs ++ (y ∷ [])) w ≡ xs ++ ((y ++ w) ∷ [])
unfolding last_more
last_grown [] y w = refl
last_grown (x ∷ []) y w = refl
last_grown (x ∷ (z ∷ xs)) y w = ap (λ (l : List Bytes). x ∷ l) (last_grown (z ∷ xs) y w)

collecting_strings : (c : Call) (cs : List Call) (w : Bytes) (d : ℕ) → open_strings (collecting w d c ∷ cs) ≡ last_more (open_strings (c ∷ cs)) w
unfolding open_strings call_strings collecting
collecting_strings c cs w d =
    sym
    (ap (λ (l : List Bytes). last_more l w) (sym (append_assoc (open_strings cs) (c.name ∷ c.finished) (c.current ∷ [])))
    ∙ last_grown (open_strings cs ++ (c.name ∷ c.finished)) c.current w
    ∙ append_assoc (open_strings cs) (c.name ∷ c.finished) ((c.current ++ w) ∷ []))

module _ {bytes : Bytes} {ends stack : List ℕ} {x : Calls} {c : Call} {cs : List Call} (m : CallsIn bytes ends stack x (c ∷ cs)) (s-long : length stack ≡ stack_length) where
  below : length cs ≡ x.opens - 1
  below = omega (arith, m.open_is)

  pub calls_collected :
      (w after : Bytes) (n d : ℕ) → length w ≡ n → Filled bytes x.strings.used w after → d ≤ length c.current + n
      → CallsIn after (set ends (x.strings.count - 1) (x.strings.used + n)) (set (set stack (4 * (x.opens - 1) + 1) d) (4 * (x.opens - 1) + 2) 1)
      (record { strings = record { count = x.strings.count; used = x.strings.used + n }; opens = x.opens }) (collecting w d c ∷ cs)
  unfolding bit collecting
  calls_collected w after n d en f h =
      rw (sym en)
      (let g : Packs (set ends (x.strings.count - 1) (x.strings.used + length w)) x.strings.count after (x.strings.used + length w) (last_more (open_strings (c ∷ cs)) w) =
      grown m.strings after w (length w) (omega (arith, some_strings m, m.open_is)) refl (filled_front f) in
      record {
        strings = rw (collecting_strings c cs w d) g;
        open_is = m.open_is;
        stacked =
            stacked_top stack d true c (collecting w d c) cs (x.opens - 1) below (omega (arith, s-long, m.open_few, m.open_is)) refl refl refl
            (omega (arith, length-append c.current w)) m.stacked;
        open_few = m.open_few;
        args_few = m.args_few;
      })

  -- ---- the next argument

  next_strings : open_strings (next_argument c ∷ cs) ≡ open_strings (c ∷ cs) ++ ([] ∷ [])
  unfolding open_strings call_strings next_argument
  next_strings = sym (append_assoc (open_strings cs) (call_strings c) ([] ∷ []))

  pub calls_separated :
      length ends ≡ call_ends_length → x.strings.count < x.opens + most_arguments
      → CallsIn bytes (set ends x.strings.count x.strings.used) (set (set stack (4 * (x.opens - 1) + 1) 0) (4 * (x.opens - 1) + 2) 0)
      (record { strings = record { count = x.strings.count + 1; used = x.strings.used }; opens = x.opens }) (next_argument c ∷ cs)
  unfolding bit next_argument
  calls_separated e-long few =
      record {
        strings = rw next_strings (pushed_empty m.strings (omega (arith, e-long, m.open_few)));
        open_is = m.open_is;
        stacked = stacked_top stack 0 false c (next_argument c) cs (x.opens - 1) below (omega (arith, s-long, m.open_few, m.open_is)) refl refl refl (omega arith) m.stacked;
        open_few = m.open_few;
        args_few = omega arith;
      }

-- ---- the innermost call in numbers, and closed

module _ {bytes : Bytes} {ends stack : List ℕ} {x : Calls} {c : Call} {cs : List Call} (m : CallsIn bytes ends stack x (c ∷ cs)) where
  under : length cs ≡ x.opens - 1
  under = omega (arith, m.open_is)

  pub top_first : get_or stack (4 * (x.opens - 1) + 0) 0 ≡ length (open_strings cs)
  unfolding Stacked
  top_first = rw (add-zero, sym under) m.stacked.0

  pub top_depth : get_or stack (4 * (x.opens - 1) + 1) 0 ≡ c.depth
  unfolding Stacked
  top_depth = rw (sym under) m.stacked.1

  pub top_collected : get_or stack (4 * (x.opens - 1) + 2) 0 ≡ bit c.collected
  unfolding Stacked
  top_collected = rw (sym under) m.stacked.2

  pub top_bucket : get_or stack (4 * (x.opens - 1) + 3) 0 ≡ bucket_of c.name
  unfolding Stacked
  top_bucket = rw (sym under) m.stacked.3

  pub depth_in : c.depth ≤ length c.current
  unfolding Stacked
  depth_in = m.stacked.4

  -- its strings stand from the first on, and are a name and an argument at least
  pub first_in_lem : length (open_strings cs) + 1 < x.strings.count
  unfolding open_strings call_strings
  first_in_lem = omega (arith, count_is m.strings, length-append (open_strings cs) (call_strings c), length-append c.finished (c.current ∷ []))

  pub closed_arguments : drop (length (open_strings cs) + 1) (open_strings (c ∷ cs)) ≡ c.finished ++ (c.current ∷ [])
  unfolding open_strings call_strings
  closed_arguments = drop-append-add (open_strings cs) (call_strings c) 1

  pub closed_name : get_or (open_strings (c ∷ cs)) (length (open_strings cs)) [] ≡ c.name
  unfolding open_strings call_strings
  closed_name = get_or_at (open_strings cs) c.name (c.finished ++ (c.current ∷ [])) [] (length (open_strings cs)) refl

  front_strings : take (length (open_strings cs)) (open_strings (c ∷ cs)) ≡ open_strings cs
  unfolding open_strings
  front_strings = take-append_seam (open_strings cs) (call_strings c)

  pub calls_closed :
      (first : ℕ) → first ≡ length (open_strings cs)
      → CallsIn bytes ends stack (record { strings = record { count = first; used = start_of ends first }; opens = x.opens - 1 }) cs
  unfolding Stacked
  calls_closed first e =
      let k : Packs ends first bytes (start_of ends first) (take first (open_strings (c ∷ cs))) = front m.strings first (omega (arith, first_in_lem)) in
      let s : take first (open_strings (c ∷ cs)) ≡ open_strings cs = ap (λ (n : ℕ). take n (open_strings (c ∷ cs))) e ∙ front_strings in
      record {
        strings = rw s at k;
        open_is = under;
        stacked = m.stacked.5;
        open_few = omega (arith, m.open_few);
        args_few = omega (arith, e, arguments_counted cs, arguments_counted (c ∷ cs), calls_counted m, under, m.args_few, some_more c cs);
      }
    where
      some_more : (c : Call) (cs : List Call) → argument_count cs ≤ argument_count (c ∷ cs)
      some_more c cs = unfold argument_count in omega arith

-- what is collected without a parenthesis leaves the depth
pub same_depth :
    {bytes : Bytes} {ends stack : List ℕ} {x : Calls} (w : Bytes) (d : ℕ) (c : Call) {cs : List Call} → CallsIn bytes ends stack x (collecting w d c ∷ cs)
    → d ≡ c.depth → CallsIn bytes ends stack x (collecting w c.depth c ∷ cs)
same_depth {bytes} {ends} {stack} {x} w d c {cs} m e = subst (λ (k : ℕ). CallsIn bytes ends stack x (collecting w k c ∷ cs)) e m

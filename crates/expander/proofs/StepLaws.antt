-- One step by what the code goes by: the open calls, a byte in a call, a name's meaning, the end, and the token ahead. Assumes nothing.
use Rattle.rules.proofs.Base.{◌≤◌, ◌+◌, ℕ, ◌-◌, ◌<◌, suc, zero, ◌∙◌, refl, sym, ap, ◌≡◌, subst, true, Bool, false, cond, ◌⊎◌, inl, inr, Some, Option, none-some, same_Some, List, [], ◌++◌, ◌∷◌, arith, eqb, length, drop, take, get_or, length-append, ne_eqb, eqb-true}
use Rattle.rules.specs.declared.Answer.TheVariants as answer
use Rattle.rules.specs.declared.Reading.{Reading}
use Rattle.rules.specs.declared.Reading.TheVariants.{Is, OpenQuote, OpenComment}
use Rattle.rules.specs.declared.Token.{Token}
use Rattle.rules.specs.declared.Token.TheVariants as token
use Rattle.rules.specs.Bytes.{Bytes, is_blank}
use Rattle.rules.specs.Answers.{done, unclosed_quote, unclosed_comment, unclosed_call, fault_answer}
use Rattle.rules.specs.Marks.{MarkTexts, mark_texts}
use Rattle.rules.specs.Source.{Source, ahead, push_back}
use Rattle.rules.specs.Streams.{finished_streams, changed, changed_in_turn}
use Rattle.rules.specs.Table.{Meaning, Definition}
use Rattle.rules.specs.State.{Call, State, next, stop, refused, with_calls, with_source, with_streams, with_wrap, resulting, changing, emitting}
use Rattle.rules.specs.Tokens.{read_token}
use Rattle.hashing.specs.Hashing.{hashed}
use Rattle.rules.specs.Run.{Setting, calls_cost}
use Rattle.rules.specs.Step.{plain, opening, bare, unopened, used_with, at_end, collecting, comma_at_depth, right_met, other_met, in_call, single_byte, act, reacted, step}
use Rattle.expander.specs.declared.machine.Machine.{Machine}
use Rattle.expander.specs.declared.machine.Progress.TheVariants as progress
use Rattle.expander.specs.declared.source.Position.{Position}
use Rattle.expander.specs.declared.events.Role.{Role}
use Rattle.expander.specs.declared.events.Role.TheVariants as role
use Rattle.expander.specs.declared.table.Meaning.{Meaning as Looked}
use Rattle.expander.specs.declared.table.Meaning.TheVariants as looked
use Rattle.expander.specs.Calls.{CallsIn}
use Rattle.expander.specs.Front.{Front}
use Rattle.expander.specs.Machine.{Memory, Represents, Valid, Refines, Reach, ahead_of, bytes_ahead, pending_at, source_set, wrap_set, stepped}
use Rattle.expander.specs.Source.{SourceIn}
use Rattle.expander.specs.Step.{by_role, deep_at, HasRole, TokenWithin}
use Rattle.expander.specs.Table.{Finds, meaning_for, plain_unopened}
use Rattle.expander.specs.Tokens.{Within, NameHashed}
use Rattle.expander.proofs.CallsLaws.{calls_held, depth_in}
use Rattle.expander.proofs.MachineLaws.{front_long, over_pending, refines_next, refines_refused, refines_room}
use Rattle.expander.proofs.Parted.{with_source_lem, with_wrap_lem}
use Rattle.expander.proofs.SteppedLaws.{refines_as}
use Rattle.expander.proofs.SourceLaws.{ahead_long, lent_is, pushed_back}

-- ---- promises handed on

-- what a callee is lent is valid, where it belongs to what the caller is lent
pub lends : {lent part : Memory → Memory} {m : Machine} (p : Valid lent m) → part (lent p.others) ≡ lent p.others → Valid part m
lends {lent} {m} p e =
    record { others = lent p.others; setting = p.setting; state = p.state; represents = subst (λ (b : Memory). Represents p.setting b m p.state) (sym e) p.represents }

-- ---- whether a call is open

pub record Innermost (cs : List Call) : Type 0 where
  pub top : Call
  pub rest : List Call
  pub is : cs ≡ top ∷ rest

none_of : (cs : List Call) → length cs ≡ 0 → cs ≡ []
none_of [] e = refl
none_of (c ∷ cs) e = absurd (omega arith)

some_of : (cs : List Call) → 0 < length cs → Innermost cs
some_of [] h = absurd (omega arith)
some_of (c ∷ cs) h = record { top = c; rest = cs; is = refl }

module _ {a : Setting} {b : Memory} {m : Machine} {s : State} (r : Represents a b m s) where
  pub no_calls : m.calls.opens ≡ 0 → s.calls ≡ []
  no_calls e = none_of s.calls (r.calls.open_is ∙ e)

  pub some_calls : 0 < m.calls.opens → Innermost s.calls
  some_calls h = some_of s.calls (omega (arith, r.calls.open_is))

  pub calls_top : {c : Call} {cs : List Call} → s.calls ≡ c ∷ cs → CallsIn b.calls b.call_ends b.stack m.calls (c ∷ cs)
  calls_top e = subst (CallsIn b.calls b.call_ends b.stack m.calls) e r.calls

  -- the innermost call's depth is small
  pub depth_few : (d : ℕ) → 0 < m.calls.opens → ((bytes : Bytes) (ends : List ℕ) (c : Call) (cs : List Call) → CallsIn bytes ends b.stack m.calls (c ∷ cs) → d ≡ c.depth) → d < 4294967295
  unfolding calls_cost
  depth_few d h f =
      let i = some_calls h in
      let k = calls_top i.is in
      omega (arith, f b.calls b.call_ends i.top i.rest k, depth_in k, calls_held k, k.strings.used_in, r.limits.calls_most)

-- ---- a byte in a call

comma_deep : (d : ℕ) (c : Call) (cs : List Call) (s : State) → (d ≡ 0 → ⊥) → comma_at_depth d c cs s ≡ next (with_calls (collecting (44 ∷ []) d c ∷ cs) s)
unfolding comma_at_depth
comma_deep zero c cs s f = absurd (f refl)
comma_deep (suc d) c cs s f = refl

right_deep : (d : ℕ) (c : Call) (cs : List Call) (s : State) → (d ≡ 0 → ⊥) → right_met d c cs s ≡ next (with_calls (collecting (41 ∷ []) (d - 1) c ∷ cs) s)
unfolding right_met
right_deep zero c cs s f = absurd (f refl)
right_deep (suc d) c cs s f = ap (λ (n : ℕ). next (with_calls (collecting (41 ∷ []) n c ∷ cs) s)) (omega arith)

module _ (x d : ℕ) (k : Bool) where
  pub role_left : x ≡ 40 → HasRole x d k (role.Collected (d + 1))
  unfolding in_call by_role deep_at
  role_left e =
      record {
        is = λ c cs s ed ek. rw e (ap (λ (n : ℕ). next (with_calls (collecting (40 ∷ []) n c ∷ cs) s)) (omega (arith, ed)));
        deep = omega arith;
      }

  pub role_closes : x ≡ 41 → d ≡ 0 → HasRole x d k role.Closes
  unfolding in_call by_role deep_at right_met
  role_closes e z = record { is = λ c cs s ed ek. rw e (ap (λ (n : ℕ). right_met n c cs s) (ed ∙ z)); deep = omega arith }

  pub role_right : x ≡ 41 → (d ≡ 0 → ⊥) → HasRole x d k (role.Collected (d - 1))
  unfolding in_call by_role deep_at
  role_right e f =
      record { is = λ c cs s ed ek. rw e (ap (λ (n : ℕ). right_met n c cs s) ed ∙ right_deep d c cs s f); deep = omega arith }

  pub role_separates : x ≡ 44 → d ≡ 0 → HasRole x d k role.Separates
  unfolding in_call by_role deep_at comma_at_depth
  role_separates e z = record { is = λ c cs s ed ek. rw e (ap (λ (n : ℕ). comma_at_depth n c cs s) (ed ∙ z)); deep = omega arith }

  pub role_comma : x ≡ 44 → (d ≡ 0 → ⊥) → HasRole x d k (role.Collected d)
  unfolding in_call by_role deep_at
  role_comma e f =
      record { is = λ c cs s ed ek. rw e (ap (λ (n : ℕ). comma_at_depth n c cs s) ed ∙ comma_deep d c cs s f); deep = omega arith }

  module _ (e0 : x ≡ 40 → ⊥) (e1 : x ≡ 41 → ⊥) (e2 : x ≡ 44 → ⊥) where
    other_in : (c : Call) (cs : List Call) (s : State) → in_call x c cs s ≡ other_met x c cs s
    unfolding in_call
    other_in c cs s = rw (ne_eqb x 40 e0, ne_eqb x 41 e1, ne_eqb x 44 e2, in_call)

    kept_at : (c : Call) (cs : List Call) (s : State) → c.depth ≡ d → next (with_calls (collecting (x ∷ []) c.depth c ∷ cs) s) ≡ next (with_calls (collecting (x ∷ []) d c ∷ cs) s)
    kept_at c cs s ed = ap (λ (n : ℕ). next (with_calls (collecting (x ∷ []) n c ∷ cs) s)) ed

    pub role_dropped : is_blank x ≡ true → k ≡ false → HasRole x d k role.Dropped
    unfolding by_role deep_at other_met
    role_dropped t z =
        record { is = λ c cs s ed ek. other_in c cs s ∙ rw (t, ek ∙ z, other_met); deep = omega arith }

    blank_in : (c : Call) (cs : List Call) (s : State) → is_blank x ≡ true → c.collected ≡ true → other_met x c cs s ≡ next (with_calls (collecting (x ∷ []) c.depth c ∷ cs) s)
    unfolding other_met
    blank_in c cs s t e =
        rw (t, other_met) (ap (λ (b : Bool). elim b [ true ↦ next (with_calls (collecting (x ∷ []) c.depth c ∷ cs) s) | false ↦ next s ]) e)

    pub role_blank : is_blank x ≡ true → k ≡ true → HasRole x d k (role.Collected d)
    unfolding by_role deep_at
    role_blank t z =
        record {
          is = λ c cs s ed ek. other_in c cs s ∙ blank_in c cs s t (ek ∙ z) ∙ kept_at c cs s ed;
          deep = omega arith;
        }

    pub role_other : is_blank x ≡ false → HasRole x d k (role.Collected d)
    unfolding by_role deep_at other_met
    role_other t = record { is = λ c cs s ed ek. other_in c cs s ∙ rw (t, other_met) (kept_at c cs s ed); deep = omega arith }

-- what follows by the role
pub role_is :
    {x d : ℕ} {k : Bool} {r w : Role} → HasRole x d k r → r ≡ w → (c : Call) (cs : List Call) (s : State) → d ≡ c.depth → k ≡ c.collected
    → in_call x c cs s ≡ by_role w x c cs s
role_is {x} h e c cs s ed ek = h.is c cs s (sym ed) (sym ek) ∙ ap (λ (y : Role). by_role y x c cs s) e

pub role_deep : {x d n : ℕ} {k : Bool} {r : Role} (c : Call) → HasRole x d k r → r ≡ role.Collected n → d ≡ c.depth → c.depth ≤ length c.current → n ≤ length c.current + 1
unfolding deep_at
role_deep c h e ed l = omega (arith, h.deep, ap deep_at e, ed, l)

-- ---- a byte

module _ (x : ℕ) (s : State) where
  pub byte_none : s.calls ≡ [] → single_byte x s.calls s ≡ next (emitting (x ∷ []) s)
  unfolding single_byte
  byte_none e = rw (e, single_byte)

  pub byte_some : (c : Call) (cs : List Call) → s.calls ≡ c ∷ cs → single_byte x s.calls s ≡ in_call x c cs s
  unfolding single_byte
  byte_some c cs e = rw (e, single_byte)

-- ---- a name

at_within : (xs : Bytes) (n : ℕ) → get_or xs n 0 ≡ 40 → n < length xs
at_within [] n e = absurd (omega arith)
at_within (x ∷ xs) zero e = omega arith
at_within (x ∷ xs) (suc n) e = omega (arith, at_within xs n e)

pub reach_open :
    {text pending : Bytes} {p : Position} {x : Source} {n : ℕ} {t : Bool} → SourceIn text pending p x → Reach text pending p 0 n n
    → t ≡ eqb (get_or (ahead x) n 0) 40 → t ≡ true → Reach text pending p 0 n (suc n)
reach_open {x} {n} m h e t =
    record { some = h.some; whole = omega (arith, at_within (ahead x) n (eqb-true (get_or (ahead x) n 0) 40 (sym e ∙ t)), ahead_long m) }

-- a name that means something
pub record Known (ds : List Definition) (o : Option Meaning) (r : Looked) : Type 0 where
  pub meaning : Meaning
  pub is : o ≡ Some meaning
  pub finds : Finds ds (Some meaning) r

pub known : {ds : List Definition} {o : Option Meaning} {r : Looked} → Finds ds o r → (r ≡ looked.Undefined → ⊥) → Known ds o r
unfolding meaning_for
known {r = looked.Text i} f g = record { meaning = _; is = f.is; finds = record { is = refl; within = f.within } }
known {r = looked.Predefined k} f g = record { meaning = _; is = f.is; finds = record { is = refl; within = f.within } }
known {r = looked.Undefined} f g = absurd (g refl)

-- one that no parenthesis follows
unopened_found : {ds : List Definition} {m : Meaning} (r : Looked) → Finds ds (Some m) r → unopened m ≡ cond (plain_unopened r) plain (bare m)
unfolding unopened meaning_for plain_unopened
unopened_found {ds} {m} (looked.Text i) f = rw (same_Some m _ f.is, unopened)
unopened_found {ds} {m} (looked.Predefined k) f = rw (same_Some m _ f.is, unopened)
unopened_found looked.Undefined f = absurd (none-some _ (sym f.is))

-- what a name does where it is read, by what looking it up answered
module _ {ds : List Definition} {o : Option Meaning} {r : Looked} (f : Finds ds o r) (t : Bool) where
  pub used_undefined : r ≡ looked.Undefined → used_with o t ≡ plain
  unfolding used_with meaning_for
  used_undefined e = rw (f.is, e, used_with)

  module _ (k : Known ds o r) where
    used_known : used_with o t ≡ used_with (Some k.meaning) t
    used_known = ap (λ (m : Option Meaning). used_with m t) k.is

    pub used_opening : t ≡ true → used_with o t ≡ opening
    unfolding used_with
    used_opening e = used_known ∙ rw (e, used_with)

    module _ (e : t ≡ false) where
      used_unopened : used_with o t ≡ cond (plain_unopened r) plain (bare k.meaning)
      unfolding used_with
      used_unopened = used_known ∙ rw (e, used_with) (unopened_found r k.finds)

      pub used_plain : plain_unopened r ≡ true → used_with o t ≡ plain
      used_plain p = used_unopened ∙ rw p

      pub used_bare : plain_unopened r ≡ false → used_with o t ≡ bare k.meaning
      used_bare p = used_unopened ∙ rw p

pub not_second : {k : ℕ} → (k ≡ 0) ⊎ (k ≡ 2) → k ≡ 1 → ⊥
not_second (inl e) f = omega arith
not_second (inr e) f = omega arith

-- ---- the end

end_open : (c : Call) (cs : List Call) (w : Bytes) (s : State) → at_end (c ∷ cs) w s ≡ refused unclosed_call
unfolding at_end
end_open c cs w s = refl

end_wrapped : (w : Bytes) (s : State) → 0 < length w → at_end [] w s ≡ next (resulting w (with_wrap [] s))
unfolding at_end
end_wrapped [] s h = absurd (omega arith)
end_wrapped (x ∷ xs) s h = refl

end_done : (w : Bytes) (s : State) → length w ≡ 0 → at_end [] w s ≡ stop done (with_streams (finished_streams s.streams) s)
unfolding at_end changing changed_in_turn changed
end_done [] s e = refl
end_done (x ∷ xs) s e = absurd (omega arith)

module _ {a : Setting} {b : Memory} {m : Machine} {s : State} (r : Represents a b m s) where
  -- a call is open
  pub end_refused : (m.calls.opens ≡ 0 → ⊥) → Refines a b (at_end s.calls s.wrap s) b (stepped (progress.Refused (answer.Unclosed 3)) m)
  unfolding fault_answer
  end_refused f =
      let i = some_calls r (omega (arith, f)) in
      refines_as (ap (λ (cs : List Call). at_end cs s.wrap s) i.is ∙ end_open i.top i.rest s.wrap s) (refines_refused unclosed_call)

  module _ (e : m.calls.opens ≡ 0) where
    -- no wrap text waits
    pub end_finished : m.wrap ≡ 0 → at_end s.calls s.wrap s ≡ stop done (with_streams (finished_streams s.streams) s)
    end_finished z = ap (λ (cs : List Call). at_end cs s.wrap s) (no_calls r e) ∙ end_done s.wrap s (front_long r.wrap ∙ z)

    module _ (f : m.wrap ≡ 0 → ⊥) where
      end_pushes : at_end s.calls s.wrap s ≡ next (resulting s.wrap (with_wrap [] s))
      end_pushes =
          ap (λ (cs : List Call). at_end cs s.wrap s) (no_calls r e) ∙ end_wrapped s.wrap s (omega (arith, f, front_long r.wrap))

      -- it doesn't fit the buffer
      pub end_full : length b.pending < m.wrap → Refines a b (at_end s.calls s.wrap s) b (stepped (progress.Refused (answer.Room 1)) m)
      unfolding resulting with_wrap with_source push_back
      end_full h =
          let t = resulting s.wrap (with_wrap [] s) in
          let l : a.pending < length t.source.pending =
          omega (arith, r.limits.pending, front_long r.wrap, length-append s.wrap s.source.pending) in
          refines_as end_pushes (refines_room t 0 (over_pending a t l))

      -- it becomes pending
      pub end_pending :
          (pending : Bytes) (from : ℕ) → length pending ≡ length b.pending → from ≤ length pending
          → drop from pending ≡ take m.wrap b.wrap ++ drop m.source.from b.pending
          → Refines a b (at_end s.calls s.wrap s) (pending_at pending b)
          (stepped progress.On (wrap_set 0 (source_set (record { from = from; taken = m.source.taken }) m)))
      unfolding resulting with_wrap with_source
      end_pending pending from l h d =
          let w : Front b.wrap 0 [] = record { text_is = refl; inside = omega arith } in
          refines_as end_pushes
          (refines_next
          (with_source_lem (with_wrap_lem r w refl)
          (pushed_back s.wrap from r.source h (d ∙ ap (λ (x : Bytes). x ++ drop m.source.from b.pending) r.wrap.text_is)) l))

-- ---- the token ahead

pub acts : {t w : Token} → t ≡ w → (s : State) → act t s ≡ act w s
acts e s = ap (λ (t : Token). act t s) e

module _ {text pending : Bytes} {p : Position} {t : Token} where
  pub reach_comment : {n : ℕ} → t ≡ token.Comment n → TokenWithin text pending p t → Reach text pending p 0 n n
  unfolding TokenWithin
  reach_comment e w = let h = subst (TokenWithin text pending p) e w in record { some = omega (arith, h); whole = h }

  pub reach_quoted : {i j n : ℕ} → t ≡ token.Quoted i j n → TokenWithin text pending p t → Reach text pending p i (j - i) n
  unfolding TokenWithin
  reach_quoted e w =
      let h = subst (TokenWithin text pending p) e w in
      record { some = omega (arith, h.0, h.1, h.2); whole = h.2 }

  pub reach_name : {n : ℕ} → t ≡ token.Name n → TokenWithin text pending p t → Reach text pending p 0 n n
  unfolding TokenWithin
  reach_name e w = let h = subst (TokenWithin text pending p) e w in record { some = omega (arith, h.1); whole = h.1 }

  pub end_place : {x : Source} → SourceIn text pending p x → t ≡ token.End → TokenWithin text pending p t → p.from ≡ length pending
  unfolding TokenWithin
  end_place m e w = omega (arith, subst (TokenWithin text pending p) e w, m.from_in)

pub quoted_order : (text pending : Bytes) (p : Position) {t : Token} {i j n : ℕ} → t ≡ token.Quoted i j n → TokenWithin text pending p t → i ≤ j
unfolding TokenWithin
quoted_order text pending p e w = (subst (TokenWithin text pending p) e w).0

-- the token that was read off the text as it was lent
module _ {a : Setting} {b : Memory} {m : Machine} {s : State} (r : Represents a b m s) {lent : Bytes} (l : lent ≡ bytes_ahead b.text b.pending m.source) where
  module _ {g : Reading} (e : g ≡ read_token (mark_texts m.marks) lent) where
    step_reads : step s ≡ reacted g s
    unfolding step
    step_reads =
        ap (λ (y : Reading). reacted y s)
        (ap (λ (k : MarkTexts). read_token k (ahead s.source)) r.marks ∙ ap (read_token (mark_texts m.marks)) (sym (lent_is r.source l)) ∙ sym e)

    pub step_token : {t : Token} → g ≡ Is t → step s ≡ act t s
    unfolding reacted
    step_token q = step_reads ∙ ap (λ (y : Reading). reacted y s) q

    pub step_quote : {n : ℕ} → g ≡ OpenQuote n → step s ≡ refused unclosed_quote
    unfolding reacted
    step_quote q = step_reads ∙ ap (λ (y : Reading). reacted y s) q

    pub step_comment : g ≡ OpenComment → step s ≡ refused unclosed_comment
    unfolding reacted
    step_comment q = step_reads ∙ ap (λ (y : Reading). reacted y s) q

  -- where its parts lie
  pub token_lies : {g : Reading} → Within lent g → (t : Token) → g ≡ Is t → TokenWithin b.text b.pending m.source t
  unfolding TokenWithin
  token_lies {g} w t q = go t q (ap length (lent_is r.source l) ∙ ahead_long r.source)
    where
      go : (t : Token) → g ≡ Is t → length lent ≡ ahead_of b.text b.pending m.source → TokenWithin b.text b.pending m.source t
      go token.End q l = sym l ∙ w.end q
      go (token.Comment n) q l = subst (λ (k : ℕ). n ≤ k) l (w.comment n q)
      go (token.Quoted i j n) q l = ((w.quoted i j n q).0, (w.quoted i j n q).1, subst (λ (k : ℕ). n ≤ k) l (w.quoted i j n q).2)
      go (token.Name n) q l = ((w.name n q).0, subst (λ (k : ℕ). n ≤ k) l (w.name n q).1)
      go (token.Byte x) q l = subst (λ (k : ℕ). 1 ≤ k) l (w.byte x q).0

  -- and of a name the hash
  pub token_hashed :
      {g : Reading} {hash : ℕ} → NameHashed lent g hash → {t : Token} → g ≡ Is t → NameHashed (bytes_ahead b.text b.pending m.source) (Is t) hash
  token_hashed h q =
      record { name = λ n e. h.name n (q ∙ e) ∙ ap (λ (w : Bytes). hashed 0 (take n w)) l }

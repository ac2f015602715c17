-- The changes of a step: what is read off the state before it is what the step makes of the streams.
use Prim.Native.Nat.{ℕ, zero, suc}
use mathlib.Core.Path.{◌≡◌, refl, sym, ap, subst, ◌∙◌}
use mathlib.Core.Bool.{Bool, true, false, ◌&&◌, ◌||◌}
use mathlib.Core.List.{List, [], ◌∷◌, ◌++◌, map}
use Rattle.std.specs.Prelude.{Option, None, Some}
use borrow.Author.Tests.{eqb-true}
use lib.Dec.{eqb, leb}
use lib.IntN.{pos}
use lib.ListN.{length, take, get_or}
use Rattle.rules.specs.declared.Token.{Token}
use Rattle.rules.specs.declared.Token.TheVariants as token
use Rattle.rules.specs.declared.Reading.{Reading}
use Rattle.rules.specs.declared.Reading.TheVariants.{Is, OpenQuote, OpenComment}
use Rattle.rules.specs.Bytes.{Bytes, is_name, is_blank}
use Rattle.rules.specs.Answers.{Ending, done, exit, Fault, no_number, gone}
use Rattle.rules.specs.Marks.{MarkTexts, is_mark, is_end_mark}
use Rattle.rules.specs.Source.{ahead}
use Rattle.rules.specs.Tokens.{read_token}
use Rattle.rules.specs.Table.{Meaning, text, predefined, Table, meaning_of}
use Rattle.rules.specs.Streams.{Streams, moved, moved_in_turn, Change, moves, changed, changed_in_turn}
use Rattle.rules.specs.State.{Call, State, Outcome, next, stop, refused, with_source, with_marks, with_calls, with_table, with_streams, with_wrap, with_errors, taking, resulting, changing, emitting}
use Rattle.rules.specs.Arguments.{arg, number_or, bounded}
use Rattle.rules.specs.Results.{Result, yields, fails}
use Rattle.rules.specs.Macros.{giving, marking, call_changecom, call_changequote, call_decr, naming, call_define, call_defn, call_divert, call_divnum, call_dnl, call_errprint, call_eval, call_ifdef, call_ifelse, call_incr, call_index, call_len, call_m4exit, call_m4wrap, call_popdef, call_pushdef, call_shift, call_substr, call_translit, call_undefine, undivert_numbers, call_undivert, call_include, call_sinclude, copying, call_copydef, call_nothing, macros, perform, performed, called}
use Rattle.rules.specs.Step.{NameUse, plain, opening, bare, name_use, at_end, delivered, argument_count, opened, named, closed, comma_met, right_met, comma_at_depth, other_met, in_call, single_byte, act, reacted, step}
use Rattle.rules.specs.Changes.{is_working, all_working, ending_change, Calling, bare_call, closed_call, right_call, byte_call, token_call, read_call, call_of, divert_changes, exit_changes, undivert_changes, no_changes, macro_changes, call_changes, own_changes, name_changes, end_changes, token_changes, read_changes, call_or, changes_of, Makes, MakesWholly}

-- ---- streams that are moved

pub moves_in_turn : (ns : List ℕ) (u : Streams) → changed_in_turn (map moves ns) u ≡ moved_in_turn ns u
unfolding changed changed_in_turn moved_in_turn
moves_in_turn [] u = refl
moves_in_turn (n ∷ ns) u = moves_in_turn ns (moved n u)

moves_work : (ns : List ℕ) → all_working (map moves ns) ≡ true
unfolding is_working all_working
moves_work [] = refl
moves_work (n ∷ ns) = moves_work ns

-- ---- outcomes

module _ {cs : List Change} {u : Streams} where
  works : (t : State) → t.streams ≡ changed_in_turn cs u → all_working cs ≡ true → MakesWholly cs u (next t)
  works t h w =
      record { on = λ v e. let p : t ≡ v = cc in (ap (λ (z : State). z.streams) (sym p) ∙ h, w); ended = λ x v e. (cc, cc); nothing = λ f e. cc }

  -- both ways of a test
  tested : (x : Bool) {o p : Outcome} → MakesWholly cs u o → MakesWholly cs u p → MakesWholly cs u (elim x [ true ↦ o | false ↦ p ])
  tested true h k = h
  tested false h k = k

-- nothing changes
module _ {u : Streams} where
  goes_on : (t : State) → t.streams ≡ u → MakesWholly [] u (next t)
  unfolding changed_in_turn all_working
  goes_on t h = works t h refl

  refuses : (f : Fault) → MakesWholly [] u (refused f)
  refuses f = record { on = λ v e. (cc, cc); ended = λ x v e. (cc, cc); nothing = λ g e. refl }

ends : {u : Streams} (x : Ending) (t : State) → t.streams ≡ changed (ending_change x) u → MakesWholly (ending_change x ∷ []) u (stop x t)
unfolding changed_in_turn
ends x t h =
    record {
      on = λ v e. (cc, cc);
      ended =
          λ y v e. (
            let p : t ≡ v = cc in ap (λ (z : State). z.streams) (sym p) ∙ h,
            let q : x ≡ y = cc in ap (λ (z : Ending). ending_change z ∷ []) q,
          );
      nothing = λ f e. cc;
    }

-- a number that a macro needs
needed :
    {A : Type 0} {u : Streams} {cs : A → List Change} {f : A → Outcome} (o : Option A) → ((x : A) → MakesWholly (cs x) u (f x))
    → MakesWholly (elim o [ None ↦ [] | Some x ↦ cs x ]) u (elim o [ None ↦ refused no_number | Some x ↦ f x ])
needed None h = refuses no_number
needed (Some x) h = h x

-- ---- the macros

-- a macro makes these changes
abbrev Changing : (List Bytes → State → Outcome) → (List Bytes → List Change) → Type 0
Changing f g = (args : List Bytes) (s : State) → MakesWholly (g args) s.streams (f args s)

giving_makes : (r : Result) (s : State) → MakesWholly [] s.streams (giving r s)
unfolding giving resulting with_source
giving_makes (yields w) s = goes_on _ refl
giving_makes (fails f) s = refuses f

marking_makes : (f : Bytes → Bytes → MarkTexts → MarkTexts) (b e : Bytes) (s : State) → MakesWholly [] s.streams (marking f b e s)
unfolding marking with_marks
marking_makes f b e s = tested (is_mark b && is_end_mark e) (goes_on _ refl) (refuses _)

naming_makes : (f : Bytes → Meaning → Table → Table) (args : List Bytes) (s : State) → MakesWholly [] s.streams (naming f args s)
unfolding naming with_table
naming_makes f args s = tested (is_name (arg 1 args)) (goes_on _ refl) (refuses _)

copying_makes : (o : Option Meaning) (w : Bytes) (s : State) → MakesWholly [] s.streams (copying o w s)
unfolding copying with_table
copying_makes None w s = refuses _
copying_makes (Some m) w s = goes_on _ refl

copydef_makes : Changing call_copydef no_changes
unfolding call_copydef no_changes
copydef_makes args s = tested (is_name (arg 2 args)) (copying_makes (meaning_of (arg 1 args) s.table) (arg 2 args) s) (refuses _)

changecom_makes : Changing call_changecom no_changes
unfolding call_changecom no_changes with_marks
changecom_makes [] s = goes_on _ refl
changecom_makes (b ∷ []) s = marking_makes _ b _ s
changecom_makes (b ∷ e ∷ more) s = marking_makes _ b e s

changequote_makes : Changing call_changequote no_changes
unfolding call_changequote no_changes with_marks
changequote_makes [] s = goes_on _ refl
changequote_makes (b ∷ []) s = marking_makes _ b _ s
changequote_makes (b ∷ e ∷ more) s = marking_makes _ b e s

divert_makes : Changing call_divert divert_changes
unfolding call_divert divert_changes changing with_streams is_working all_working
divert_makes args s = needed (number_or (pos 0) 1 args) (λ n. works _ refl refl)

exit_makes : Changing call_m4exit exit_changes
unfolding call_m4exit exit_changes changing with_streams with_wrap changed_in_turn ending_change
exit_makes args s = needed (bounded 0 255 (number_or (pos 0) 1 args)) (λ code. ends (exit code) _ refl)

undivert_makes : Changing call_undivert undivert_changes
unfolding call_undivert undivert_changes changing with_streams
undivert_makes args s = needed (undivert_numbers args) (λ ns. works _ refl (moves_work ns))

-- macros beside their changes
abbrev AllChanging : List (List Bytes → State → Outcome) → List (List Bytes → List Change) → Type 0
AllChanging [] [] = Unit {0}
AllChanging [] (g ∷ gs) = ⊥
AllChanging (f ∷ fs) [] = ⊥
AllChanging (f ∷ fs) (g ∷ gs) = Changing f g × AllChanging fs gs

one_of :
    (fs : List (List Bytes → State → Outcome)) (gs : List (List Bytes → List Change)) → AllChanging fs gs → (i : ℕ)
    → Changing (get_or fs i call_nothing) (get_or gs i no_changes)
unfolding call_nothing no_changes
one_of [] [] h i = λ args s. refuses gone
one_of [] (g ∷ gs) h i = absurd h
one_of (f ∷ fs) [] h i = absurd h
one_of (f ∷ fs) (g ∷ gs) h zero = h.0
one_of (f ∷ fs) (g ∷ gs) h (suc i) = one_of fs gs h.1 i

infixr 20 ◌also◌
◌also◌ : {A B : Type 0} → A → B → A × B
a also b = (a, b)

macros_make : AllChanging macros macro_changes
unfolding macros macro_changes no_changes call_decr call_define call_defn call_divnum call_dnl call_errprint call_eval call_ifdef call_ifelse call_incr call_index call_len call_m4wrap call_popdef call_pushdef call_shift call_substr call_translit call_undefine call_include call_sinclude with_source with_table with_wrap with_errors taking
macros_make =
    changecom_makes
    also changequote_makes
    also (λ args s. giving_makes _ s)
    also (λ args s. naming_makes _ args s)
    also (λ args s. giving_makes _ s)
    also divert_makes
    also (λ args s. giving_makes _ s)
    also (λ args s. goes_on _ refl)
    also (λ args s. goes_on _ refl)
    also (λ args s. giving_makes _ s)
    also (λ args s. giving_makes _ s)
    also (λ args s. giving_makes _ s)
    also (λ args s. giving_makes _ s)
    also (λ args s. giving_makes _ s)
    also (λ args s. giving_makes _ s)
    also exit_makes
    also (λ args s. goes_on _ refl)
    also (λ args s. goes_on _ refl)
    also (λ args s. naming_makes _ args s)
    also (λ args s. giving_makes _ s)
    also (λ args s. giving_makes _ s)
    also (λ args s. giving_makes _ s)
    also (λ args s. goes_on _ refl)
    also undivert_makes
    also (λ args s. giving_makes _ s)
    also (λ args s. giving_makes _ s)
    also copydef_makes
    also tt

call_makes : (m : Meaning) (name : Bytes) (args : List Bytes) (s : State) → MakesWholly (call_changes m args) s.streams (performed m name args s)
unfolding call_changes no_changes performed perform call_nothing
call_makes (text x) name args s = giving_makes _ s
call_makes (predefined zero) name args s = refuses gone
call_makes (predefined (suc i)) name args s = one_of macros macro_changes macros_make i args s

-- ---- a step

deliver_makes : (w : Bytes) (cs : List Call) (s : State) → MakesWholly (own_changes w cs) s.streams (next (delivered w cs s))
unfolding own_changes delivered emitting changing with_streams with_calls is_working all_working
deliver_makes w [] s = works _ refl refl
deliver_makes w (c ∷ cs) s = goes_on _ refl

end_makes : (cs : List Call) (w : Bytes) (s : State) → MakesWholly (end_changes cs w) s.streams (at_end cs w s)
unfolding end_changes at_end changing with_streams with_wrap resulting with_source changed_in_turn ending_change
end_makes [] [] s = ends done _ refl
end_makes [] (x ∷ xs) s = goes_on _ refl
end_makes (c ∷ cs) w s = refuses _

opened_makes : (name : Bytes) (s : State) → MakesWholly [] s.streams (opened name s)
unfolding opened with_calls
opened_makes name s = tested (leb 64 (length s.calls) || leb 256 (argument_count s.calls)) (refuses _) (goes_on _ refl)

name_makes :
    (u : NameUse) (name : Bytes) (end : ℕ) (s : State)
    → MakesWholly (call_or (bare_call u name end s) (name_changes u name s.calls)) s.streams (named u name end s)
unfolding call_or bare_call name_changes named called taking with_source
name_makes plain name end s = deliver_makes name s.calls (taking end s)
name_makes opening name end s = opened_makes name (taking (suc end) s)
name_makes (bare m) name end s = call_makes m name [] (taking end s)

-- a byte in an argument
module _ (c : Call) (cs : List Call) (s : State) where
  closed_makes : (o : Option Meaning) → MakesWholly (call_or (closed_call c cs o s) []) s.streams (called o c.name (c.finished ++ (c.current ∷ [])) (with_calls cs s))
  unfolding call_or closed_call called with_calls
  closed_makes None = refuses _
  closed_makes (Some m) = call_makes m c.name (c.finished ++ (c.current ∷ [])) (with_calls cs s)

  right_makes : (d : ℕ) → MakesWholly (call_or (right_call d c cs s) []) s.streams (right_met d c cs s)
  unfolding call_or right_call right_met closed with_calls
  right_makes zero = closed_makes (meaning_of c.name s.table)
  right_makes (suc d) = goes_on _ refl

  comma_makes : (d : ℕ) → MakesWholly [] s.streams (comma_at_depth d c cs s)
  unfolding comma_at_depth comma_met with_calls
  comma_makes zero = tested (leb 256 (argument_count (c ∷ cs))) (refuses _) (goes_on _ refl)
  comma_makes (suc d) = goes_on _ refl

  other_makes : (x : ℕ) → MakesWholly [] s.streams (other_met x c cs s)
  unfolding other_met with_calls
  other_makes x = tested (is_blank x) (tested c.collected (goes_on _ refl) (goes_on _ refl)) (goes_on _ refl)

  in_call_makes : (x : ℕ) → MakesWholly (call_or (byte_call x (c ∷ cs) s) []) s.streams (in_call x c cs s)
  unfolding call_or byte_call in_call with_calls
  in_call_makes x = go (eqb x 40) refl
    where
      behind : (y z : Bool)
          → MakesWholly (call_or (elim y [ true ↦ right_call c.depth c cs s | false ↦ None ]) []) s.streams
          (elim y [ true ↦ right_met c.depth c cs s | false ↦ elim z [ true ↦ comma_at_depth c.depth c cs s | false ↦ other_met x c cs s ] ])
      behind true z = right_makes c.depth
      behind false true = comma_makes c.depth
      behind false false = other_makes x

      go : (b : Bool) → eqb x 40 ≡ b → MakesWholly (call_or (byte_call x (c ∷ cs) s) []) s.streams (in_call x c cs s)
      go true e = subst (λ (z : ℕ). MakesWholly (call_or (byte_call z (c ∷ cs) s) []) s.streams (in_call z c cs s)) (sym (eqb-true x 40 e)) (goes_on _ refl)
      go false e = rw (e, in_call) (behind (eqb x 41) (eqb x 44))

byte_makes : (x : ℕ) (cs : List Call) (s : State) → MakesWholly (call_or (byte_call x cs s) (own_changes (x ∷ []) cs)) s.streams (single_byte x cs s)
unfolding call_or byte_call own_changes single_byte emitting changing with_streams is_working all_working
byte_makes x [] s = works _ refl refl
byte_makes x (c ∷ cs) s = in_call_makes c cs s x

act_makes : (t : Token) (s : State) → MakesWholly (call_or (token_call t s) (token_changes t s)) s.streams (act t s)
unfolding call_or token_call token_changes act taking with_source
act_makes token.End s = end_makes s.calls s.wrap s
act_makes (token.Comment end) s = deliver_makes _ s.calls (taking end s)
act_makes (token.Quoted begins ends end) s = deliver_makes _ s.calls (taking end s)
act_makes (token.Name end) s = name_makes (name_use (take end (ahead s.source)) end s) (take end (ahead s.source)) end s
act_makes (token.Byte x) s = byte_makes x s.calls (taking 1 s)

read_makes : (r : Reading) (s : State) → MakesWholly (call_or (read_call r s) (read_changes r s)) s.streams (reacted r s)
unfolding call_or read_call read_changes reacted
read_makes (Is t) s = act_makes t s
read_makes (OpenQuote n) s = refuses _
read_makes OpenComment s = refuses _

-- a step makes the changes that the state before it says, and no other; which changes they are says whether the run goes on
pub step_makes_wholly : (s : State) → MakesWholly (changes_of s) s.streams (step s)
unfolding changes_of call_of step
step_makes_wholly s = read_makes (read_token s.marks (ahead s.source)) s

pub step_makes : (s : State) → Makes (changes_of s) s.streams (step s)
step_makes s =
    let w = step_makes_wholly s in
    record { on = λ t e. (w.on t e).0; ended = λ x t e. (w.ended x t e).0; nothing = w.nothing }

-- ---- the call of a step

-- an outcome is that of the call, if there is one
abbrev Performs : Option Calling → Outcome → Type 0
Performs o x = (c : Calling) → o ≡ Some c → x ≡ performed c.meaning c.name c.arguments c.from

nothing_performs : {x : Outcome} → Performs None x
nothing_performs c e = cc

call_performs : (c : Calling) → Performs (Some c) (performed c.meaning c.name c.arguments c.from)
call_performs c v e = let p : c ≡ v = cc in ap (λ (z : Calling). performed z.meaning z.name z.arguments z.from) p

name_performs : (u : NameUse) (name : Bytes) (end : ℕ) (s : State) → Performs (bare_call u name end s) (named u name end s)
unfolding bare_call named called
name_performs plain name end s = nothing_performs
name_performs opening name end s = nothing_performs
name_performs (bare m) name end s = call_performs _

closed_performs : (c : Call) (cs : List Call) (o : Option Meaning) (s : State) → Performs (closed_call c cs o s) (called o c.name (c.finished ++ (c.current ∷ [])) (with_calls cs s))
unfolding closed_call called
closed_performs c cs None s = nothing_performs
closed_performs c cs (Some m) s = call_performs _

right_performs : (d : ℕ) (c : Call) (cs : List Call) (s : State) → Performs (right_call d c cs s) (right_met d c cs s)
unfolding right_call right_met closed
right_performs zero c cs s = closed_performs c cs (meaning_of c.name s.table) s
right_performs (suc d) c cs s = nothing_performs

byte_performs : (x : ℕ) (cs : List Call) (s : State) → Performs (byte_call x cs s) (single_byte x cs s)
unfolding byte_call single_byte in_call
byte_performs x [] s = nothing_performs
byte_performs x (c ∷ cs) s = go (eqb x 41) refl
  where
    go : (y : Bool) → eqb x 41 ≡ y → Performs (byte_call x (c ∷ cs) s) (in_call x c cs s)
    go true e = subst (λ (z : ℕ). Performs (byte_call z (c ∷ cs) s) (in_call z c cs s)) (sym (eqb-true x 41 e)) (right_performs c.depth c cs s)
    go false e = rw (e, byte_call) nothing_performs

act_performs : (t : Token) (s : State) → Performs (token_call t s) (act t s)
unfolding token_call act
act_performs token.End s = nothing_performs
act_performs (token.Comment end) s = nothing_performs
act_performs (token.Quoted begins ends end) s = nothing_performs
act_performs (token.Name end) s = name_performs (name_use (take end (ahead s.source)) end s) (take end (ahead s.source)) end s
act_performs (token.Byte x) s = byte_performs x s.calls (taking 1 s)

read_performs : (r : Reading) (s : State) → Performs (read_call r s) (reacted r s)
unfolding read_call reacted
read_performs (Is t) s = act_performs t s
read_performs (OpenQuote n) s = nothing_performs
read_performs OpenComment s = nothing_performs

-- a step that makes a call comes to what the call's meaning makes of its arguments
pub step_performs : (s : State) (c : Calling) → call_of s ≡ Some c → step s ≡ performed c.meaning c.name c.arguments c.from
unfolding call_of step
step_performs s = read_performs (read_token s.marks (ahead s.source)) s

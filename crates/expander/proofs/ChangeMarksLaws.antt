-- changecom and changequote: new marks, if they are good, and which they are by the number of arguments.
use Rattle.rules.proofs.Base.{◌≤◌, ℕ, ◌∙◌, refl, sym, ap, ◌≡◌, true, Bool, false, ◌||◌, not, ◌&&◌, List, [], ◌∷◌, arith, eqb, leb, length, eq-eqb, ne_eqb, leb-true, not-true, not-false}
use Rattle.rules.specs.declared.Answer.TheVariants as answer
use Rattle.rules.specs.declared.Mark.{Mark}
use Rattle.rules.specs.declared.Marks.{Marks}
use Rattle.rules.specs.Answers.{bad_mark, fault_answer}
use Rattle.rules.specs.Arguments.{arg}
use Rattle.rules.specs.Bytes.{Bytes, same_bytes}
use Rattle.rules.specs.Macros.{marking, call_changecom, call_changequote}
use Rattle.rules.specs.Marks.{MarkTexts, newline_mark, default_marks, none_barred, is_mark, is_end_mark, mark_text, mark_texts, with_quotes, with_comments}
use Rattle.rules.specs.Run.{Setting}
use Rattle.rules.specs.State.{State, Outcome, next, with_marks}
use Rattle.expander.specs.declared.machine.Machine.{Machine}
use Rattle.expander.specs.declared.machine.Stepped.{Stepped}
use Rattle.expander.specs.declared.machine.Progress.TheVariants as progress
use Rattle.expander.specs.Arguments.{second_or}
use Rattle.expander.specs.Machine.{Memory, Represents, Refines, marks_set, stepped}
use Rattle.expander.specs.Tokens.{FullMark, GoodMarks}
use Rattle.expander.proofs.Parted.{with_marks_lem}
use Rattle.expander.proofs.SteppedLaws.{stepped_on, stepped_refused}

-- ---- a good mark has one to five bytes

pub record MarkSized (w : Bytes) : Type 0 where
  pub least : 1 ≤ length w
  pub most : length w ≤ 5

pub mark_sized : (w : Bytes) → is_mark w ≡ true → MarkSized w
unfolding is_mark
mark_sized w e = go (leb 1 (length w)) (leb (length w) 5) (none_barred w) (leb-true 1 (length w)) (leb-true (length w) 5) e
  where
    go : (p q r : Bool) → (p ≡ true → 1 ≤ length w) → (q ≡ true → length w ≤ 5) → p && q && r ≡ true → MarkSized w
    go true true r f g e = record { least = f refl; most = g refl }
    go true false r f g e = absurd (let z : ◌≡◌ {A = ℕ} 0 1 = cc in omega arith)
    go false q r f g e = absurd (let z : ◌≡◌ {A = ℕ} 0 1 = cc in omega arith)

newline_sized : (w : Bytes) → same_bytes w newline_mark ≡ true → MarkSized w
unfolding same_bytes
newline_sized [] e = absurd (let z : ◌≡◌ {A = ℕ} 0 1 = cc in omega arith)
newline_sized (x ∷ []) e = record { least = omega arith; most = omega arith }
newline_sized (x ∷ y ∷ w) e = absurd (go (eqb x 10) e)
  where
    go : (p : Bool) → elim p as (λ _. Bool) [ true ↦ false | false ↦ false ] ≡ true → ⊥
    go true e = let z : ◌≡◌ {A = ℕ} 0 1 = cc in omega arith
    go false e = let z : ◌≡◌ {A = ℕ} 0 1 = cc in omega arith

pub end_mark_sized : (w : Bytes) → is_end_mark w ≡ true → MarkSized w
unfolding is_end_mark
end_mark_sized w e = go (is_mark w) (same_bytes w newline_mark) (mark_sized w) (newline_sized w) e
  where
    go : (p q : Bool) → (p ≡ true → MarkSized w) → (q ≡ true → MarkSized w) → p || q ≡ true → MarkSized w
    go true q f g e = f refl
    go false q f g e = g e

-- the mark that the code makes of one
pub made_full : {w : Bytes} {m : Mark} → MarkSized w → m.len ≡ length w → FullMark m
made_full h e = record { least = omega (arith, h.least); most = omega (arith, h.most) }

pub record MarksSized (x y : Bytes) : Type 0 where
  pub begin : MarkSized x
  pub end : MarkSized y

pub marks_sized : (x y : Bytes) {r : Bool} → r ≡ is_mark x && is_end_mark y → not r ≡ false → MarksSized x y
marks_sized x y {r} e n = go (is_mark x) (is_end_mark y) (mark_sized x) (end_mark_sized y) (sym e ∙ not-false r n)
  where
    go : (p q : Bool) → (p ≡ true → MarkSized x) → (q ≡ true → MarkSized y) → p && q ≡ true → MarksSized x y
    go true q f g h = record { begin = f refl; end = g h }
    go false q f g h = absurd (let z : ◌≡◌ {A = ℕ} 0 1 = cc in omega arith)

-- ---- new marks, or a refusal

-- the marks of the machine are replaced
pub remarked : {a : Setting} {b : Memory} {m m' : Machine} {s : State} {t : Stepped} {o : Outcome} {x : Marks} (y : MarkTexts) → Represents a b m s → o ≡ next (with_marks y s) → mark_texts x ≡ y → GoodMarks x
    → m' ≡ marks_set x m → t ≡ stepped progress.On m' → Refines a b o b t
remarked {s = s} y r h e g k f = stepped_on (with_marks_lem r g) (h ∙ ap (λ (z : MarkTexts). next (with_marks z s)) (sym e)) (f ∙ ap (stepped progress.On) k)

module _ {a : Setting} {b : Memory} {m : Machine} (f : Bytes → Bytes → MarkTexts → MarkTexts) (x y : Bytes) (s : State) {t : Stepped} {r : Bool} (e : r ≡ is_mark x && is_end_mark y) where
  pub badly_marked : not r ≡ true → t ≡ stepped (progress.Refused answer.Mark) m → Refines a b (marking f x y s) b t
  unfolding marking fault_answer
  badly_marked n g =
      let h : is_mark x && is_end_mark y ≡ false = sym e ∙ not-true r n in
      stepped_refused {m = m} bad_mark (rw (h, marking)) g

  pub well_marked :
      not r ≡ false → Represents a b m s → {m' : Machine} {c : Marks} (v w : Mark) → mark_text v ≡ x → mark_text w ≡ y → mark_texts c ≡ f (mark_text v) (mark_text w) (mark_texts m.marks) → GoodMarks c
      → m' ≡ marks_set c m → t ≡ stepped progress.On m' → Refines a b (marking f x y s) b t
  unfolding marking
  well_marked n k v w i j q g l p =
      let h : is_mark x && is_end_mark y ≡ true = sym e ∙ not-false r n in
      remarked (f x y s.marks) k (rw (h, marking)) (q ∙ rw (i, j, k.marks)) g l p

-- ---- by the number of arguments: none, one, or more

-- the second argument or the newline, as the code finds it
module _ (w : Bytes) (args : List Bytes) where
  pub second_only : length args ≡ 1 → w ≡ second_or w args
  unfolding second_or
  second_only h = sym (rw (eq-eqb (length args) 1 h, second_or))

  pub second_given : (length args ≡ 1 → ⊥) → {e : Bytes} → e ≡ arg 2 args → e ≡ second_or w args
  unfolding second_or
  second_given h f = f ∙ sym (rw (ne_eqb (length args) 1 h, second_or))

unfoldable by_arguments : Outcome → (Bytes → Bytes → Outcome) → List Bytes → Outcome
by_arguments o f [] = o
by_arguments o f (b ∷ []) = f b newline_mark
by_arguments o f (b ∷ e ∷ more) = f b e

module _ (o : Outcome) (f : Bytes → Bytes → Outcome) where
  by_none : (args : List Bytes) → length args ≡ 0 → by_arguments o f args ≡ o
  unfolding by_arguments
  by_none [] h = refl
  by_none (b ∷ more) h = absurd (omega arith)

  by_some : (args : List Bytes) → (length args ≡ 0 → ⊥) → by_arguments o f args ≡ f (arg 1 args) (second_or newline_mark args)
  unfolding by_arguments arg second_or
  by_some [] g = absurd (g refl)
  by_some (b ∷ []) g = refl
  by_some (b ∷ e ∷ more) g = ap (f b) (second_given newline_mark (b ∷ e ∷ more) (λ h. omega arith) refl)

module _ (s : State) where
  abbrev comments_off : Outcome
  comments_off = next (with_marks (with_comments [] s.marks.end_comment s.marks) s)

  abbrev plain_quotes : Outcome
  plain_quotes = next (with_marks (with_quotes default_marks.begin_quote default_marks.end_quote s.marks) s)

  abbrev commenting : Bytes → Bytes → Outcome
  commenting b e = marking with_comments b e s

  abbrev quoting : Bytes → Bytes → Outcome
  quoting b e = marking with_quotes b e s

changecom_is : (args : List Bytes) (s : State) → call_changecom args s ≡ by_arguments (comments_off s) (commenting s) args
unfolding call_changecom by_arguments
changecom_is [] s = refl
changecom_is (b ∷ []) s = refl
changecom_is (b ∷ e ∷ more) s = refl

changequote_is : (args : List Bytes) (s : State) → call_changequote args s ≡ by_arguments (plain_quotes s) (quoting s) args
unfolding call_changequote by_arguments
changequote_is [] s = refl
changequote_is (b ∷ []) s = refl
changequote_is (b ∷ e ∷ more) s = refl

module _ (args : List Bytes) (s : State) {b e : Bytes} (f : b ≡ arg 1 args) (g : e ≡ second_or newline_mark args) (h : length args ≡ 0 → ⊥) where
  pub changecom_some : call_changecom args s ≡ marking with_comments b e s
  changecom_some = changecom_is args s ∙ by_some (comments_off s) (commenting s) args h ∙ rw (f, g)

  pub changequote_some : call_changequote args s ≡ marking with_quotes b e s
  changequote_some = changequote_is args s ∙ by_some (plain_quotes s) (quoting s) args h ∙ rw (f, g)

module _ {a : Setting} {b : Memory} {m m' : Machine} {s : State} {t : Stepped} (r : Represents a b m s) (args : List Bytes) (h : length args ≡ 0) {x : Marks} (k : m' ≡ marks_set x m) (f : t ≡ stepped progress.On m') where
  -- comments are turned off
  pub changecom_none :
      mark_texts x ≡ with_comments [] (mark_text m.marks.end_comment) (mark_texts m.marks) → (GoodMarks m.marks → GoodMarks x) → Refines a b (call_changecom args s) b t
  unfolding mark_texts
  changecom_none e g =
      remarked (with_comments [] s.marks.end_comment s.marks) r (changecom_is args s ∙ by_none (comments_off s) (commenting s) args h) (e ∙ rw r.marks) (g r.marks_good) k f

  -- the quote marks are the default ones
  pub changequote_none :
      mark_texts x ≡ with_quotes default_marks.begin_quote default_marks.end_quote (mark_texts m.marks) → (GoodMarks m.marks → GoodMarks x) → Refines a b (call_changequote args s) b t
  changequote_none e g =
      remarked (with_quotes default_marks.begin_quote default_marks.end_quote s.marks) r (changequote_is args s ∙ by_none (plain_quotes s) (quoting s) args h) (e ∙ rw r.marks) (g r.marks_good) k f

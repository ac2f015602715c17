-- What is refused before anything else: 30, then 33. Assumes nothing.
use Rattle.rules.proofs.Base.{◌≤◌, ℕ, ◌<◌, suc, ◌/◌, ◌∙◌, refl, ap, ◌≡◌, true, false, Bool, cond, and-eq-true_iff, List, Result, Ok, Err, leb, ltb, length, le-leb, leb-true, lt-leb, lt-ltb, le-ltb, ltb-false, arith}
use Rattle.std.proofs.Common.{IsErrAnd}
use Rattle.std.proofs.lemmas.Result.{err_from_is_err_and}
use Rattle.rules.specs.declared.IndexError.{IndexError}
use Rattle.rules.specs.declared.IndexError.TheVariants.{TooLong, NoRoom}
use Rattle.rules.specs.Run.{most_lent}
use Rattle.rules.specs.Lines.{word_count, has_room, judged_index}

module _ (n : ℕ) (words totals : List ℕ) where
  -- ---- in the order that the code asks in

  pub too_long : {T : Type 0} (a : Result T IndexError) → most_lent < n → Err TooLong ≡ judged_index n words totals a
  unfolding judged_index
  too_long a h = rw (lt-ltb most_lent n h) refl

  pub no_words : {T : Type 0} (a : Result T IndexError) → n ≤ most_lent → length words ≤ n / 64 → Err NoRoom ≡ judged_index n words totals a
  unfolding judged_index has_room word_count
  no_words a h l = rw (le-ltb most_lent n h, lt-leb (suc (n / 64)) (length words) (omega arith)) refl

  pub no_totals : {T : Type 0} (a : Result T IndexError) → n ≤ most_lent → n / 64 < length words → length totals ≤ n / 64 → Err NoRoom ≡ judged_index n words totals a
  unfolding judged_index has_room word_count
  no_totals a h k l = rw (le-ltb most_lent n h, le-leb (suc (n / 64)) (length words) k, lt-leb (suc (n / 64)) (length totals) (omega arith)) refl

  -- neither is refused
  pub record Admitted : Type 0 where
    pub short : n ≤ most_lent
    pub room : (n / 64 < length words) × (n / 64 < length totals)

  pub judged : {T : Type 0} (a : Result T IndexError) → Admitted → a ≡ judged_index n words totals a
  unfolding judged_index has_room word_count
  judged a m = rw (le-ltb most_lent n m.short, le-leb (suc (n / 64)) (length words) m.room.0, le-leb (suc (n / 64)) (length totals) m.room.1) refl

  -- ---- what the first of these answers tells of another

  pub admitted : ◌≡◌ {A = Result (Unit {0}) IndexError} (Ok tt) (judged_index n words totals (Ok tt)) → Admitted
  unfolding judged_index has_room word_count
  admitted e = go (ltb most_lent n) (has_room n (length words) (length totals)) refl refl e
    where
      go : (long fits : Bool) → ltb most_lent n ≡ long → has_room n (length words) (length totals) ≡ fits
          → ◌≡◌ {A = Result (Unit {0}) IndexError} (Ok tt) (cond long (Err TooLong) (cond fits (Ok tt) (Err NoRoom))) → Admitted
      go true fits l f e = let w : ◌≡◌ {A = ℕ} 0 1 = cc in absurd (omega arith)
      go false false l f e = let w : ◌≡◌ {A = ℕ} 0 1 = cc in absurd (omega arith)
      go false true l f e =
          let b = (and-eq-true_iff (leb (suc (n / 64)) (length words)) (leb (suc (n / 64)) (length totals))).0 f in
          record { short = ltb-false most_lent n l; room = (leb-true (suc (n / 64)) (length words) b.0, leb-true (suc (n / 64)) (length totals) b.1) }

  pub refused : {T : Type 0} (a : Result T IndexError) {x : IndexError} → ◌≡◌ {A = Result (Unit {0}) IndexError} (Err x) (judged_index n words totals (Ok tt)) → Err x ≡ judged_index n words totals a
  unfolding judged_index
  refused {T} a {x} e = go (ltb most_lent n) (has_room n (length words) (length totals)) e
    where
      go : (long fits : Bool) → ◌≡◌ {A = Result (Unit {0}) IndexError} (Err x) (cond long (Err TooLong) (cond fits (Ok tt) (Err NoRoom)))
          → ◌≡◌ {A = Result T IndexError} (Err x) (cond long (Err TooLong) (cond fits a (Err NoRoom)))
      go true fits e = let w : x ≡ TooLong = cc in rw w refl
      go false false e = let w : x ≡ NoRoom = cc in rw w refl
      go false true e = let w : ◌≡◌ {A = ℕ} 0 1 = cc in absurd (omega arith)

-- the error of a `?` is the callee's
pub passed : {T : Type 0} (r : Result T IndexError) (e : IndexError) → IsErrAnd r (λ x. x ≡ e) → r ≡ Err e
passed r e h = let p = err_from_is_err_and r h in p.1 ∙ ap Err p.2

-- Laws of the bytes that say what each definition means. Assumes nothing.
use Rattle.rules.proofs.Base.{◌≤◌, ◌+◌, ℕ, ◌-◌, ◌<◌, ◌/◌, ◌%◌, ◌∙◌, refl, sym, ap, ◌≡◌, List, ℕ_discrete, arith, length, drop, take, get_or, get_or-drop, get_or-take, take-take}
use Rattle.rules.specs.Bytes.{Bytes}
use Rattle.expander.specs.Limits.{most_lent, meanings_start, links_start}
use Rattle.expander.specs.Fields.{field_of, field_at, FieldPut}
use Rattle.expander.specs.Meanings.{number_at, Put, ClosedUp}
use Rattle.expander.specs.Packed.{Packs}

-- ---- the byte of a definition

pub put_is : {ends after : List ℕ} (i : ℕ) {x : ℕ} → i < most_lent → FieldPut 8 meanings_start ends i x after → Put ends i x after
unfolding number_at
put_is i m p = record { same = p.same; others = p.others; ends = p.front; chains = p.behind links_start (omega (arith, m)) }

-- what stands behind a place is as it was: so is each word
pub word_behind : (c : ℕ) (before after : List ℕ) → drop c after ≡ drop c before → (k : ℕ) → c ≤ k → get_or after k 0 ≡ get_or before k 0
word_behind c before after e k l =
    let n : c + (k - c) ≡ k = omega arith in
    let read : (l : List ℕ) → get_or (drop c l) (k - c) 0 ≡ get_or l k 0 = λ l. get_or-drop c l (k - c) 0 ∙ ap (λ (j : ℕ). get_or l j 0) n in
    sym (read after) ∙ ap (λ (l : List ℕ). get_or l (k - c) 0) e ∙ read before

-- and what stands before it
pub word_before : (c : ℕ) (before after : List ℕ) → take c after ≡ take c before → (k : ℕ) → k < c → get_or after k 0 ≡ get_or before k 0
word_before c before after e k l = sym (get_or-take c after k 0 l) ∙ ap (λ (l : List ℕ). get_or l k 0) e ∙ get_or-take c before k 0 l

-- what stands behind some of the ends is as it was: so are the bytes
pub numbers_kept : (c : ℕ) (before after : List ℕ) → drop c after ≡ drop c before → c ≤ meanings_start → (i : ℕ) → number_at after i ≡ number_at before i
unfolding number_at field_at
numbers_kept c before after e l i = ap (field_of 8 (i % 4)) (word_behind c before after e (meanings_start + i / 4) (omega arith))

-- and where only the chains behind them have changed
pub numbers_before : (before after : List ℕ) → take links_start after ≡ take links_start before → (i : ℕ) → i < most_lent → number_at after i ≡ number_at before i
unfolding number_at field_at
numbers_before before after e i l = ap (field_of 8 (i % 4)) (word_before links_start before after e (meanings_start + i / 4) (omega (arith, l)))

-- and where only bytes have changed, the strings are as they were
pub packs_kept : {before after : List ℕ} → take meanings_start after ≡ take meanings_start before → length after ≡ length before
    → {count : ℕ} {bytes : Bytes} {used : ℕ} {ss : List Bytes} → count ≤ meanings_start → Packs before count bytes used ss → Packs after count bytes used ss
packs_kept {before} {after} e l {count} le h = record {
  ends_are = sym (take-take count meanings_start after le) ∙ ap (take count) e ∙ take-take count meanings_start before le ∙ h.ends_are;
  bytes_are = h.bytes_are;
  count_in = omega (arith, h.count_in);
  used_in = h.used_in;
}

-- and where only the chains have changed
pub packs_before : {before after : List ℕ} → take links_start after ≡ take links_start before → length after ≡ length before
    → {count : ℕ} {bytes : Bytes} {used : ℕ} {ss : List Bytes} → count ≤ meanings_start → Packs before count bytes used ss → Packs after count bytes used ss
packs_before {before} {after} e = packs_kept (sym (take-take meanings_start links_start after (omega arith)) ∙ ap (take meanings_start) e ∙ take-take meanings_start links_start before (omega arith))

-- ---- one byte gone

-- those up to j have moved down, of those from i on; the others are as they were
pub record Closing (before : List ℕ) (i j : ℕ) (now : List ℕ) : Type 0 where
  pub front : (k : ℕ) → k < i → number_at now k ≡ number_at before k
  pub moved : (k : ℕ) → i ≤ k → k < j → number_at now k ≡ number_at before (k + 1)
  pub behind : (k : ℕ) → j ≤ k → number_at now k ≡ number_at before k
  pub ends : take meanings_start now ≡ take meanings_start before
  pub chains : drop links_start now ≡ drop links_start before

pub closing_begins : (ends : List ℕ) (i : ℕ) → Closing ends i i ends
closing_begins ends i = record { front = λ k l. refl; moved = λ k l m. absurd (omega (arith, l, m)); behind = λ k l. refl; ends = refl; chains = refl }

module _ {before : List ℕ} {i j : ℕ} {now : List ℕ} (h : Closing before i j now) (le : i ≤ j) where
  pub closing_on : {after : List ℕ} {x : ℕ} → x ≡ number_at now (j + 1) → Put now j x after → Closing before i (j + 1) after
  closing_on {after} e p = record {
    front = λ k l. p.others k (λ q. omega (arith, q, l)) ∙ h.front k l;
    moved = λ k l m. go k l m (ℕ_discrete k j);
    behind = λ k l. p.others k (λ q. omega (arith, q, l)) ∙ h.behind k (omega (arith, l));
    ends = p.ends ∙ h.ends;
    chains = p.chains ∙ h.chains;
  }
    where
      go : (k : ℕ) → i ≤ k → k < j + 1 → Dec (k ≡ j) → number_at after k ≡ number_at before (k + 1)
      go k l m (yes q) = rw q (p.same ∙ e ∙ h.behind (j + 1) (omega arith))
      go k l m (no d) = p.others k d ∙ h.moved k l (omega (arith, m, d))

  pub closing_ends : {n : ℕ} → n - 1 ≤ j → ClosedUp before i n now
  closing_ends l = record { front = h.front; moved = λ k a b. h.moved k a (omega (arith, l, b)); ends = h.ends; chains = h.chains }

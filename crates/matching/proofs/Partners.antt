-- Laws of the table of partners. `table_puts` is what a caller of `partners_of` uses: the text replaced by the table is the transliterated one.
-- Assumes nothing.
use Rattle.rules.proofs.Base.{◌≤◌, ◌+◌, ℕ, ◌<◌, suc, zero, ◌∙◌, refl, sym, ap, ◌≡◌, ap₂, true, Bool, false, [], ◌++◌, ◌∷◌, arith, eqb, ltb, length, get_or, ne_eqb, ltb-true, ltb-false, lt-ltb, le-ltb}
use Rattle.std.specs.Prelude.{Result, Ok, Err}
use Rattle.std.specs.Result.{OkIff, result_unwrap_or}
use Rattle.rules.specs.Bytes.{Bytes}
use Rattle.rules.specs.Results.{partner, transliterated}
use Rattle.matching.specs.Partners.{is_among, standing, entry_of, entries, partner_table, entry_for, put_by, replaced}

-- an entry that is a byte, one that keeps the byte, and one that deletes it
pub entry_byte : (x e : ℕ) → e < 256 → entry_for x e ≡ e ∷ []
unfolding entry_for
entry_byte x e h = rw (lt-ltb e 256 h, entry_for)

pub entry_same : (x e : ℕ) → e ≡ 256 → entry_for x e ≡ x ∷ []
unfolding entry_for
entry_same x e h = rw h

pub entry_none : (x e : ℕ) → 257 ≤ e → entry_for x e ≡ []
unfolding entry_for
entry_none x e h = rw (le-ltb e 256 (omega arith), ne_eqb e 256 (omega arith), entry_for)

-- the byte that an entry is, if it is one, else x
pub entry_put : {E : Type 0} (x e : ℕ) (r : Result ℕ E) → OkIff r (e < 256) e → e < 257 → entry_for x e ≡ result_unwrap_or r x ∷ []
entry_put x e (Ok y) h k = entry_byte x e h.0 ∙ ap (λ (n : ℕ). n ∷ []) (sym h.1)
entry_put x e (Err y) h k = entry_same x e (omega arith)

pub entry_one : (x e : ℕ) → e < 257 → length (entry_for x e) ≡ 1
unfolding entry_for
entry_one x e h = go (ltb e 256) refl
  where
    go : (q : Bool) → ltb e 256 ≡ q → length (entry_for x e) ≡ 1
    go true w = ap length (entry_byte x e (ltb-true e 256 w))
    go false w =
        let f : 256 ≤ e = ltb-false e 256 w in
        let k : e ≡ 256 = omega arith in
        ap length (entry_same x e k)

-- the entry of a byte, by whether it is replaced and by what
abbrev entry : Bool → Bytes → ℕ
entry q w = elim q [ true ↦ standing w | false ↦ 256 ]

-- the same by the first of the bytes that are replaced
module _ (b : ℕ) (bs : Bytes) (x : ℕ) where
  among : (q : Bool) → eqb b x ≡ q → is_among x (b ∷ bs) ≡ elim q [ true ↦ true | false ↦ is_among x bs ]
  unfolding is_among
  among q w = rw (← w)

  partnered : (y : ℕ) (ys : Bytes) (q : Bool) → eqb b x ≡ q → partner (b ∷ bs) (y ∷ ys) x ≡ elim q [ true ↦ y ∷ [] | false ↦ partner bs ys x ]
  unfolding partner
  partnered y ys q w = rw (← w)

  deleted : (q : Bool) → eqb b x ≡ q → partner (b ∷ bs) [] x ≡ elim q [ true ↦ [] | false ↦ partner bs [] x ]
  unfolding partner
  deleted q w = rw (← w)

  pub entry_on : (y : ℕ) (ys : Bytes) (q : Bool) → eqb b x ≡ q → entry_of (b ∷ bs) (y ∷ ys) x ≡ elim q [ true ↦ y | false ↦ entry_of bs ys x ]
  unfolding entry_of standing
  entry_on y ys true w = ap₂ entry (among true w) (partnered y ys true w)
  entry_on y ys false w = ap₂ entry (among false w) (partnered y ys false w)

  pub entry_off : (q : Bool) → eqb b x ≡ q → entry_of (b ∷ bs) [] x ≡ elim q [ true ↦ 257 | false ↦ entry_of bs [] x ]
  unfolding entry_of standing
  entry_off true w = ap₂ entry (among true w) (deleted true w)
  entry_off false w = ap₂ entry (among false w) (deleted false w)

-- an entry of the table, and its length
entries_long : (bs ys : Bytes) (x n : ℕ) → length (entries bs ys x n) ≡ n
unfolding entries
entries_long bs ys x zero = refl
entries_long bs ys x (suc n) = ap suc (entries_long bs ys (suc x) n)

entries_at : (bs ys : Bytes) (x n i d : ℕ) → i < n → get_or (entries bs ys x n) i d ≡ entry_of bs ys (x + i)
unfolding entries
entries_at bs ys x zero i d h = absurd (omega arith)
entries_at bs ys x (suc n) zero d h = let e : x ≡ x + 0 = omega arith in ap (entry_of bs ys) e
entries_at bs ys x (suc n) (suc i) d h = let e : suc x + i ≡ x + suc i = omega arith in entries_at bs ys (suc x) n i d (omega arith) ∙ ap (entry_of bs ys) e

pub table_long : (bs ys : Bytes) → length (partner_table bs ys) ≡ 256
unfolding partner_table
table_long bs ys = entries_long bs ys 0 256

pub table_at : (bs ys : Bytes) (x d : ℕ) → x < 256 → get_or (partner_table bs ys) x d ≡ entry_of bs ys x
unfolding partner_table
table_at bs ys x d h = let e : 0 + x ≡ x = omega arith in entries_at bs ys 0 256 x d h ∙ ap (entry_of bs ys) e

-- an entry puts what the rules do
entry_puts : (bs ys : Bytes) (x : ℕ) → ((i : ℕ) → get_or ys i 0 < 256) → entry_for x (entry_of bs ys x) ≡ partner bs ys x
unfolding entry_for entry_of is_among partner
entry_puts [] ys x h = refl
entry_puts (b ∷ bs) [] x h = go (eqb b x) refl (entry_puts bs [] x h)
  where
    go : (q : Bool) → eqb b x ≡ q → entry_for x (entry_of bs [] x) ≡ partner bs [] x → entry_for x (entry_of (b ∷ bs) [] x) ≡ partner (b ∷ bs) [] x
    go true w e = ap (entry_for x) (entry_off b bs x true w) ∙ sym (deleted b bs x true w)
    go false w e = ap (entry_for x) (entry_off b bs x false w) ∙ e ∙ sym (deleted b bs x false w)
entry_puts (b ∷ bs) (y ∷ ys) x h = go (eqb b x) refl (entry_puts bs ys x (λ i. h (suc i)))
  where
    go : (q : Bool) → eqb b x ≡ q → entry_for x (entry_of bs ys x) ≡ partner bs ys x → entry_for x (entry_of (b ∷ bs) (y ∷ ys) x) ≡ partner (b ∷ bs) (y ∷ ys) x
    go true w e = ap (entry_for x) (entry_on b bs x y ys true w) ∙ entry_byte x y (h 0) ∙ sym (partnered b bs x y ys true w)
    go false w e = ap (entry_for x) (entry_on b bs x y ys false w) ∙ e ∙ sym (partnered b bs x y ys false w)

-- what is no byte has no partner
none_there : (bs ys : Bytes) (x : ℕ) → ((i : ℕ) → get_or bs i 0 < 256) → 256 ≤ x → partner bs ys x ≡ x ∷ []
unfolding partner
none_there [] ys x h k = refl
none_there (b ∷ bs) [] x h k = let f = h 0 in deleted b bs x false (ne_eqb b x (omega arith)) ∙ none_there bs [] x (λ i. h (suc i)) k
none_there (b ∷ bs) (y ∷ ys) x h k = let f = h 0 in partnered b bs x y ys false (ne_eqb b x (omega arith)) ∙ none_there bs ys x (λ i. h (suc i)) k

-- what a table puts for a byte, and for what is none
pub put_byte : (t : Bytes) (x : ℕ) → x < 256 → put_by t x ≡ entry_for x (get_or t x 0)
unfolding put_by
put_byte t x h = rw (lt-ltb x 256 h, put_by)

put_other : (t : Bytes) (x : ℕ) → 256 ≤ x → put_by t x ≡ x ∷ []
unfolding put_by
put_other t x h = rw (le-ltb x 256 h, put_by)

module _ (bs ys : Bytes) (hb : (i : ℕ) → get_or bs i 0 < 256) (hy : (i : ℕ) → get_or ys i 0 < 256) where
  table_stands : (x : ℕ) → put_by (partner_table bs ys) x ≡ partner bs ys x
  table_stands x = go (ltb x 256) refl
    where
      go : (q : Bool) → ltb x 256 ≡ q → put_by (partner_table bs ys) x ≡ partner bs ys x
      go true w = let h = ltb-true x 256 w in put_byte (partner_table bs ys) x h ∙ ap (entry_for x) (table_at bs ys x 0 h) ∙ entry_puts bs ys x hy
      go false w = let h = ltb-false x 256 w in put_other (partner_table bs ys) x h ∙ sym (none_there bs ys x hb h)

  pub table_puts : (s : Bytes) → replaced (partner_table bs ys) s ≡ transliterated bs ys s
  unfolding replaced transliterated
  table_puts [] = refl
  table_puts (x ∷ xs) = ap₂ ◌++◌ (table_stands x) (table_puts xs)

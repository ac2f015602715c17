-- Laws of the loops that make the table of partners, and measure and write the text replaced by a table. Assumes nothing.
use Rattle.rules.proofs.Base.{◌≤◌, ◌+◌, ℕ, ◌-◌, ◌<◌, suc, ◌∙◌, refl, sym, ap, ◌≡◌, subst, ap₂, true, Bool, false, List, [], ◌++◌, ◌∷◌, append-nil, add-one, arith, eqb, ltb, ltb-true, ltb-false, length, drop, take, get_or, length-append, set, drop_of_length-le, length-set, replicate, take-append-drop, get_or-replicate, length-take-le, drop-cons, drop-drop, take_all, take-suc-set, get_or-set_same, get_or-set_other, drop-set-lt, take-append_seam, ext_get_or, append_snoc, ne_eqb, eqb-true, eqb-false}
use Rattle.rules.specs.Bytes.{Bytes}
use Rattle.std.specs.Prelude.{cond}
use Rattle.std.specs.List.{count_by}
use Rattle.std.proofs.lemmas.List.Sums.{sum_by-cons}
use Rattle.matching.specs.Partners.{put_by, is_among, entry_of, partner_table, entry_for, replaced, Fitted}
use Rattle.matching.proofs.Partners.{entry_none, entry_one, entry_on, entry_off, table_long, table_at, put_byte}

-- ---- the table

-- it has the entries of the bytes from i on
pub record Entering (bs ys : Bytes) (t : List ℕ) (i : ℕ) : Type 0 where
  pub within : i ≤ length bs
  pub long : length t ≡ 256
  pub entered : (x : ℕ) → x < 256 → get_or t x 0 ≡ entry_of (drop i bs) (drop i ys) x

pub enter_start : (bs ys : Bytes) → Entering bs ys (replicate 256 256) (length bs)
unfolding entry_of is_among
enter_start bs ys =
    let e : drop (length bs) bs ≡ [] = drop_of_length-le bs {i = length bs} (omega arith) in
    record { within = omega arith; long = refl; entered = rw e (λ x k. get_or-replicate 256 x 256 0 k) }

pub enter_done : {bs ys : Bytes} {t : List ℕ} {i : ℕ} → Entering bs ys t i → i ≤ 0 → t ≡ partner_table bs ys
enter_done {bs} {ys} {t} {i} w h =
    let e : i ≡ 0 = omega arith in
    let all : (x : ℕ) → x < 256 → get_or t x 0 ≡ entry_of bs ys x = rw e at w.entered in
    ext_get_or 0 t (partner_table bs ys) (w.long ∙ sym (table_long bs ys)) (λ x k. all x (rw w.long at k) ∙ sym (table_at bs ys x 0 (rw w.long at k)))

-- the byte before the place n is entered, with a partner or without
module _ {bs ys : Bytes} {t : List ℕ} {n : ℕ} (w : Entering bs ys t n) (h : 0 < n) (k : get_or bs (n - 1) 0 < 256) where
  -- b is that byte, cs are those behind it, and zs are the partners from it on
  abbrev b : ℕ
  b = get_or bs (n - 1) 0

  abbrev cs : Bytes
  cs = drop n bs

  abbrev zs : Bytes
  zs = drop (n - 1) ys

  -- e is its entry; `later` are the partners behind it
  entered_at : (e : ℕ) {later : Bytes} → drop n ys ≡ later
      → ((x : ℕ) (q : Bool) → eqb b x ≡ q → entry_of (b ∷ cs) zs x ≡ elim q [ true ↦ e | false ↦ entry_of cs later x ])
      → Entering bs ys (set t b e) (n - 1)
  entered_at e {later} left entry =
      let i = w.within in
      let f : suc (n - 1) ≡ n = omega arith in
      let front : drop (n - 1) bs ≡ b ∷ cs = subst (λ (m : ℕ). drop (n - 1) bs ≡ b ∷ drop m bs) f (drop-cons bs (n - 1) 0 (omega arith)) in
      record { within = omega arith; long = length-set t b e ∙ w.long; entered = rw front (λ x l. read x l (eqb b x) refl) }
    where
      read : (x : ℕ) → x < 256 → (q : Bool) → eqb b x ≡ q → get_or (set t b e) x 0 ≡ entry_of (b ∷ cs) zs x
      read x l true q = ap (λ (m : ℕ). get_or (set t b e) m 0) (sym (eqb-true b x q)) ∙ get_or-set_same t b e 0 (rw w.long k) ∙ sym (entry x true q)
      read x l false q = get_or-set_other t b x e 0 (λ p. eqb-false b x q (sym p)) ∙ w.entered x l ∙ ap (λ (u : Bytes). entry_of cs u x) left ∙ sym (entry x false q)

  pub enter_byte : n - 1 < length ys → Entering bs ys (set t b (get_or ys (n - 1) 0)) (n - 1)
  enter_byte l =
      let f : suc (n - 1) ≡ n = omega arith in
      let front : zs ≡ get_or ys (n - 1) 0 ∷ drop n ys = subst (λ (m : ℕ). drop (n - 1) ys ≡ get_or ys (n - 1) 0 ∷ drop m ys) f (drop-cons ys (n - 1) 0 l) in
      entered_at (get_or ys (n - 1) 0) refl (rw front (λ x. entry_on b cs x _ _))

  pub enter_none : length ys ≤ n - 1 → Entering bs ys (set t b 257) (n - 1)
  enter_none l =
      let f : zs ≡ [] = drop_of_length-le ys l in
      let g : drop n ys ≡ [] = drop_of_length-le ys {i = n} (omega arith) in
      entered_at 257 g (rw f (λ x. entry_off b cs x))

-- ---- one byte of the text, at i

one_counted : (t : List ℕ) (x : ℕ) → x < 256 → cond (ltb (get_or t x 0) 257) 1 0 ≡ length (put_by t x)
one_counted t x h = go (ltb (get_or t x 0) 257) refl
  where
    go : (q : Bool) → ltb (get_or t x 0) 257 ≡ q → cond q 1 0 ≡ length (put_by t x)
    go true w = sym (ap length (put_byte t x h) ∙ entry_one x (get_or t x 0) (ltb-true (get_or t x 0) 257 w))
    go false w = sym (ap length (put_byte t x h ∙ entry_none x (get_or t x 0) (ltb-false (get_or t x 0) 257 w)))

module _ (t : List ℕ) (s : Bytes) (i : ℕ) where
  replaced_end : length s ≤ i → replaced t (drop i s) ≡ []
  unfolding replaced
  replaced_end h = rw (drop_of_length-le s h)

  module _ (h : i < length s) (l : get_or s i 0 < 256) where
    replaced_on : replaced t (drop i s) ≡ entry_for (get_or s i 0) (get_or t (get_or s i 0) 0) ++ replaced t (drop (i + 1) s)
    unfolding replaced
    replaced_on = rw (drop-cons s i 0 h, add-one i, put_byte t (get_or s i 0) l)

    replaced_off : 257 ≤ get_or t (get_or s i 0) 0 → replaced t (drop i s) ≡ replaced t (drop (i + 1) s)
    replaced_off k = rw (replaced_on, entry_none (get_or s i 0) _ k)

-- as many bytes stand for s as it has bytes that are not deleted
pub counted : (t : List ℕ) (s : Bytes) → ((i : ℕ) → get_or s i 0 < 256) → count_by (λ x. ltb (get_or t x 0) 257) s ≡ length (replaced t s)
unfolding replaced
counted t [] h = refl
counted t (x ∷ xs) h =
    let f = length-append (put_by t x) (replaced t xs) in
    let g = sum_by-cons (λ y. cond (ltb (get_or t y 0) 257) 1 0) x xs in
    let m = counted t xs (λ i. h (suc i)) in
    omega (arith, one_counted t x (h 0))

-- d has j bytes that stand for the first i bytes of s, and behind them what was there before
pub record Writing (t : List ℕ) (s before d : Bytes) (j i : ℕ) : Type 0 where
  pub within : i ≤ length s
  pub fitting : j ≤ length d
  pub long : length d ≡ length before
  pub behind : drop j d ≡ drop j before
  pub joined : take j d ++ replaced t (drop i s) ≡ replaced t s

module _ {t : List ℕ} {s before d : Bytes} {j i : ℕ} (w : Writing t s before d j i) where
  module _ (h : i < length s) (l : get_or s i 0 < 256) where
    -- v stands for the byte at i
    pub write_one : (v : ℕ) → entry_for (get_or s i 0) (get_or t (get_or s i 0) 0) ≡ v ∷ [] → j < length d → Writing t s before (set d j v) (j + 1) (i + 1)
    write_one v one k =
        let next : replaced t (drop i s) ≡ v ∷ replaced t (drop (i + 1) s) = replaced_on t s i h l ∙ ap (λ (q : Bytes). q ++ replaced t (drop (i + 1) s)) one in
        record {
          within = omega arith;
          fitting = rw (length-set d j v) (omega arith);
          long = length-set d j v ∙ w.long;
          behind = drop-set-lt (j + 1) d j v (omega arith) ∙ sym (drop-drop 1 j d) ∙ ap (drop 1) w.behind ∙ drop-drop 1 j before;
          joined = rw (add-one j, take-suc-set d j v k) (append_snoc (take j d) v _ ∙ sym (ap (λ (q : Bytes). take j d ++ q) next) ∙ w.joined);
        }

    pub write_none : 257 ≤ get_or t (get_or s i 0) 0 → Writing t s before d j (i + 1)
    write_none k =
        record { within = omega arith; fitting = w.fitting; long = w.long; behind = w.behind; joined = sym (ap (λ (q : Bytes). take j d ++ q) (replaced_off t s i h l k)) ∙ w.joined }

    -- there is no room for the byte
    pub written_full : get_or t (get_or s i 0) 0 < 257 → j ≡ length d → Fitted (replaced t s) before false d
    written_full k e =
        let more = replaced t (drop i s) in
        let Some : 1 ≤ length more = omega (arith, ap length (replaced_on t s i h l), length-append (entry_for (get_or s i 0) (get_or t (get_or s i 0) 0)) (replaced t (drop (i + 1) s)), entry_one (get_or s i 0) _ k) in
        let f : d ++ more ≡ replaced t s = ap (λ (q : Bytes). q ++ more) (sym (take_all j d (omega arith))) ∙ w.joined in
        let m : length before < length (replaced t s) = omega (arith, w.long, ap length f, length-append d more) in
        record {
          equal = sym (ne_eqb (length (replaced t s)) (length before) (λ q. omega arith));
          written = sym (ap₂ ◌++◌ (ap₂ take (sym w.long) (sym f) ∙ take-append_seam d more) (drop_of_length-le before {i = length (replaced t s)} (omega arith)) ∙ append-nil d);
        }

  pub written_end : length s ≤ i → Fitted (replaced t s) before (eqb j (length d)) d
  written_end h =
      let f : take j d ≡ replaced t s = sym (append-nil (take j d)) ∙ sym (ap (λ (q : Bytes). take j d ++ q) (replaced_end t s i h)) ∙ w.joined in
      let k : length (take j d) ≡ j = length-take-le j d w.fitting in
      let l : length (replaced t s) ≡ j = sym (ap length f) ∙ k in
      record {
        equal = ap₂ eqb (sym l) w.long;
        written = sym (ap₂ ◌++◌ (ap (take (length before)) (sym f) ∙ take_all (length before) (take j d) (omega (arith, w.fitting, w.long))) (ap (λ (n : ℕ). drop n before) l ∙ sym w.behind) ∙ take-append-drop j d);
      }

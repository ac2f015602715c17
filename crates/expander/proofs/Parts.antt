-- Laws of lists and of their parts, as slices are lent. Assumes nothing.
use Rattle.rules.proofs.Base.{◌≤◌, ◌+◌, ℕ, ◌-◌, ◌<◌, suc, zero, ◌∙◌, refl, sym, ap, ◌≡◌, ap₂, Bool, List, [], ◌++◌, ◌∷◌, append-nil, zero-add, add-one, arith, length, drop, take, get_or, set, paste-suc, take-length, length-drop, drop_of_length-le, length-take, replicate, take_all, drop-length, drop-drop, take-nil}
use Rattle.matching.specs.Partners.{Fitted}

-- the part of a slice from a place on
pub part_all : (s : List ℕ) (i : ℕ) → take (length s - i) (drop i s) ≡ drop i s
part_all s i = take_all (length s - i) (drop i s) (omega (arith, length-drop i s))

pub part_size : (s : List ℕ) (i : ℕ) → length (take (length s - i) (drop i s)) ≡ length s - i
part_size s i = ap length (part_all s i) ∙ length-drop i s

-- the part from a up to e
pub part_long : (d : List ℕ) (a e : ℕ) → e ≤ length d → length (take (e - a) (drop a d)) ≡ e - a
part_long d a e h = omega (arith, length-take (e - a) (drop a d), length-drop a d)

-- the same, of the elements up to a place
pub drop-take : (m n : ℕ) (l : List ℕ) → drop m (take n l) ≡ take (n - m) (drop m l)
drop-take zero n l =
    let e : n ≡ n - 0 = omega arith in
    ap (λ (k : ℕ). take k l) e
drop-take (suc m) zero l =
    let e : 0 - suc m ≡ 0 = omega arith in
    rw e
drop-take (suc m) (suc n) [] = sym (take-nil (suc n - suc m))
drop-take (suc m) (suc n) (x ∷ l) =
    let e : n - m ≡ suc n - suc m = omega arith in
    drop-take m n l ∙ ap (λ (k : ℕ). take k (drop m l)) e

-- d has the first i bytes of s over its own; one more is stored, and then all are there
module _ (s before d : List ℕ) (i : ℕ) (e : d ≡ take i s ++ drop i before) where
  pub copied_on : i < length s → i < length before → set d i (get_or s i 0) ≡ take (i + 1) s ++ drop (i + 1) before
  copied_on h k = rw (e, add-one i) (simp zero-add at (paste-suc before 0 s i 0 (omega arith) h))

  pub copied_all : i ≡ length s → length s ≡ length before → d ≡ s
  copied_all h k = e ∙ rw (h, take-length s, k, drop-length before) (append-nil s)

-- a text, said otherwise, written into a slice of its length
pub fitted_whole : {w v before after : List ℕ} {r : Bool} → Fitted w before r after → w ≡ v → length v ≡ length before → after ≡ v
fitted_whole {w} {v} {before} f e h =
    let k : length w ≡ length before = ap length e ∙ h in
    f.written ∙ ap₂ ◌++◌ (take_all (length before) w (omega arith)) (drop_of_length-le before {i = length w} (omega arith)) ∙ append-nil w ∙ e

-- nothing is in it
pub empty_of : {A : Type 0} (l : List A) → length l ≡ 0 → l ≡ []
empty_of [] h = refl
empty_of (x ∷ l) h = absurd (omega arith)

-- zeros all over b
pub all_zero : (b d : List ℕ) (i : ℕ) → d ≡ replicate i 0 ++ drop i b → i ≡ length b → d ≡ replicate (length b) 0
all_zero b d i e h = e ∙ rw (h, drop-length b) (append-nil (replicate (length b) 0))

-- two lists that are the same from a place on are so from a later one
pub drop_later : (m n : ℕ) (a b : List ℕ) → m ≤ n → drop m a ≡ drop m b → drop n a ≡ drop n b
drop_later m n a b le e =
    let f : m + (n - m) ≡ n = omega arith in
    ap (λ (i : ℕ). drop i a) (sym f) ∙ sym (drop-drop (n - m) m a) ∙ ap (drop (n - m)) e ∙ drop-drop (n - m) m b ∙ ap (λ (i : ℕ). drop i b) f

pub kept_two : (a b c : List ℕ) (n m : ℕ) → m ≡ n + 1 → drop (m + 1) c ≡ drop (m + 1) b → drop (n + 1) b ≡ drop (n + 1) a → drop (n + 2) c ≡ drop (n + 2) a
kept_two a b c n m e f g = drop_later (m + 1) (n + 2) c b (omega arith) f ∙ drop_later (n + 1) (n + 2) b a (omega arith) g

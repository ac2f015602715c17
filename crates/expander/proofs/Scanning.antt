-- Laws of names that are scanned: where a name in two slices ends, its hash, and of which token a hash was taken. Assumes nothing.
use Rattle.rules.proofs.Base.{◌≤◌, ◌+◌, ℕ, ◌<◌, ◌∙◌, refl, sym, ap, ◌≡◌, subst, true, Bool, false, true≢false, Some, None, Option, ◌⊎◌, inl, inr, [], ◌++◌, ◌∷◌, arith, length, drop, take, get_or, take-append-le, take-append-add, take_all}
use Rattle.rules.specs.declared.Token.{Token}
use Rattle.rules.specs.declared.Token.TheVariants as token
use Rattle.rules.specs.declared.Reading.{Reading}
use Rattle.rules.specs.declared.Reading.TheVariants.{Is, OpenQuote, OpenComment}
use Rattle.rules.proofs.Book.{book}
use Rattle.rules.specs.Bytes.{Bytes, same_bytes, begins_name, name_length}
use Rattle.rules.specs.Marks.{newline_mark}
use Rattle.rules.specs.Tokens.{QuoteEnd, closes_at, left_open, quote_end, first_place, comment_to_end, comment_read}
use Rattle.hashing.specs.declared.Scanned.{Scanned}
use Rattle.hashing.specs.Hashing.{hash_on, hashed, bucket_at, bucket_of, ScannedFrom}
use Rattle.hashing.proofs.Laws.{hashed-append, scan_on}
use Rattle.expander.specs.Tokens.{comment_from, closed_from, quoted_from, NameHashed}
use Rattle.expander.proofs.Parts.{empty_of}
use Rattle.expander.proofs.Prefixes.{name_within, name_front, name_over, begins_continues}

-- ---- a name in two slices

begins_some : (s : Bytes) → begins_name (get_or s 0 0) ≡ true → 0 < length s
unfolding book
begins_some [] e = absurd (true≢false (sym e))
begins_some (x ∷ xs) e = omega arith

-- a slice that was scanned from its second byte on
begun : (s : Bytes) {x : ℕ} {n : Scanned} → x ≡ get_or s 0 0 → begins_name x ≡ true → ScannedFrom s 1 (hash_on 0 x) n → ScannedFrom s 0 0 n
begun s {x} {n} e b h =
    let c : begins_name (get_or s 0 0) ≡ true = ap begins_name (sym e) ∙ b in
    scan_on s 0 0 (begins_some s c) (begins_continues (get_or s 0 0) c) (subst (λ (y : ℕ). ScannedFrom s 1 (hash_on 0 y) n) e h)

-- the slice s in which the name begins is the second where the first is empty, else the first
abbrev pub BeginsIn : Bytes → Bytes → Bytes → Type 0
BeginsIn f r s = ((length f ≡ 0) × (s ≡ r)) ⊎ ((length f ≡ 0 → ⊥) × (s ≡ f))

module _ (f r : Bytes) {s : Bytes} {x h : ℕ} {n : Scanned}
    (e : x ≡ get_or (f ++ r) 0 0) (b : begins_name x ≡ true) (i : BeginsIn f r s) (k : h ≡ hash_on 0 x) (g : ScannedFrom s 1 h n) where
  -- the slice by itself
  alone : ScannedFrom s 0 0 n
  alone = begun s (e ∙ first i) b (subst (λ (y : ℕ). ScannedFrom s 1 y n) k g)
    where
      first_front : (f : Bytes) → (length f ≡ 0 → ⊥) → get_or (f ++ r) 0 0 ≡ get_or f 0 0
      first_front [] z = absurd (z refl)
      first_front (y ∷ ys) z = refl

      first : BeginsIn f r s → get_or (f ++ r) 0 0 ≡ get_or s 0 0
      first (inl w) = ap (λ (l : Bytes). get_or (l ++ r) 0 0) (empty_of f w.0) ∙ ap (λ (l : Bytes). get_or l 0 0) (sym w.1)
      first (inr w) = first_front f w.0 ∙ ap (λ (l : Bytes). get_or l 0 0) (sym w.1)

  -- the first is empty
  pub scan_rest : length f ≡ 0 → ScannedFrom (f ++ r) 0 0 n
  scan_rest z = go i
    where
      go : BeginsIn f r s → ScannedFrom (f ++ r) 0 0 n
      go (inl w) = subst (λ (l : Bytes). ScannedFrom l 0 0 n) (w.1 ∙ sym (ap (λ (l : Bytes). l ++ r) (empty_of f z))) alone
      go (inr w) = absurd (w.0 z)

  in_front_lem : (length f ≡ 0 → ⊥) → ScannedFrom f 0 0 n
  in_front_lem z = go i
    where
      go : BeginsIn f r s → ScannedFrom f 0 0 n
      go (inl w) = absurd (z w.0)
      go (inr w) = subst (λ (l : Bytes). ScannedFrom l 0 0 n) w.1 alone

  long : (length f ≡ 0 → ⊥) → length s ≡ length f
  long z = go i
    where
      go : BeginsIn f r s → length s ≡ length f
      go (inl w) = absurd (z w.0)
      go (inr w) = ap length w.1

  -- the name ends in its slice
  pub scan_one : n.end < length s → ScannedFrom (f ++ r) 0 0 n
  scan_one l = go i
    where
      front : ScannedFrom f 0 0 n → n.end < length f → ScannedFrom (f ++ r) 0 0 n
      front t l =
          let q : name_length f ≡ name_length (f ++ r) = name_front f r (name_length f) refl (omega (arith, t.end_is)) in
          record {
            end_is = t.end_is ∙ omega (arith, q);
            hash_is = t.hash_is ∙ ap (hashed 0) (sym (take-append-le (name_length f) f r (name_within f)) ∙ ap (λ (m : ℕ). take m (f ++ r)) q);
          }

      go : BeginsIn f r s → ScannedFrom (f ++ r) 0 0 n
      go (inl w) = scan_rest w.0
      go (inr w) = front (in_front_lem w.0) (omega (arith, long w.0))

  module _ (z : length f ≡ 0 → ⊥) where
    front_long : n.end ≡ name_length f
    front_long = omega (arith, (in_front_lem z).end_is)

    pub front_within : n.end ≤ length f
    front_within = omega (arith, front_long, name_within f)

    -- it reaches the end of the first, and goes on in the second
    pub scan_over : {v : Scanned} → length s ≤ n.end → ScannedFrom r 0 n.hash v → ScannedFrom (f ++ r) 0 0 (record { end = n.end + v.end; hash = v.hash })
    scan_over {v} l t =
        let u : name_length f ≡ length f = omega (arith, front_long, name_within f, long z) in
        let j : name_length f + name_length r ≡ name_length (f ++ r) = name_over f r (name_length f) refl (name_length r) refl (omega (arith, u)) in
        let w : take (name_length (f ++ r)) (f ++ r) ≡ f ++ take (name_length r) r =
        ap (λ (m : ℕ). take m (f ++ r)) (sym j ∙ ap (λ (m : ℕ). m + name_length r) u) ∙ take-append-add f r (name_length r) in
        let y : n.hash ≡ hashed 0 f = (in_front_lem z).hash_is ∙ ap (hashed 0) (take_all (name_length f) f (omega (arith, u))) in
        record {
          end_is = omega (arith, front_long, t.end_is, j);
          hash_is = t.hash_is ∙ ap (λ (m : ℕ). hashed m (take (name_length r) r)) y ∙ sym (hashed-append 0 f (take (name_length r) r)) ∙ ap (hashed 0) (sym w);
        }

pub rest_within : (r : Bytes) {h : ℕ} {v : Scanned} → ScannedFrom r 0 h v → v.end ≤ length r
rest_within r t = omega (arith, t.end_is, name_within r)

-- length and hash of what was scanned
module _ (text : Bytes) {n : Scanned} (t : ScannedFrom text 0 0 n) where
  pub scanned_long : n.end ≡ name_length text
  scanned_long = omega (arith, t.end_is)

  pub scanned_hash : n.hash ≡ hashed 0 (take n.end text)
  scanned_hash = t.hash_is ∙ ap (λ (i : ℕ). hashed 0 (take i text)) (sym scanned_long)

-- ---- the hash of a token

abbrev NoNameToken : Token → Type 0
NoNameToken token.End = Unit {0}
NoNameToken (token.Comment end) = Unit {0}
NoNameToken (token.Quoted begins ends end) = Unit {0}
NoNameToken (token.Name end) = ⊥
NoNameToken (token.Byte x) = Unit {0}

abbrev NoName : Reading → Type 0
NoName (Is t) = NoNameToken t
NoName (OpenQuote n) = Unit {0}
NoName OpenComment = Unit {0}

module _ (text : Bytes) (hash : ℕ) where
  pub no_name : {r : Reading} → NoName r → NameHashed text r hash
  no_name h = record { name = λ n q. absurd (subst NoName q h) }

  pub hashed_as : {r t : Reading} → r ≡ t → NoName t → NameHashed text r hash
  hashed_as e h = no_name (subst NoName (sym e) h)

  pub name_hashed : {n : ℕ} → hash ≡ hashed 0 (take n text) → NameHashed text (Is (token.Name n)) hash
  name_hashed {n} h = record { name = λ m q. h ∙ ap (λ (i : ℕ). hashed 0 (take i text)) (same n m q) }
    where
      same : (n m : ℕ) → Is (token.Name n) ≡ Is (token.Name m) → n ≡ m
      same n m q = cc

pub comment_no_name : (end text : Bytes) (i : ℕ) → NoName (comment_from end text i)
unfolding comment_from comment_read comment_to_end
comment_no_name end text i = go (first_place end (drop i text))
  where
    to_end : (t : Bool) → NoName (elim t [ true ↦ Is (token.Comment (length text)) | false ↦ OpenComment ])
    to_end true = tt
    to_end false = tt

    go : (o : Option ℕ) → NoName (comment_read end (length text) i o)
    go None = to_end (same_bytes end newline_mark)
    go (Some n) = tt

pub quoted_no_name : (begin end text : Bytes) → NoName (quoted_from begin end text 1 (length begin))
unfolding quoted_from closed_from
quoted_no_name begin end text = go (quote_end begin end 0 0 (drop (length begin) text))
  where
    go : (q : QuoteEnd) → NoName (closed_from (length begin) (length end) (length begin) q)
    go (left_open d) = tt
    go (closes_at n) = tt

-- ---- the bucket of a name, by its hash

pub bucket_of_hash : {hash bucket : ℕ} (w : Bytes) → hash ≡ hashed 0 w → bucket ≡ bucket_at hash → bucket ≡ bucket_of w
unfolding bucket_of
bucket_of_hash w h e = e ∙ ap bucket_at h

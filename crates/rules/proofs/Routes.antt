-- The routes of the numbers along a history that does not end: each number stands once, in the stream where its route ends, and those of one route stand in
-- order.
use Rattle.rules.proofs.Base.{◌≤◌, ◌<◌, ◌+◌, ℕ, ◌∙◌, refl, sym, ◌≡◌, subst, true, Bool, false, true≢false, cond, ◌&&◌, List, [], ◌++◌, ◌∷◌, add-zero, arith, leb, ltb, pos, ℤ, negsuc, length, ne_eqb, eqb-true, le-leb, lt-leb, le-ltb, dec_le}
use Rattle.rules.specs.Streams.{Streams, is_current, diverted, Change, diverts, changed}
use Rattle.rules.specs.History.{first_placed, current_after, Tally, tallied, numbered_change, takes, target, gives, route_after, stands_in, occurrences}
use Rattle.rules.proofs.StreamLaws.{stream_in, diverted_stream}
use Rattle.rules.proofs.Occurrences.{All, all_occurring, Ordered}

abbrev pub Routes : Type 0
Routes = ℕ → List ℤ

-- of two with one route the smaller stands first
abbrev pub Before : Routes → ℕ → ℕ → Type 0
Before r j k = r j ≡ r k → j < k

-- what holds of the numbered streams after a history: t is how far it has come, u the streams, r the route of each number
pub record Kept (t : Tally) (u : Streams) (r : Routes) : Type 0 where
  pub nine : length u.waiting ≡ 9
  pub current : u.current ≡ t.current
  -- a number stands once, in the stream where its route ends
  pub counts : (n k : ℕ) → n ≤ 9 → occurrences k (stream_in n u) ≡ cond (stands_in n (r k)) 1 0
  -- those that are given have a route
  pub fresh : (k : ℕ) → t.given ≤ k → r k ≡ []
  pub placed : (k : ℕ) → k < t.given → r k ≡ [] → ⊥
  -- one that is further on the same route is smaller
  pub ahead : (j k : ℕ) (p : ℤ) (ps : List ℤ) → (r k ≡ [] → ⊥) → r j ≡ p ∷ (ps ++ r k) → j < k
  pub order : (n : ℕ) → n ≤ 9 → Ordered (Before r) (stream_in n u)

-- ---- nothing moves and none is given

-- the same routes and the same ten streams
module _ {t : Tally} {u : Streams} {r : Routes} (kept : Kept t u r) where
  pub same_streams :
      (t' : Tally) (u' : Streams) (r' : Routes) → t'.given ≡ t.given → length u'.waiting ≡ 9 → u'.current ≡ t'.current
      → ((n : ℕ) → stream_in n u' ≡ stream_in n u) → r' ≡ r → Kept t' u' r'
  same_streams t' u' r' g nine current streams routes =
      subst (Kept t' u') (sym routes)
      (record {
        nine = nine;
        current = current;
        counts = λ n k l. rw (streams n) (kept.counts n k l);
        fresh = λ k l. kept.fresh k (omega arith);
        placed = λ k l. kept.placed k (omega arith);
        ahead = kept.ahead;
        order = λ n l. rw (streams n) (kept.order n l);
      })

  -- a member of a stream has a route that ends there
  pub members : (n : ℕ) → n ≤ 9 → All (λ k. stands_in n (r k) ≡ true) (stream_in n u)
  members n l = all_occurring (stream_in n u) (λ k h. go k (stands_in n (r k)) refl (omega (arith, kept.counts n k l)))
    where
      go : (k : ℕ) (b : Bool) → stands_in n (r k) ≡ b → 1 ≤ cond (stands_in n (r k)) 1 0 → stands_in n (r k) ≡ true
      go k true e h = e
      go k false e h = absurd (omega (arith, subst (λ (b : Bool). 1 ≤ cond b 1 0) e h))

-- ---- routes

pub stands_somewhere : (n : ℕ) (r : List ℤ) → stands_in n r ≡ true → r ≡ [] → ⊥
unfolding stands_in
stands_somewhere n [] e q = true≢false (sym e)
stands_somewhere n (p ∷ ps) e q = let z : ◌≡◌ {A = ℕ} 0 1 = cc in absurd (omega arith)

pub stands_alone : (n m : ℕ) (r : List ℤ) → stands_in n r ≡ true → (m ≡ n → ⊥) → stands_in m r ≡ false
unfolding stands_in is_current
stands_alone n m [] e d = refl
stands_alone n m (pos k ∷ ps) e d = ne_eqb m k (λ q. d (q ∙ sym (eqb-true n k e)))
stands_alone n m (negsuc k ∷ ps) e d = refl

-- a change gives it or not, moves it or leaves it
module _ (k : ℕ) (x : Change) (t : Tally) where
  pub first_route : gives k x t ≡ true → route_after k x t [] ≡ t.current ∷ []
  unfolding route_after
  first_route e = rw e

  pub no_route : gives k x t ≡ false → route_after k x t [] ≡ []
  unfolding route_after
  no_route e = rw e

  pub route_on : (p : ℤ) (ps : List ℤ) → takes x t.current p ≡ true → route_after k x t (p ∷ ps) ≡ target x t.current ∷ p ∷ ps
  unfolding route_after
  route_on p ps e = rw e

  pub route_left : (p : ℤ) (ps : List ℤ) → takes x t.current p ≡ false → route_after k x t (p ∷ ps) ≡ p ∷ ps
  unfolding route_after
  route_left p ps e = rw e

pub and_false : (b : Bool) → b && false ≡ false
and_false true = refl
and_false false = refl

-- a change that places nothing gives no number
gives_none : (k : ℕ) (x : Change) (t : Tally) → first_placed x t.current ≡ [] → gives k x t ≡ false
unfolding gives tallied
gives_none k x t e = rw e (go (dec_le t.given k))
  where
    go : Dec (t.given ≤ k) → leb t.given k && ltb k (t.given + 0) ≡ false
    go (yes p) = rw (le-leb t.given k p, le-ltb k (t.given + 0) (omega arith))
    go (no q) = rw (lt-leb t.given k (omega arith))

pub route_none : (k : ℕ) (x : Change) (t : Tally) → first_placed x t.current ≡ [] → route_after k x t [] ≡ []
route_none k x t e = no_route k x t (gives_none k x t e)

-- one that moves nothing either leaves each route
pub route_still : (k : ℕ) (x : Change) (t : Tally) (ps : List ℤ) → first_placed x t.current ≡ [] → ((p : ℤ) → takes x t.current p ≡ false) → route_after k x t ps ≡ ps
route_still k x t [] e h = route_none k x t e
route_still k x t (p ∷ ps) e h = route_left k x t p ps (h p)

pub empty_behind : (ps r : List ℤ) → [] ≡ ps ++ r → r ≡ []
empty_behind [] r e = sym e
empty_behind (p ∷ ps) r e = cc

-- ---- another stream becomes the current one

module _ (n : ℤ) {t : Tally} {u : Streams} {r : Routes} (kept : Kept t u r) where
  pub keeps_diverted : Kept (tallied (diverts n) t) (changed (numbered_change (diverts n) t) u) (λ k. route_after k (diverts n) t (r k))
  unfolding tallied first_placed current_after changed numbered_change diverted takes
  keeps_diverted =
      same_streams kept (tallied (diverts n) t) (diverted n u) _ (add-zero t.given) kept.nine refl (diverted_stream n u) (λ i k. route_still k (diverts n) t (r k) refl (λ p. refl) i)

-- The classes of bytes: what each test of a byte is by its own ranges, what class each range has, and the bytes of each class. Assumes nothing.
use Prim.Native.Nat.{ℕ, zero, suc, ◌≤◌, ◌<◌}
use native.Mathlib.Omega.{arith}
use mathlib.Core.Path.{◌≡◌, refl, sym, ap₂, ◌∙◌}
use mathlib.Core.List.{[], ◌∷◌}
use mathlib.Core.Bool.{Bool, true, false, true≢false, cond, ◌&&◌, ◌||◌}
use lib.Dec.{leb}
use lib.ListN.{length}
use borrow.Author.Tests.{le-leb, leb-true}
use Rattle.rules.specs.declared.Class.{Class}
use Rattle.rules.specs.declared.Class.TheVariants as class
use Rattle.rules.specs.Bytes.{Bytes, bytes_of, ranging, is_upper, is_lower, class_of, class_number, same_class, is_letter, is_digit, is_underscore, is_blank, begins_name, continues_name}
use Rattle.rules.proofs.Book.{book}

-- the bytes of a range
module _ (first final x : ℕ) where
  range_bounds : ranging first final x ≡ true → (first ≤ x) × (x ≤ final)
  unfolding ranging
  range_bounds e = go (leb first x) refl e
    where
      go : (t : Bool) → leb first x ≡ t → t && leb x final ≡ true → (first ≤ x) × (x ≤ final)
      go true f g = (leb-true first x f, leb-true x final g)
      go false f g = absurd (true≢false (sym g))

  pub in_range : first ≤ x → x ≤ final → ranging first final x ≡ true
  unfolding ranging
  in_range h k = rw (le-leb first x h, le-leb x final k)

  pub off_range : (first ≤ x → x ≤ final → ⊥) → ranging first final x ≡ false
  off_range h = go (ranging first final x) refl
    where
      go : (t : Bool) → ranging first final x ≡ t → t ≡ false
      go true e = absurd (h (range_bounds e).0 (range_bounds e).1)
      go false e = refl

-- the tests in turn: what each says is its class, if no test before it holds of the same byte
abbrev told : Bool → Bool → Bool → Bool → Class
told l d u b = cond l class.Letter (cond d class.Digit (cond u class.Underscore (cond b class.Blank class.Other)))

letter_told : (l d u b : Bool) → same_class (told l d u b) class.Letter ≡ l
unfolding same_class class_number
letter_told true d u b = refl
letter_told false true u b = refl
letter_told false false true b = refl
letter_told false false false true = refl
letter_told false false false false = refl

digit_told : (l d u b : Bool) → (d ≡ true → l ≡ false) → same_class (told l d u b) class.Digit ≡ d
unfolding same_class class_number
digit_told true true u b h = sym (h refl)
digit_told true false u b h = refl
digit_told false true u b h = refl
digit_told false false true b h = refl
digit_told false false false true h = refl
digit_told false false false false h = refl

underscore_told : (l d u b : Bool) → (u ≡ true → (l ≡ false) × (d ≡ false)) → same_class (told l d u b) class.Underscore ≡ u
unfolding same_class class_number
underscore_told true d true b h = sym (h refl).0
underscore_told true d false b h = refl
underscore_told false true true b h = sym (h refl).1
underscore_told false true false b h = refl
underscore_told false false true b h = refl
underscore_told false false false true h = refl
underscore_told false false false false h = refl

blank_told : (l d u b : Bool) → (b ≡ true → (l ≡ false) × (d ≡ false) × (u ≡ false)) → same_class (told l d u b) class.Blank ≡ b
unfolding same_class class_number
blank_told true d u true h = sym (h refl).0
blank_told true d u false h = refl
blank_told false true u true h = sym (h refl).1
blank_told false true u false h = refl
blank_told false false true true h = sym (h refl).2
blank_told false false true false h = refl
blank_told false false false true h = refl
blank_told false false false false h = refl

module _ (x : ℕ) where
  abbrev digits : Bool
  digits = ranging 48 57 x

  abbrev underscores : Bool
  underscores = ranging 95 95 x

  abbrev blanks : Bool
  blanks = ranging 9 10 x || ranging 32 32 x

  no_letter : (65 ≤ x → x ≤ 90 → ⊥) → (97 ≤ x → x ≤ 122 → ⊥) → is_upper x || is_lower x ≡ false
  unfolding is_upper is_lower
  no_letter h k = ap₂ ◌||◌ (off_range 65 90 x h) (off_range 97 122 x k)

  -- a space, tab or newline
  blank_low : blanks ≡ true → x ≤ 32
  blank_low = go (ranging 9 10 x) refl
    where
      go : (t : Bool) → ranging 9 10 x ≡ t → t || ranging 32 32 x ≡ true → x ≤ 32
      go true e f = omega (arith, (range_bounds 9 10 x e).1)
      go false e f = (range_bounds 32 32 x f).1

  -- what each test of a byte was before there were classes
  letter_is : is_letter x ≡ ranging 65 90 x || ranging 97 122 x
  unfolding is_letter class_of is_upper is_lower
  letter_is = letter_told (is_upper x || is_lower x) digits underscores blanks

  digit_is : is_digit x ≡ ranging 48 57 x
  unfolding is_digit class_of
  digit_is =
      digit_told (is_upper x || is_lower x) digits underscores blanks
      (λ e. let h = range_bounds 48 57 x e in no_letter (λ a b. omega (arith, h.1)) (λ a b. omega (arith, h.1)))

  underscore_is : is_underscore x ≡ ranging 95 95 x
  unfolding is_underscore class_of
  underscore_is =
      underscore_told (is_upper x || is_lower x) digits underscores blanks
      (λ e. let h = range_bounds 95 95 x e in (no_letter (λ a b. omega (arith, h.0)) (λ a b. omega (arith, h.1)), off_range 48 57 x (λ a b. omega (arith, h.0))))

  blank_is : is_blank x ≡ ranging 9 10 x || ranging 32 32 x
  unfolding is_blank class_of
  blank_is =
      blank_told (is_upper x || is_lower x) digits underscores blanks
      (λ e.
      let h = blank_low e in
      (no_letter (λ a b. omega (arith, h)) (λ a b. omega (arith, h)), off_range 48 57 x (λ a b. omega (arith, h)), off_range 95 95 x (λ a b. omega (arith, h))))

  -- where a byte of a test lies
  pub digit_bounds : is_digit x ≡ true → (48 ≤ x) × (x ≤ 57)
  digit_bounds e = range_bounds 48 57 x (sym digit_is ∙ e)

  pub a_digit : 48 ≤ x → x ≤ 57 → is_digit x ≡ true
  a_digit h k = digit_is ∙ in_range 48 57 x h k

  pub no_digit : (48 ≤ x → x ≤ 57 → ⊥) → is_digit x ≡ false
  no_digit h = digit_is ∙ off_range 48 57 x h

  pub upper_bounds : is_upper x ≡ true → (65 ≤ x) × (x ≤ 90)
  unfolding is_upper
  upper_bounds e = range_bounds 65 90 x e

  pub lower_bounds : is_lower x ≡ true → (97 ≤ x) × (x ≤ 122)
  unfolding is_lower
  lower_bounds e = range_bounds 97 122 x e

  -- the class of what lies in a range, and of what lies in none
  pub class_upper : is_upper x ≡ true → class.Letter ≡ class_of x
  unfolding class_of
  class_upper e = rw e

  pub class_lower : is_upper x ≡ false → is_lower x ≡ true → class.Letter ≡ class_of x
  unfolding class_of
  class_lower e f = rw (e, f)

  pub class_digit : 48 ≤ x → x ≤ 57 → class.Digit ≡ class_of x
  unfolding class_of
  class_digit h k = rw (no_letter (λ a b. omega arith) (λ a b. omega arith), in_range 48 57 x h k)

  pub class_underscore : x ≡ 95 → class.Underscore ≡ class_of x
  unfolding class_of is_upper is_lower ranging
  class_underscore e = rw e

  -- below the digits there are blanks and others
  class_low : x < 48 → (b : Bool) → blanks ≡ b → cond b class.Blank class.Other ≡ class_of x
  unfolding class_of
  class_low h b e = rw (no_letter (λ a b. omega arith) (λ a b. omega arith), off_range 48 57 x (λ a b. omega arith), off_range 95 95 x (λ a b. omega arith), e)

  pub class_space : x ≡ 32 → class.Blank ≡ class_of x
  class_space e = class_low (omega arith) true (ap₂ ◌||◌ (off_range 9 10 x (λ a b. omega arith)) (in_range 32 32 x (omega arith) (omega arith)))

  -- a tab or a newline
  pub class_tab : 9 ≤ x → x ≤ 10 → class.Blank ≡ class_of x
  class_tab h k = class_low (omega arith) true (ap₂ ◌||◌ (in_range 9 10 x h k) (off_range 32 32 x (λ a b. omega arith)))

  pub class_below : x < 48 → (x ≡ 32 → ⊥) → (9 ≤ x → x ≤ 10 → ⊥) → class.Other ≡ class_of x
  class_below h n t = class_low h false (ap₂ ◌||◌ (off_range 9 10 x t) (off_range 32 32 x (λ a b. n (omega arith))))

  pub class_above : 57 < x → is_upper x ≡ false → is_lower x ≡ false → (x ≡ 95 → ⊥) → class.Other ≡ class_of x
  unfolding class_of
  class_above h u l n =
      rw (u, l, off_range 48 57 x (λ a b. omega arith), off_range 95 95 x (λ a b. n (omega arith)), off_range 9 10 x (λ a b. omega arith), off_range 32 32 x (λ a b. omega arith))

-- 02, request 5 "No answer changes, nor what is promised of it": each test is what it was before there were classes, with ranges of its own
pub record ByRanges (x : ℕ) : Type 0 where
  pub upper : is_upper x ≡ ranging 65 90 x
  pub lower : is_lower x ≡ ranging 97 122 x
  pub letter : is_letter x ≡ ranging 65 90 x || ranging 97 122 x
  pub digit : is_digit x ≡ ranging 48 57 x
  pub underscore : is_underscore x ≡ ranging 95 95 x
  pub blank : is_blank x ≡ ranging 9 10 x || ranging 32 32 x
  pub begins : begins_name x ≡ (ranging 65 90 x || ranging 97 122 x) || ranging 95 95 x
  pub continues : continues_name x ≡ ((ranging 65 90 x || ranging 97 122 x) || ranging 95 95 x) || ranging 48 57 x

pub by_ranges : (x : ℕ) → ByRanges x
unfolding is_upper is_lower begins_name continues_name
by_ranges x =
    record {
      upper = refl;
      lower = refl;
      letter = letter_is x;
      digit = digit_is x;
      underscore = underscore_is x;
      blank = blank_is x;
      begins = ap₂ ◌||◌ (letter_is x) (underscore_is x);
      continues = ap₂ ◌||◌ (ap₂ ◌||◌ (letter_is x) (underscore_is x)) (digit_is x);
    }

-- the bytes below n that pass a test, before more of them
unfoldable pub passing : (ℕ → Bool) → ℕ → Bytes → Bytes
passing p zero more = more
passing p (suc n) more = passing p n (cond (p n) (n ∷ more) more)

-- of the 256 bytes, those of each class
pub record Members : Type 0 where
  pub letters : passing is_letter 256 [] ≡ bytes_of "ABCDEFGHIJKLMNOPQRSTUVWXYZabcdefghijklmnopqrstuvwxyz"
  pub digits : passing is_digit 256 [] ≡ bytes_of "0123456789"
  pub underscores : passing is_underscore 256 [] ≡ bytes_of "_"
  pub blanks : passing is_blank 256 [] ≡ bytes_of "\t\n "
  pub others : length (passing (λ x. same_class (class_of x) class.Other) 256 []) ≡ 190

pub members : Members
unfolding passing book
members = record { letters = refl; digits = refl; underscores = refl; blanks = refl; others = refl }

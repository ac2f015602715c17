-- Bytes and their classes. Every rule that asks what kind a byte is asks here.
use Rattle.std.specs.Prelude.{ℕ, suc, Bool, true, false, cond, ◌&&◌, ◌||◌, List, [], ◌∷◌, leb, eqb}
use Prim.Native.Char.{code}
use Prim.Native.String.{String, [] as no_more, ◌∷◌ as ◌before◌}
use Rattle.rules.specs.declared.Class.{Class}
use Rattle.rules.specs.declared.Class.TheVariants as class

-- a text: its bytes, each a number below 256
abbrev pub Bytes : Type 0
Bytes = List ℕ

-- the bytes of a quoted text, for names and worked cases
unfoldable pub bytes_of : String → Bytes
bytes_of no_more = []
bytes_of (c before s) = code c ∷ bytes_of s

-- the bytes that open, separate and close a call's arguments
abbrev pub left_parenthesis : ℕ
left_parenthesis = code "("

abbrev pub comma : ℕ
comma = code ","

abbrev pub right_parenthesis : ℕ
right_parenthesis = code ")"

-- two texts are the same
unfoldable pub same_bytes : Bytes → Bytes → Bool
same_bytes [] [] = true
same_bytes [] (y ∷ ys) = false
same_bytes (x ∷ xs) [] = false
same_bytes (x ∷ xs) (y ∷ ys) = elim (eqb x y) [ true ↦ same_bytes xs ys | false ↦ false ]

-- the byte x is one from `first` to `final`
unfoldable pub ranging : ℕ → ℕ → ℕ → Bool
ranging first final x = leb first x && leb x final

-- the two cases of a letter, which only the worth of a digit in a radix tells apart
unfoldable pub is_upper : ℕ → Bool
is_upper x = ranging (code "A") (code "Z") x

unfoldable pub is_lower : ℕ → Bool
is_lower x = ranging (code "a") (code "z") x

-- 02, request 5 "Letters, digits, underscore and blanks (space, tab, newline) are to be told apart by ranges": the class of a byte; 01 "(ASCII only)".
-- No other page of the book has a range of bytes.
unfoldable pub class_of : ℕ → Class
class_of x =
    cond (is_upper x || is_lower x) class.Letter
    (cond (ranging (code "0") (code "9") x) class.Digit
    (cond (ranging (code "_") (code "_") x) class.Underscore
    (cond (ranging (code "\t") (code "\n") x || ranging (code " ") (code " ") x) class.Blank
    class.Other)))

-- a number for each class, by which two are compared
unfoldable pub class_number : Class → ℕ
class_number class.Letter = 0
class_number class.Digit = 1
class_number class.Underscore = 2
class_number class.Blank = 3
class_number class.Other = 4

unfoldable pub same_class : Class → Class → Bool
same_class a b = eqb (class_number a) (class_number b)

unfoldable pub is_letter : ℕ → Bool
is_letter x = same_class (class_of x) class.Letter

unfoldable pub is_digit : ℕ → Bool
is_digit x = same_class (class_of x) class.Digit

unfoldable pub is_underscore : ℕ → Bool
is_underscore x = same_class (class_of x) class.Underscore

-- a space, tab or newline
unfoldable pub is_blank : ℕ → Bool
is_blank x = same_class (class_of x) class.Blank

-- what a name begins with, and what goes on with it
unfoldable pub begins_name : ℕ → Bool
begins_name x = is_letter x || is_underscore x

unfoldable pub continues_name : ℕ → Bool
continues_name x = begins_name x || is_digit x

-- how many bytes at the front go on with a name
unfoldable pub name_length : Bytes → ℕ
name_length [] = 0
name_length (x ∷ xs) = elim (continues_name x) [ true ↦ suc (name_length xs) | false ↦ 0 ]

unfoldable pub all_continue : Bytes → Bool
all_continue [] = true
all_continue (x ∷ xs) = elim (continues_name x) [ true ↦ all_continue xs | false ↦ false ]

-- 01 "a letter or underscore, then all letters, digits and underscores that follow": the whole text is a name
unfoldable pub is_name : Bytes → Bool
is_name [] = false
is_name (x ∷ xs) = elim (begins_name x) [ true ↦ all_continue xs | false ↦ false ]

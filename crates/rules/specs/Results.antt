-- The macros that only give a result: the text that goes in front of the text ahead, or why the call is refused.
use Rattle.std.specs.Prelude.{ℕ, Bool, true, false, cond, ◌&&◌, List, [], ◌∷◌, ◌++◌, eqb, ℤ, pos, negsuc, length, take, drop, Option, None, Some, Ok, Err}
use Rattle.std.specs.Prelude as std
use Rattle.std.proofs.Math.IntN.{suc_ℤ, pred_ℤ}
use Rattle.std.specs.Int.Signed.{le_z}
use Rattle.rules.specs.declared.EvalError.{EvalError}
use Rattle.rules.specs.declared.EvalError.TheVariants as eval_error
use Rattle.rules.specs.Bytes.{Bytes, same_bytes}
use Rattle.rules.specs.Answers.{Fault, no_number, no_expression, divisor, no_text, no_item}
use Rattle.rules.specs.Marks.{MarkTexts, quoted}
use Rattle.rules.specs.Tokens.{first_place}
use Rattle.rules.specs.Words.{largest}
use Rattle.rules.specs.Numerals.{number, decimal, written_in}
use Rattle.rules.specs.Expression.{evaluation}
use Rattle.rules.specs.Sets.{Item, item_text}
use Rattle.rules.specs.Table.{text, predefined, Table, meaning_of, is_defined}
use Rattle.rules.specs.Arguments.{arg, number_or, bounded, commas, quoted_each}

pub data Result : Type 0 where
  yields : Bytes → Result
  fails : Fault → Result

-- a number is needed: refusal 7 where there is none
unfoldable pub needing : Option ℕ → (ℕ → Result) → Result
needing None f = fails no_number
needing (Some n) f = f n

-- 01 "within -2147483648 to 2147483647"
unfoldable pub is_number : ℤ → Bool
is_number z = le_z (negsuc largest) z && le_z z (pos largest)

-- 01 "Also 7: an incr or decr result outside that range"
unfoldable pub changed_number : (ℤ → ℤ) → Option ℤ → Result
changed_number f None = fails no_number
changed_number f (Some z) = elim (is_number (f z)) [ true ↦ yields (decimal (f z)) | false ↦ fails no_number ]

unfoldable pub decr_result : List Bytes → Result
decr_result args = changed_number pred_ℤ (number (arg 1 args))

unfoldable pub incr_result : List Bytes → Result
incr_result args = changed_number suc_ℤ (number (arg 1 args))

unfoldable pub in_front : Bytes → Result → Result
in_front w (yields v) = yields (w ++ v)
in_front w (fails f) = fails f

-- 01 "defn joins its arguments' texts, each in quote marks; unknown names give nothing"; refusal 11: a predefined meaning is in force
unfoldable pub defn_result : MarkTexts → Table → List Bytes → Result
defn_result m t [] = yields []
defn_result m t (w ∷ ws) =
    elim (meaning_of w t) [
      | None ↦ defn_result m t ws
      | Some (text x) ↦ in_front (quoted m x) (defn_result m t ws)
      | Some (predefined k) ↦ fails no_text
    ]

-- 004: the number of the current stream
unfoldable pub divnum_result : ℤ → Result
divnum_result current = yields (decimal current)

-- a value in a radix with a least count of digits
unfoldable pub shown_result : std.Result ℤ EvalError → ℕ → ℕ → Result
shown_result (Err eval_error.Unreadable) radix least = fails no_expression
shown_result (Err eval_error.Divisor) radix least = fails divisor
shown_result (Ok x) radix least = yields (written_in radix least x)

unfoldable pub is_unreadable : std.Result ℤ EvalError → Bool
is_unreadable (Err eval_error.Unreadable) = true
is_unreadable (Err eval_error.Divisor) = false
is_unreadable (Ok x) = false

-- 01 "eval in the order 8, radix, digits, 9"; "radix outside 2 to 36; negative minimum digits" are refused 7
unfoldable pub eval_result : List Bytes → Result
eval_result args =
    let v = evaluation (arg 1 args) in
    elim (is_unreadable v) [
      | true ↦ fails no_expression
      | false ↦
          needing (bounded 2 36 (number_or (pos 10) 2 args))
          (λ radix. needing (bounded 0 largest (number_or (pos 0) 3 args)) (λ least. shown_result v radix least))
    ]

-- 004: the second argument where the first is defined, else the third
unfoldable pub ifdef_result : Table → List Bytes → Result
ifdef_result t args = yields (cond (is_defined (arg 1 args) t) (arg 2 args) (arg 3 args))

-- 01 "ifelse: below three arguments null, then as 004 says"
unfoldable pub chosen : List Bytes → Bytes
chosen [] = []
chosen (a ∷ []) = []
chosen (a ∷ b ∷ []) = []
chosen (a ∷ b ∷ c ∷ []) = cond (same_bytes a b) c []
chosen (a ∷ b ∷ c ∷ d ∷ []) = cond (same_bytes a b) c d
chosen (a ∷ b ∷ c ∷ d ∷ e ∷ []) = cond (same_bytes a b) c d
chosen (a ∷ b ∷ c ∷ d ∷ e ∷ f ∷ more) = elim (same_bytes a b) [ true ↦ c | false ↦ chosen (d ∷ e ∷ f ∷ more) ]

unfoldable pub ifelse_result : List Bytes → Result
ifelse_result args = yields (chosen args)

-- 004: the place, from 0, or -1
unfoldable pub place_or : Option ℕ → ℤ
place_or None = negsuc 0
place_or (Some n) = pos n

-- 02, request 1: the contents of the item that the first argument names, or what an unknown name gives
unfoldable pub contents_or : Result → List Item → List Bytes → Result
contents_or unknown is args = elim (item_text (arg 1 args) is) [ None ↦ unknown | Some w ↦ yields w ]

-- "15 unknown include"
unfoldable pub include_result : List Item → List Bytes → Result
include_result is args = contents_or (fails no_item) is args

-- "an unknown name gives `sinclude` nothing"
unfoldable pub sinclude_result : List Item → List Bytes → Result
sinclude_result is args = contents_or (yields []) is args

-- 01 "index finds an empty string at 0"
unfoldable pub index_result : List Bytes → Result
index_result args = yields (decimal (place_or (first_place (arg 2 args) (arg 1 args))))

unfoldable pub len_result : List Bytes → Result
len_result args = yields (decimal (pos (length (arg 1 args))))

-- 01 "shift quotes each remaining argument, commas between (001)"
unfoldable pub shift_result : MarkTexts → List Bytes → Result
shift_result m args = yields (commas (quoted_each m (drop 1 args)))

-- as many bytes of a text as the first of these arguments says: 01 "only when absent: .. substr length to the end"
unfoldable pub shortened : List Bytes → Bytes → Result
shortened [] w = yields w
shortened (n ∷ more) w = needing (bounded 0 largest (number n)) (λ count. yields (take count w))

-- 01 "a negative substr start or length" is refused 7; 004: what starts behind the end is null
unfoldable pub substr_result : List Bytes → Result
substr_result args = needing (bounded 0 largest (number (arg 2 args))) (λ from. shortened (drop 2 args) (drop from (arg 1 args)))

-- what stands for a byte: 01 "translit deletes bytes whose partner is missing; of a repeated byte the first counts"
unfoldable pub partner : Bytes → Bytes → ℕ → Bytes
partner [] ys x = x ∷ []
partner (b ∷ bs) [] x = elim (eqb b x) [ true ↦ [] | false ↦ partner bs [] x ]
partner (b ∷ bs) (y ∷ ys) x = elim (eqb b x) [ true ↦ y ∷ [] | false ↦ partner bs ys x ]

unfoldable pub transliterated : Bytes → Bytes → Bytes → Bytes
transliterated bs ys [] = []
transliterated bs ys (x ∷ xs) = partner bs ys x ++ transliterated bs ys xs

unfoldable pub translit_result : List Bytes → Result
translit_result args = yields (transliterated (arg 2 args) (arg 3 args) (arg 1 args))

-- The index of lines: 02, request 6 "Which line is that?". What stands in the words and totals of a text, what the three functions answer of
-- any words and totals, and the same answers by counting through the text.
use Rattle.std.specs.Prelude.{ℕ, zero, suc, ◌+◌, ◌-◌, ◌*◌, ◌/◌, ◌%◌, ◌≡◌, Bool, cond, ◌&&◌, List, [], ◌∷◌, leb, ltb, eqb, length, take, drop, get_or, Option, None, Some, Result, Ok, Err}
use Prim.Native.Char.{code}
use Rattle.std.specs.Int.Count.{ones_in}
use Rattle.rules.specs.declared.IndexError.{IndexError}
use Rattle.rules.specs.declared.IndexError.TheVariants.{TooLong, Beyond, NoLine, NoRoom}
use Rattle.rules.specs.Bytes.{Bytes}
use Rattle.rules.specs.Places.{plus_one}
use Rattle.rules.specs.Run.{most_lent}
use Rattle.rules.specs.Contract.{fronted}

-- ---- the numbers of an answer

-- "Refusals: 30 text too long, 31 place beyond the end (the end itself is allowed), 32 no such line, 33 too little room lent for the text's words
-- and totals"; 0 for what is no refusal
unfoldable pub index_number : {T : Type 0} → Result T IndexError → ℕ
index_number (Ok x) = 0
index_number (Err TooLong) = 30
index_number (Err Beyond) = 31
index_number (Err NoLine) = 32
index_number (Err NoRoom) = 33

-- the number of what was found, as f tells it; 0 where nothing was
unfoldable pub index_value_by : {T : Type 0} → (T → ℕ) → Result T IndexError → ℕ
index_value_by f (Ok x) = f x
index_value_by f (Err e) = 0

-- the line, or the place where it starts; 0 where there is none
unfoldable pub index_value : Result ℕ IndexError → ℕ
index_value = index_value_by (λ n. n)

-- ---- the index of a text

-- "the length divided by 64, rounded down, plus one of them"
unfoldable pub word_count : ℕ → ℕ
word_count n = suc (n / 64)

-- 1 for a newline, 0 for any other byte
unfoldable pub newline_bit : ℕ → ℕ
newline_bit x = cond (eqb x (code "\n")) 1 0

-- how many newlines a text has
unfoldable pub newlines : Bytes → ℕ
newlines [] = 0
newlines (x ∷ xs) = newline_bit x + newlines xs

-- "one bit for each byte, least bit first, set at newlines"
unfoldable pub newline_bits : Bytes → ℕ
newline_bits [] = 0
newline_bits (x ∷ xs) = newline_bit x + newline_bits xs * 2

-- "in 64-bit words": the k-th word has the bits of the k-th 64 bytes
unfoldable pub word_at : Bytes → ℕ → ℕ
word_at text k = newline_bits (take 64 (drop (k * 64) text))

-- "with a 32-bit running total before each": the newlines before the k-th word's bytes
unfoldable pub total_at : Bytes → ℕ → ℕ
total_at text k = newlines (take (k * 64) text)

-- the values of f at the n numbers from k on
unfoldable pub each : (ℕ → ℕ) → ℕ → ℕ → List ℕ
each f k zero = []
each f k (suc n) = f k ∷ each f (suc k) n

-- all words of a text, and all totals
unfoldable pub words_of : Bytes → List ℕ
words_of text = each (word_at text) 0 (word_count (length text))

unfoldable pub totals_of : Bytes → List ℕ
totals_of text = each (total_at text) 0 (word_count (length text))

-- ---- what is refused

-- 33: "too little room lent for the text's words and totals", of a text of n bytes where so many of each are lent
unfoldable pub has_room : ℕ → ℕ → ℕ → Bool
has_room n words totals = leb (word_count n) words && leb (word_count n) totals

-- 30: "a text of at most 65,536 bytes"; "judged 30, 33, 31, 32": these two first, and then the answer a
unfoldable pub judged_index : {T : Type 0} → ℕ → List ℕ → List ℕ → Result T IndexError → Result T IndexError
judged_index n words totals a = cond (ltb most_lent n) (Err TooLong) (cond (has_room n (length words) (length totals)) a (Err NoRoom))

-- ---- building it

-- what building answers: only 30 and 33 refuse it
unfoldable pub building : Bytes → List ℕ → List ℕ → Result (Unit {0}) IndexError
building text words totals = judged_index (length text) words totals (Ok tt)

-- "Beyond its words and totals, or refused, nothing is written": what a lent slice holds afterwards
unfoldable pub held_by : Result (Unit {0}) IndexError → List ℕ → List ℕ → List ℕ
held_by a written lent = cond (eqb (index_number a) 0) (fronted written lent) lent

-- the index of a text is built: r is the answer, w and t what the lent words and totals then hold
pub record Indexed (text : Bytes) (words totals : List ℕ) (r : Result (Unit {0}) IndexError) (w t : List ℕ) : Type 0 where
  pub answer : r ≡ building text words totals
  pub words_are : w ≡ held_by r (words_of text) words
  pub totals_are : t ≡ held_by r (totals_of text) totals

-- ---- the line of a place

-- "one more than the newlines before it": "reads one total and counts the set bits below the place in one word"
unfoldable pub line_in : List ℕ → List ℕ → ℕ → ℕ
line_in words totals place = suc (get_or totals (place / 64) 0 + ones_in (place % 64) (get_or words (place / 64) 0))

-- 31: "place beyond the end (the end itself is allowed)"
unfoldable pub line_of : ℕ → List ℕ → List ℕ → ℕ → Result ℕ IndexError
line_of n words totals place = judged_index n words totals (cond (leb place n) (Ok (line_in words totals place)) (Err Beyond))

-- ---- the start of the n-th line

-- "the last word whose total is below n - 1": of the first k words the last whose total is below m
unfoldable pub last_below : ℕ → List ℕ → ℕ → Option ℕ
last_below m totals zero = None
last_below m totals (suc k) = cond (ltb (get_or totals k 0) m) (Some k) (last_below m totals k)

-- of a word's d least bits, the place of the set one that has `before` set ones below it
unfoldable pub select : ℕ → ℕ → ℕ → Option ℕ
select zero before word = None
select (suc d) before word =
    elim (word % 2) [
      | zero ↦ plus_one (select d before (word / 2))
      | suc b ↦ elim before [ zero ↦ Some 0 | suc m ↦ plus_one (select d m (word / 2)) ]
    ]

-- the line starts behind its newline in the k-th word; "or its bits run short"
unfoldable pub behind_bit : ℕ → Option ℕ → Result ℕ IndexError
behind_bit k None = Err NoLine
behind_bit k (Some i) = Ok (suc (k * 64 + i))

-- "refused 32 if there is no such word". The newline n - 1 has m = n - 2 others before it; those that the total counts stand before the word
unfoldable pub start_in_word : List ℕ → List ℕ → ℕ → Option ℕ → Result ℕ IndexError
start_in_word words totals m None = Err NoLine
start_in_word words totals m (Some k) = behind_bit k (select 64 (m - get_or totals k 0) (get_or words k 0))

-- "line 1 starts at 0, another is sought": the n-th line starts behind the newline n - 1. No total is below 0 - 1
unfoldable pub start_in : ℕ → List ℕ → List ℕ → ℕ → Result ℕ IndexError
start_in count words totals zero = Err NoLine
start_in count words totals (suc zero) = Ok 0
start_in count words totals (suc (suc m)) = start_in_word words totals m (last_below (suc m) totals count)

unfoldable pub start_of : ℕ → List ℕ → List ℕ → ℕ → Result ℕ IndexError
start_of n words totals line = judged_index n words totals (start_in (word_count n) words totals line)

-- ---- counting through the text

-- the line of a place: one more than the newlines before it
unfoldable pub counted_line : Bytes → ℕ → Result ℕ IndexError
counted_line text place = cond (leb place (length text)) (Ok (suc (newlines (take place text)))) (Err Beyond)

-- the place behind the newline that m others stand before
unfoldable pub behind_newline : ℕ → Bytes → Option ℕ
behind_newline m [] = None
behind_newline m (x ∷ xs) =
    elim (newline_bit x) [
      | zero ↦ plus_one (behind_newline m xs)
      | suc b ↦ elim m [ zero ↦ Some 1 | suc k ↦ plus_one (behind_newline k xs) ]
    ]

-- the line that starts there
unfoldable pub start_at : Option ℕ → Result ℕ IndexError
start_at None = Err NoLine
start_at (Some p) = Ok p

-- the n-th line starts behind the newline that n - 2 others stand before
unfoldable pub counted_start : Bytes → ℕ → Result ℕ IndexError
counted_start text zero = Err NoLine
counted_start text (suc zero) = Ok 0
counted_start text (suc (suc m)) = start_at (behind_newline m text)

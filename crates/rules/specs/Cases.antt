-- The worked texts that 01 marks P (every one and no other text), the four traps of the old box, and texts of 02's requests, as cases that
-- are computed.
use Rattle.std.specs.Prelude.{ℕ, suc, Bool, true, false, ◌&&◌, List, [], ◌∷◌, eqb}
use Prim.Native.String.{String}
use Rattle.rules.specs.Bytes.{bytes_of, same_bytes}
use Rattle.rules.specs.Answers.{answer_number, answer_detail}
use Rattle.rules.specs.Sets.{empty_set}
use Rattle.rules.specs.State.{fresh_start}
use Rattle.rules.specs.Run.{Setting, most_lent, Ended, run}
use Rattle.rules.specs.Contract.{output_of, errors_of}

-- what a worked text says: done with this output; that in so many steps; refused with this number; or number, detail, steps, place and
-- output. No worked text writes to the error text
pub data Expected : Type 0 where
  gives : String → Expected
  takes : String → ℕ → Expected
  refuses : ℕ → Expected
  answers : ℕ → ℕ → ℕ → ℕ → String → Expected

pub record Case : Type 0 where
  pub text : String
  pub setting : Setting
  pub expected : Expected

unfoldable pub writes : Ended → String → Bool
writes e output = same_bytes (output_of e) (bytes_of output) && same_bytes (errors_of e) []

unfoldable pub meets : Expected → Ended → Bool
meets (gives output) e = eqb (answer_number e.answer) 0 && writes e output
meets (takes output steps) e = eqb (answer_number e.answer) 0 && eqb e.steps steps && writes e output
meets (refuses number) e = eqb (answer_number e.answer) number && writes e ""
meets (answers number detail steps place output) e =
    eqb (answer_number e.answer) number
    && eqb (answer_detail e.answer) detail
    && eqb e.steps steps
    && eqb e.state.source.taken place
    && writes e output

unfoldable pub case_holds : Case → Bool
case_holds c = meets c.expected (run (fresh_start (bytes_of c.text) empty_set) c.setting)

-- the number, from n, of the first case that does not hold; 0: all hold
unfoldable pub first_wrong : ℕ → List Case → ℕ
first_wrong n [] = 0
first_wrong n (c ∷ cs) = elim (case_holds c) [ true ↦ first_wrong (suc n) cs | false ↦ n ]

-- 01 "Budget and room are ample unless said": those of the program `expand`
abbrev pub ample_budget : ℕ
ample_budget = 16777216

unfoldable pub budgeted : ℕ → Setting
budgeted n =
    record {
      pending = most_lent;
      calls = most_lent;
      definitions = most_lent;
      streams = most_lent;
      wrap = most_lent;
      errors = most_lent;
      output = most_lent;
      budget = n;
    }

unfoldable pub ample : Setting
ample = budgeted ample_budget

-- lengths of the buffers 1, 2, 3 and 7, the others 0, as the third case names them
unfoldable pub lending : ℕ → ℕ → ℕ → ℕ → Setting
lending pending calls definitions output =
    record {
      pending = pending;
      calls = calls;
      definitions = definitions;
      streams = 0;
      wrap = 0;
      errors = 0;
      output = output;
      budget = ample_budget;
    }

unfoldable pub case : String → Setting → Expected → Case
case text setting expected = record { text = text; setting = setting; expected = expected }

unfoldable pub third_text : String
third_text = "define(`n',`5')n"

-- 01's cases in its order. Two lines go beyond it: of the third text 01 says that it needs 2 and 1 bytes in buffers 3 and 7, and not what
-- is answered with one byte less there. Their steps and places (room 3 after 4 steps, room 7 after 6) were worked out by its rules
unfoldable pub worked_cases : List Case
worked_cases =
    case "" (budgeted 0) (answers 3 0 0 0 "")
    ∷ case "" (budgeted 1) (answers 0 0 1 0 "")
    ∷ case "`a `b' c'" ample (takes "a `b' c" 2)
    ∷ case third_text ample (answers 0 0 8 16 "5")
    ∷ case third_text (lending 1 8 2 1) (answers 0 0 8 16 "5")
    ∷ case third_text (lending 0 8 2 1) (answers 4 1 5 15 "")
    ∷ case third_text (lending 1 7 2 1) (answers 4 2 3 11 "")
    ∷ case third_text (lending 1 8 1 1) (answers 4 3 4 14 "")
    ∷ case third_text (lending 1 8 2 0) (answers 4 7 6 16 "")
    ∷ case "define(`f',`$#:$*')f f() f(a,b)" ample (gives "0: 1: 2:a,b")
    ∷ case "define(`N',`7')2N N2" ample (gives "27 N2")
    ∷ case "divert(2)b`'divert(1)a`'divert(0)c" ample (gives "cab")
    ∷ case "ifelse(`a',`b',`c',`d',`e')" ample (gives "d")
    ∷ case "shift(`a',`b',`c')" ample (gives "b,c")
    ∷ case "substr(`abc',3)" ample (gives "")
    ∷ case "translit(`abcda',`ad',`x')" ample (gives "xbcx")
    ∷ case "eval(`0&&1/0')" ample (gives "0")
    ∷ case "eval(`1/0')" ample (refuses 9)
    ∷ case "eval(`08')" ample (refuses 8)
    ∷ []

-- 01 "Traps on the old box": replaced text and freed definitions are used again to the last byte, a token may cross the border of
-- pending text and input, and the end mark is tried first
unfoldable pub trap_cases : List Case
trap_cases =
    case "define(`a',`b')define(`a',`c')" (lending 0 8 2 0) (answers 0 0 11 30 "")
    ∷ case "define(`a',`b')undefine(`a')define(`c',`d')" (lending 0 9 2 0) (answers 0 0 14 43 "")
    ∷ case "define(`p',`a')define(`ab',`X')p()b" ample (answers 0 0 15 35 "X")
    ∷ case "changequote(`|',`|')|a|" ample (answers 0 0 7 23 "a")
    ∷ []

-- 02, request 2: its own text; a plain word that an argument collects, so that the blank behind it stays; a parenthesis behind a blank,
-- one that comes from the input behind pending text, and one in wrap text that still waits; the meaning counts and not the name; one of
-- the other seven
unfoldable pub word_cases : List Case
word_cases =
    case "the len of the boom" ample (answers 0 0 10 19 "the len of the boom")
    ∷ case "len(define a)" ample (answers 0 0 7 13 "8")
    ∷ case "len (a)" ample (answers 0 0 6 7 "len (a)")
    ∷ case "define(`p',`len')p()(a)" ample (answers 0 0 12 23 "1")
    ∷ case "m4wrap(`(a)')len" ample (answers 0 0 9 16 "len(a)")
    ∷ case "define(`len',`x')len" ample (answers 0 0 8 20 "x")
    ∷ case "divnum" ample (answers 0 0 3 6 "0")
    ∷ []

-- 02, request 3: the end of the text closes, in a stream and in a call, whose right parenthesis the comment takes; waiting wrap text is not
-- ahead, and the end of wrap text closes too; a comment that pending text begins and the input ends; a newline set by one argument, and one
-- that is given; another end mark; a quote that a newline ends; the comment's own room
unfoldable pub comment_cases : List Case
comment_cases =
    case "a#b" ample (answers 0 0 3 3 "a#b")
    ∷ case "len(#)" ample (answers 5 3 2 6 "")
    ∷ case "m4wrap(`len(a)')#x" ample (answers 0 0 10 18 "#x1")
    ∷ case "m4wrap(`#x')y" ample (answers 0 0 7 13 "y#x")
    ∷ case "define(`f',`#')f g" ample (answers 0 0 8 18 "# g")
    ∷ case "changecom(`%')%" ample (answers 0 0 5 15 "%")
    ∷ case "changecom(`%',`\n')%a" ample (answers 0 0 7 20 "%a")
    ∷ case "changecom(%,;)%a" ample (answers 5 2 5 14 "")
    ∷ case "changequote([)[a" ample (answers 5 1 3 14 "")
    ∷ case "#a" (lending 0 0 0 1) (answers 4 7 0 0 "")
    ∷ []

-- 02, request 7: the riggers' own name for `define`; the bare rule follows the meaning, and copydef is on its list; one of the seven, under the
-- name of one that is not; 6 before 16, and both without room; defn of a copy; the name that was called, and the text as it was then; a copy costs its
-- name, on its own name too, and a text gives its room back; the newest meaning, and the newest definition replaced; a copied copydef
unfoldable pub copy_cases : List Case
copy_cases =
    case "copydef(`define',`def')def(`a',`b')a" ample (answers 0 0 13 36 "b")
    ∷ case "copydef(`len',`l')l l(ab)" ample (answers 0 0 12 25 "l 2")
    ∷ case "copydef" ample (answers 0 0 2 7 "copydef")
    ∷ case "copydef(`divnum',`len')len" ample (answers 0 0 8 26 "0")
    ∷ case "copydef(`x',`9')" ample (answers 6 0 4 15 "")
    ∷ case "copydef(`x',`y')" (lending 9 9 0 0) (answers 16 0 4 15 "")
    ∷ case "copydef(`len',`l')defn(`l')" ample (answers 11 0 7 26 "")
    ∷ case "define(`f',``$0'')copydef(`f',`g')define(`f',`y')g" ample (answers 0 0 18 50 "g")
    ∷ case "copydef(`len',`l')" (lending 0 11 1 0) (answers 0 0 6 18 "")
    ∷ case "copydef(`len',`l')" (lending 0 11 0 0) (answers 4 3 4 17 "")
    ∷ case "copydef(`len',`len')len(ab)" (lending 1 13 3 1) (answers 0 0 10 27 "2")
    ∷ case "define(`f',`xyz')copydef(`f',`gg')" (lending 0 10 8 0) (answers 4 3 9 33 "")
    ∷ case "define(`d',`x')copydef(`dnl',`d')d z\ny" (lending 0 11 2 1) (answers 0 0 13 38 "y")
    ∷ case "pushdef(`f',`x')pushdef(`f',`y')copydef(`len',`f')popdef(`f')f" ample (answers 0 0 21 62 "x")
    ∷ case "pushdef(`len',`x')copydef(`len',`l')popdef(`len')l(ab)" ample (answers 0 0 18 54 "x")
    ∷ case "copydef(`copydef',`c')c(`len',`l')l(a)" ample (answers 0 0 15 38 "1")
    ∷ []

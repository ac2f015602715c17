-- The predefined macros: what a call of each with its arguments makes of the state, from which the call is already taken.
use Rattle.std.specs.Prelude.{ℕ, zero, suc, true, false, ◌&&◌, List, [], ◌∷◌, ◌++◌, map, eqb, pos, get_or, Option, None, Some}
use Rattle.rules.specs.Bytes.{Bytes, is_name}
use Rattle.rules.specs.Answers.{exit, no_name, no_number, bad_mark, gone, no_definition}
use Rattle.rules.specs.Marks.{MarkTexts, newline_mark, default_marks, is_mark, is_end_mark, with_quotes, with_comments}
use Rattle.rules.specs.Source.{ahead}
use Rattle.rules.specs.Numerals.{number}
use Rattle.rules.specs.Table.{Meaning, text, predefined, Table, meaning_of, pushed, defined, popped, undefined, in_turn}
use Rattle.rules.specs.Streams.{moves, drops, diverts}
use Rattle.rules.specs.State.{State, Outcome, next, stop, refused, with_marks, with_table, with_wrap, with_errors, taking, resulting, changing}
use Rattle.rules.specs.Arguments.{arg, number_or, bounded, separated, substituted}
use Rattle.rules.specs.Results.{Result, yields, fails, decr_result, incr_result, defn_result, divnum_result, eval_result, ifdef_result, ifelse_result, include_result, sinclude_result, index_result, len_result, shift_result, substr_result, translit_result}

-- 01 "Results are pushed back and scanned again"
unfoldable pub giving : Result → State → Outcome
giving (yields w) s = next (resulting w s)
giving (fails f) s = refused f

-- new marks, if they are good: refusal 10 if not
unfoldable pub marking : (Bytes → Bytes → MarkTexts → MarkTexts) → Bytes → Bytes → State → Outcome
marking f b e s = elim (is_mark b && is_end_mark e) [ true ↦ next (with_marks (f b e s.marks) s) | false ↦ refused bad_mark ]

-- 01 "changecom without arguments turns comments off; one argument sets the begin mark and newline ends"
unfoldable pub call_changecom : List Bytes → State → Outcome
call_changecom [] s = next (with_marks (with_comments [] s.marks.end_comment s.marks) s)
call_changecom (b ∷ []) s = marking with_comments b newline_mark s
call_changecom (b ∷ e ∷ more) s = marking with_comments b e s

-- 01 "changequote without arguments sets the defaults"
unfoldable pub call_changequote : List Bytes → State → Outcome
call_changequote [] s = next (with_marks (with_quotes default_marks.begin_quote default_marks.end_quote s.marks) s)
call_changequote (b ∷ []) s = marking with_quotes b newline_mark s
call_changequote (b ∷ e ∷ more) s = marking with_quotes b e s

unfoldable pub call_decr : List Bytes → State → Outcome
call_decr args s = giving (decr_result args) s

-- refusal 6: define or pushdef of what is not a name
unfoldable pub naming : (Bytes → Meaning → Table → Table) → List Bytes → State → Outcome
naming f args s =
    elim (is_name (arg 1 args)) [ true ↦ next (with_table (f (arg 1 args) (text (arg 2 args)) s.table) s) | false ↦ refused no_name ]

unfoldable pub call_define : List Bytes → State → Outcome
call_define args s = naming defined args s

unfoldable pub call_defn : List Bytes → State → Outcome
call_defn args s = giving (defn_result s.marks s.table args) s

unfoldable pub call_divert : List Bytes → State → Outcome
call_divert args s = elim (number_or (pos 0) 1 args) [ None ↦ refused no_number | Some n ↦ next (changing (diverts n ∷ []) s) ]

unfoldable pub call_divnum : List Bytes → State → Outcome
call_divnum args s = giving (divnum_result s.streams.current) s

-- how many bytes dnl drops: 01 "through the next newline ahead, or everything"
unfoldable pub line_length : Bytes → ℕ
line_length [] = 0
line_length (x ∷ xs) = elim (eqb x 10) [ true ↦ 1 | false ↦ suc (line_length xs) ]

unfoldable pub call_dnl : List Bytes → State → Outcome
call_dnl args s = next (taking (line_length (ahead s.source)) s)

-- 01 "errprint joins its arguments with one space"
unfoldable pub call_errprint : List Bytes → State → Outcome
call_errprint args s = next (with_errors (s.errors ++ separated 32 args) s)

unfoldable pub call_eval : List Bytes → State → Outcome
call_eval args s = giving (eval_result args) s

unfoldable pub call_ifdef : List Bytes → State → Outcome
call_ifdef args s = giving (ifdef_result s.table args) s

unfoldable pub call_ifelse : List Bytes → State → Outcome
call_ifelse args s = giving (ifelse_result args) s

unfoldable pub call_incr : List Bytes → State → Outcome
call_incr args s = giving (incr_result args) s

unfoldable pub call_index : List Bytes → State → Outcome
call_index args s = giving (index_result args) s

unfoldable pub call_len : List Bytes → State → Outcome
call_len args s = giving (len_result args) s

-- 01 "m4exit ends at once; streams 1 to 9 and wrap text are dropped"; "m4exit outside 0 to 255" is refused 7
unfoldable pub call_m4exit : List Bytes → State → Outcome
call_m4exit args s =
    elim (bounded 0 255 (number_or (pos 0) 1 args)) [
      | None ↦ refused no_number
      | Some code ↦ stop (exit code) (with_wrap [] (changing (drops ∷ []) s))
    ]

-- 004: the first argument waits for the end
unfoldable pub call_m4wrap : List Bytes → State → Outcome
call_m4wrap args s = next (with_wrap (s.wrap ++ arg 1 args) s)

unfoldable pub call_popdef : List Bytes → State → Outcome
call_popdef args s = next (with_table (in_turn popped args s.table) s)

unfoldable pub call_pushdef : List Bytes → State → Outcome
call_pushdef args s = naming pushed args s

unfoldable pub call_shift : List Bytes → State → Outcome
call_shift args s = giving (shift_result s.marks args) s

unfoldable pub call_substr : List Bytes → State → Outcome
call_substr args s = giving (substr_result args) s

unfoldable pub call_translit : List Bytes → State → Outcome
call_translit args s = giving (translit_result args) s

unfoldable pub call_undefine : List Bytes → State → Outcome
call_undefine args s = next (with_table (in_turn undefined args s.table) s)

unfoldable pub also_stream : Option ℕ → Option (List ℕ) → Option (List ℕ)
also_stream None ns = None
also_stream (Some n) None = None
also_stream (Some n) (Some ns) = Some (n ∷ ns)

-- the streams that arguments name: 01 "undivert outside 1 to 9" is refused 7
unfoldable pub stream_numbers : List Bytes → Option (List ℕ)
stream_numbers [] = Some []
stream_numbers (a ∷ more) = also_stream (bounded 1 9 (number a)) (stream_numbers more)

-- 01 "only when absent: .. undivert all nine"
unfoldable pub undivert_numbers : List Bytes → Option (List ℕ)
undivert_numbers [] = Some (1 ∷ 2 ∷ 3 ∷ 4 ∷ 5 ∷ 6 ∷ 7 ∷ 8 ∷ 9 ∷ [])
undivert_numbers (a ∷ more) = stream_numbers (a ∷ more)

unfoldable pub call_undivert : List Bytes → State → Outcome
call_undivert args s =
    elim (undivert_numbers args) [ None ↦ refused no_number | Some ns ↦ next (changing (map moves ns) s) ]

-- 02, request 1 "The contents become pending text and count there"
unfoldable pub call_include : List Bytes → State → Outcome
call_include args s = giving (include_result s.set args) s

unfoldable pub call_sinclude : List Bytes → State → Outcome
call_sinclude args s = giving (sinclude_result s.set args) s

-- 02, request 7: a name gets a meaning "as define would set it"; refusal 16: there is none, since "the first argument has no definition"
unfoldable pub copying : Option Meaning → Bytes → State → Outcome
copying None w s = refused no_definition
copying (Some m) w s = next (with_table (defined w m s.table) s)

-- "the second argument gets the meaning of the first, predefined or text"; "the new name is judged first (6), then 16"
unfoldable pub call_copydef : List Bytes → State → Outcome
call_copydef args s =
    elim (is_name (arg 2 args)) [ true ↦ copying (meaning_of (arg 1 args) s.table) (arg 2 args) s | false ↦ refused no_name ]

-- no macro has another number than those of `predefined_names`
unfoldable pub call_nothing : List Bytes → State → Outcome
call_nothing args s = refused gone

-- the macros by their numbers, from 1, in the order of `predefined_names`
unfoldable pub macros : List (List Bytes → State → Outcome)
macros =
    call_changecom
    ∷ call_changequote
    ∷ call_decr
    ∷ call_define
    ∷ call_defn
    ∷ call_divert
    ∷ call_divnum
    ∷ call_dnl
    ∷ call_errprint
    ∷ call_eval
    ∷ call_ifdef
    ∷ call_ifelse
    ∷ call_incr
    ∷ call_index
    ∷ call_len
    ∷ call_m4exit
    ∷ call_m4wrap
    ∷ call_popdef
    ∷ call_pushdef
    ∷ call_shift
    ∷ call_substr
    ∷ call_translit
    ∷ call_undefine
    ∷ call_undivert
    ∷ call_include
    ∷ call_sinclude
    ∷ call_copydef
    ∷ []

unfoldable pub perform : ℕ → List Bytes → State → Outcome
perform zero args s = call_nothing args s
perform (suc i) args s = (get_or macros i call_nothing) args s

-- a call of a name by its meaning: a text with the arguments put in, or a predefined macro
unfoldable pub performed : Meaning → Bytes → List Bytes → State → Outcome
performed (text x) name args s = giving (yields (substituted name args s.marks x)) s
performed (predefined k) name args s = perform k args s

-- refusal 12: the name has no definition
unfoldable pub called : Option Meaning → Bytes → List Bytes → State → Outcome
called None name args s = refused gone
called (Some m) name args s = performed m name args s

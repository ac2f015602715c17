-- The predefined macros by their numbers: what the code calls each, and the book's definition of it.
use Rattle.std.specs.Prelude.{ℕ, zero, suc, List, [], ◌∷◌, slice_get, Option, None, Some}
use Rattle.rules.specs.Bytes.{Bytes}
use Rattle.rules.specs.State.{State, Outcome}
use Rattle.rules.specs.Macros.{call_changecom, call_changequote, call_decr, call_define, call_defn, call_divert, call_divnum, call_dnl, call_errprint, call_eval, call_ifdef, call_ifelse, call_incr, call_index, call_len, call_m4exit, call_m4wrap, call_popdef, call_pushdef, call_shift, call_substr, call_translit, call_undefine, call_undivert, call_include, call_sinclude, call_copydef, call_nothing}
use Rattle.builtins.specs.declared.Builtin.{Builtin}
use Rattle.builtins.specs.declared.Builtin.TheVariants as builtin
use Rattle.builtins.specs.declared.Kind.{Kind}
use Rattle.builtins.specs.declared.Kind.TheVariants as kind
use Rattle.builtins.specs.declared.ResultMacro.{ResultMacro}
use Rattle.builtins.specs.declared.ResultMacro.TheVariants as result-macro
use Rattle.builtins.specs.declared.ChangeMacro.{ChangeMacro}
use Rattle.builtins.specs.declared.ChangeMacro.TheVariants as change-macro

-- in the order of the book's `predefined_names` and `macros`
unfoldable pub builtins : List Builtin
builtins =
    builtin.Change change-macro.Changecom
    ∷ builtin.Change change-macro.Changequote
    ∷ builtin.Result result-macro.Decr
    ∷ builtin.Change change-macro.Define
    ∷ builtin.Result result-macro.Defn
    ∷ builtin.Change change-macro.Divert
    ∷ builtin.Change change-macro.Divnum
    ∷ builtin.Change change-macro.Dnl
    ∷ builtin.Change change-macro.Errprint
    ∷ builtin.Result result-macro.Eval
    ∷ builtin.Result result-macro.Ifdef
    ∷ builtin.Result result-macro.Ifelse
    ∷ builtin.Result result-macro.Incr
    ∷ builtin.Index
    ∷ builtin.Result result-macro.Len
    ∷ builtin.Change change-macro.M4exit
    ∷ builtin.Change change-macro.M4wrap
    ∷ builtin.Change change-macro.Popdef
    ∷ builtin.Change change-macro.Pushdef
    ∷ builtin.Result result-macro.Shift
    ∷ builtin.Result result-macro.Substr
    ∷ builtin.Result result-macro.Translit
    ∷ builtin.Change change-macro.Undefine
    ∷ builtin.Change change-macro.Undivert
    ∷ builtin.Change change-macro.Include
    ∷ builtin.Change change-macro.Sinclude
    ∷ builtin.Change change-macro.Copydef
    ∷ []

-- by its number, from 1; no macro has another number
unfoldable pub builtin_at : ℕ → Option Builtin
builtin_at zero = None
builtin_at (suc i) = slice_get builtins i

-- what a number without a macro is taken for is free: a call of it does nothing
unfoldable pub kind_of : Option Builtin → Kind
kind_of None = kind.Change
kind_of (Some (builtin.Result r)) = kind.Result
kind_of (Some builtin.Index) = kind.Index
kind_of (Some (builtin.Change c)) = kind.Change

unfoldable pub result_of : Option Builtin → Option ResultMacro
result_of None = None
result_of (Some (builtin.Result r)) = Some r
result_of (Some builtin.Index) = None
result_of (Some (builtin.Change c)) = None

unfoldable pub change_of : Option Builtin → Option ChangeMacro
change_of None = None
change_of (Some (builtin.Result r)) = None
change_of (Some builtin.Index) = None
change_of (Some (builtin.Change c)) = Some c

-- what a call of it does, by the book
unfoldable pub result_call : Option ResultMacro → List Bytes → State → Outcome
result_call (Some result-macro.Decr) = call_decr
result_call (Some result-macro.Defn) = call_defn
result_call (Some result-macro.Eval) = call_eval
result_call (Some result-macro.Ifdef) = call_ifdef
result_call (Some result-macro.Ifelse) = call_ifelse
result_call (Some result-macro.Incr) = call_incr
result_call (Some result-macro.Len) = call_len
result_call (Some result-macro.Shift) = call_shift
result_call (Some result-macro.Substr) = call_substr
result_call (Some result-macro.Translit) = call_translit
result_call None = call_nothing

unfoldable pub change_call : Option ChangeMacro → List Bytes → State → Outcome
change_call (Some change-macro.Changecom) = call_changecom
change_call (Some change-macro.Changequote) = call_changequote
change_call (Some change-macro.Define) = call_define
change_call (Some change-macro.Divert) = call_divert
change_call (Some change-macro.Divnum) = call_divnum
change_call (Some change-macro.Dnl) = call_dnl
change_call (Some change-macro.Errprint) = call_errprint
change_call (Some change-macro.M4exit) = call_m4exit
change_call (Some change-macro.M4wrap) = call_m4wrap
change_call (Some change-macro.Popdef) = call_popdef
change_call (Some change-macro.Pushdef) = call_pushdef
change_call (Some change-macro.Undefine) = call_undefine
change_call (Some change-macro.Undivert) = call_undivert
change_call (Some change-macro.Include) = call_include
change_call (Some change-macro.Sinclude) = call_sinclude
change_call (Some change-macro.Copydef) = call_copydef
change_call None = call_nothing

unfoldable pub call_of : Option Builtin → List Bytes → State → Outcome
call_of None = call_nothing
call_of (Some (builtin.Result r)) = result_call (Some r)
call_of (Some builtin.Index) = call_index
call_of (Some (builtin.Change c)) = change_call (Some c)

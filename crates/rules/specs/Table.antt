-- The definitions in force: those made by the text, in order of arrival, and the predefined names that keep their own meaning.
use Rattle.std.specs.Prelude.{ℕ, zero, suc, ◌+◌, ◌-◌, ◌/◌, ◌%◌, ◌^◌, Bool, true, false, cond, ◌||◌, List, [], ◌∷◌, ◌++◌, eqb, length, take, drop, get_or, set, Option, None, Some}
use Rattle.rules.specs.Bytes.{Bytes, bytes_of, same_bytes}

-- 01 "These 24 macros are predefined": in its order they have the numbers 1 to 24; then those that 02 adds, in order of arrival
unfoldable pub predefined_names : List Bytes
predefined_names =
    bytes_of "changecom"
    ∷ bytes_of "changequote"
    ∷ bytes_of "decr"
    ∷ bytes_of "define"
    ∷ bytes_of "defn"
    ∷ bytes_of "divert"
    ∷ bytes_of "divnum"
    ∷ bytes_of "dnl"
    ∷ bytes_of "errprint"
    ∷ bytes_of "eval"
    ∷ bytes_of "ifdef"
    ∷ bytes_of "ifelse"
    ∷ bytes_of "incr"
    ∷ bytes_of "index"
    ∷ bytes_of "len"
    ∷ bytes_of "m4exit"
    ∷ bytes_of "m4wrap"
    ∷ bytes_of "popdef"
    ∷ bytes_of "pushdef"
    ∷ bytes_of "shift"
    ∷ bytes_of "substr"
    ∷ bytes_of "translit"
    ∷ bytes_of "undefine"
    ∷ bytes_of "undivert"
    ∷ bytes_of "include"
    ∷ bytes_of "sinclude"
    ∷ bytes_of "copydef"
    ∷ []

-- 02, request 2: those that "shall stand as plain text unless `(` directly follows"; request 7 "copydef joins its list"
unfoldable pub plain_unless_opened : List Bytes
plain_unless_opened =
    bytes_of "decr"
    ∷ bytes_of "define"
    ∷ bytes_of "defn"
    ∷ bytes_of "errprint"
    ∷ bytes_of "eval"
    ∷ bytes_of "ifdef"
    ∷ bytes_of "ifelse"
    ∷ bytes_of "incr"
    ∷ bytes_of "index"
    ∷ bytes_of "len"
    ∷ bytes_of "m4wrap"
    ∷ bytes_of "popdef"
    ∷ bytes_of "pushdef"
    ∷ bytes_of "shift"
    ∷ bytes_of "substr"
    ∷ bytes_of "translit"
    ∷ bytes_of "undefine"
    ∷ bytes_of "include"
    ∷ bytes_of "sinclude"
    ∷ bytes_of "copydef"
    ∷ []

unfoldable pub among : Bytes → List Bytes → Bool
among w [] = false
among w (n ∷ ns) = same_bytes w n || among w ns

-- the k-th predefined macro, from 1, is called only with a parenthesis: its name is on that list. "The other seven keep their bare call"
unfoldable pub needs_parenthesis : ℕ → Bool
needs_parenthesis zero = false
needs_parenthesis (suc i) = among (get_or predefined_names i []) plain_unless_opened

-- 02, request 7 "A definition is from now on a text or a predefined meaning", the latter by its number
pub data Meaning : Type 0 where
  text : Bytes → Meaning
  predefined : ℕ → Meaning

pub record Definition : Type 0 where
  pub name : Bytes
  pub meaning : Meaning

-- `definitions` are oldest first; bit k - 1 of `own` is set while the k-th predefined name keeps its own meaning, which lies under
-- the definitions of that name
pub record Table : Type 0 where
  pub definitions : List Definition
  pub own : ℕ

-- every predefined name keeps its own meaning
unfoldable pub fresh_table : Table
fresh_table = record { definitions = []; own = 2 ^ length predefined_names - 1 }

-- the number of a name in a list of names, from k
unfoldable pub number_from : ℕ → Bytes → List Bytes → Option ℕ
number_from k w [] = None
number_from k w (n ∷ ns) = elim (same_bytes w n) [ true ↦ Some k | false ↦ number_from (suc k) w ns ]

unfoldable pub predefined_number : Bytes → Option ℕ
predefined_number w = number_from 1 w predefined_names

-- the k-th predefined name, from 1, keeps its own meaning
unfoldable pub keeps_own : ℕ → ℕ → Bool
keeps_own zero own = false
keeps_own (suc i) own = eqb (own / 2 ^ i % 2) 1

unfoldable pub own_meaning : Bytes → ℕ → Option Meaning
own_meaning w own = elim (predefined_number w) [ None ↦ None | Some k ↦ elim (keeps_own k own) [ true ↦ Some (predefined k) | false ↦ None ] ]

-- the name's own meaning is gone
unfoldable pub own_lost : Bytes → ℕ → ℕ
own_lost w own = elim (predefined_number w) [ None ↦ own | Some k ↦ cond (keeps_own k own) (own - 2 ^ (k - 1)) own ]

-- the place of a name's newest definition
unfoldable pub newest_place : Bytes → List Definition → Option ℕ
newest_place w [] = None
newest_place w (d ∷ ds) =
    elim (newest_place w ds) [ Some i ↦ Some (suc i) | None ↦ elim (same_bytes w d.name) [ true ↦ Some 0 | false ↦ None ] ]

unfoldable pub meaning_at : ℕ → List Definition → Option Meaning
meaning_at i [] = None
meaning_at zero (d ∷ ds) = Some d.meaning
meaning_at (suc i) (d ∷ ds) = meaning_at i ds

-- the meaning in force: the newest definition's, else the name's own; none: the name is not defined
unfoldable pub meaning_of : Bytes → Table → Option Meaning
meaning_of w t = elim (newest_place w t.definitions) [ Some i ↦ meaning_at i t.definitions | None ↦ own_meaning w t.own ]

unfoldable pub is_defined : Bytes → Table → Bool
is_defined w t = elim (meaning_of w t) [ None ↦ false | Some m ↦ true ]

-- 01 "pushdef keeps it": the new definition arrives last
unfoldable pub pushed : Bytes → Meaning → Table → Table
pushed w m t = record { definitions = t.definitions ++ (record { name = w; meaning = m } ∷ []); own = t.own }

-- 01 "define replaces the newest definition": in its place; one that replaces the name's own meaning arrives last
unfoldable pub defined : Bytes → Meaning → Table → Table
defined w m t =
    elim (newest_place w t.definitions) [
      | Some i ↦ record { definitions = set t.definitions i (record { name = w; meaning = m }); own = t.own }
      | None ↦ pushed w m (record { definitions = t.definitions; own = own_lost w t.own })
    ]

-- 01 "popdef uncovers it": without the newest definition, else without the name's own meaning
unfoldable pub popped : Bytes → Table → Table
popped w t =
    elim (newest_place w t.definitions) [
      | Some i ↦ record { definitions = take i t.definitions ++ drop (suc i) t.definitions; own = t.own }
      | None ↦ record { definitions = t.definitions; own = own_lost w t.own }
    ]

unfoldable pub without : Bytes → List Definition → List Definition
without w [] = []
without w (d ∷ ds) = elim (same_bytes w d.name) [ true ↦ without w ds | false ↦ d ∷ without w ds ]

-- 01 "undefine drops all"
unfoldable pub undefined : Bytes → Table → Table
undefined w t = record { definitions = without w t.definitions; own = own_lost w t.own }

-- 01 "these two take each argument in turn"
unfoldable pub in_turn : (Bytes → Table → Table) → List Bytes → Table → Table
in_turn f [] t = t
in_turn f (w ∷ ws) t = in_turn f ws (f w t)

-- what a definition costs in buffer 3: its name and its text; 02, request 7 "The copy of a predefined meaning costs its name only"
unfoldable pub meaning_cost : Meaning → ℕ
meaning_cost (text w) = length w
meaning_cost (predefined k) = 0

unfoldable pub table_cost : List Definition → ℕ
table_cost [] = 0
table_cost (d ∷ ds) = length d.name + (meaning_cost d.meaning + table_cost ds)

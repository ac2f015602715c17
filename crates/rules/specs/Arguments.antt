-- Arguments: one by its number, and all put into a defined text.
use Rattle.std.specs.Prelude.{ℕ, zero, suc, ◌-◌, true, false, List, [], ◌∷◌, ◌++◌, eqb, leb, ℤ, pos, negsuc, length, get_or, drop, Option, None, Some}
use Rattle.rules.specs.Bytes.{Bytes, is_digit, comma}
use Rattle.rules.specs.Marks.{MarkTexts, quoted}
use Rattle.rules.specs.Numerals.{number, decimal}

-- the n-th argument, from 1: 01 "Absent arguments are null"
unfoldable pub arg : ℕ → List Bytes → Bytes
arg zero args = []
arg (suc i) args = get_or args i []

-- the n-th argument as a number: 01 "Defaults, only when absent"
unfoldable pub number_or : ℤ → ℕ → List Bytes → Option ℤ
number_or default zero args = Some default
number_or default (suc i) args = elim (drop i args) [ [] ↦ Some default | a ∷ more ↦ number a ]

-- a number from `low` to `high`
unfoldable pub bounded : ℕ → ℕ → Option ℤ → Option ℕ
bounded low high None = None
bounded low high (Some (negsuc n)) = None
bounded low high (Some (pos n)) = elim (leb low n) [ true ↦ elim (leb n high) [ true ↦ Some n | false ↦ None ] | false ↦ None ]

-- texts with a byte between them
unfoldable pub separated : ℕ → List Bytes → Bytes
separated b [] = []
separated b (w ∷ []) = w
separated b (w ∷ v ∷ more) = w ++ (b ∷ separated b (v ∷ more))

abbrev pub commas : List Bytes → Bytes
commas args = separated comma args

unfoldable pub quoted_each : MarkTexts → List Bytes → List Bytes
quoted_each m [] = []
quoted_each m (w ∷ ws) = quoted m w ∷ quoted_each m ws

-- what stands for `$` and the byte x: 01 "`$0` is the name, `$1` to `$9` arguments, `$#` their number, `$*` all joined by commas, `$@`
-- the same with each in the current quote marks"; none: "Another `$` is itself"
unfoldable pub parameter : Bytes → List Bytes → MarkTexts → ℕ → Option Bytes
parameter name args m x =
    elim (is_digit x) [
      | true ↦ elim (eqb x 48) [ true ↦ Some name | false ↦ Some (arg (x - 48) args) ]
      | false ↦
          elim (eqb x 35) [
            | true ↦ Some (decimal (pos (length args)))
            | false ↦
                elim (eqb x 42) [
                  | true ↦ Some (commas args)
                  | false ↦ elim (eqb x 64) [ true ↦ Some (commas (quoted_each m args)) | false ↦ None ]
                ]
          ]
    ]

unfoldable pub parameter_at : Bytes → List Bytes → MarkTexts → ℕ → ℕ → Option Bytes
parameter_at name args m x y = elim (eqb x 36) [ true ↦ parameter name args m y | false ↦ None ]

-- a defined text with its arguments put in
unfoldable pub substituted : Bytes → List Bytes → MarkTexts → Bytes → Bytes
substituted name args m [] = []
substituted name args m (x ∷ []) = x ∷ []
substituted name args m (x ∷ y ∷ ys) =
    elim (parameter_at name args m x y) [
      | Some w ↦ w ++ substituted name args m ys
      | None ↦ x ∷ substituted name args m (y ∷ ys)
    ]

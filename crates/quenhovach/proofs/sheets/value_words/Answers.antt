-- `quenhovach::sheets::value_words` meets its contract. Assumes nothing.
use Rattle.rules.proofs.Base.{◌∙◌, ◌≡◌, ℕ, ℤ, pos, negsuc, sym, ap, ◌∷◌, [], arith, rules}
use mir.Syntax.{w32}
use mir.Val.{SFits, of_z}
use mir.ValLaws.{to_z-of_z}
use Rattle.rules.specs.Words.{wrapped}
use Rattle.quenhovach.specs.Sheets.{value_words}
use Rattle.quenhovach.proofs.sheets.value_words.Goals as goal

-- the bits of a number
bits_are : (z : ℤ) → SFits w32 z → of_z w32 z ≡ wrapped z
unfolding wrapped
bits_are (pos n) f = omega (arith, f.sfits)
bits_are (negsuc n) f = omega (arith, f.sfits)

pub returns-in-Number : goal.returns-in-Number
unfolding value_words
returns-in-Number c =
    ap (λ (n : ℕ). 1 ∷ n ∷ 0 ∷ []) (c.from.ensures ∙ c.cast_unsigned.ensures ∙ ap (of_z w32) (to_z-of_z w32 c.in-Number.n (search rules)) ∙ bits_are c.in-Number.n (search rules))
    ∙ ap value_words (sym c.in-Number.is)

pub returns-in-Decimal : goal.returns-in-Decimal
unfolding value_words
returns-in-Decimal c = ap (λ (n : ℕ). 2 ∷ n ∷ 0 ∷ []) c.decimal_bits.ensures ∙ ap value_words (sym c.in-Decimal.is)

pub returns-in-Word : goal.returns-in-Word
unfolding value_words
returns-in-Word c = ap value_words (sym c.in-Word.is)

-- `quenhovach::sheets::decimal_bits` meets its contract. Assumes nothing.
use Rattle.rules.proofs.Base.{◌∙◌, sym, ◌≡◌, true, true≢false, refl}
use lib.Ieee.{Float, binary64, nan, inf, fin, to_bits, is_nan}
use Rattle.quenhovach.proofs.sheets.decimal_bits.Goals as goal

nan_bits : (x : Float) → is_nan x ≡ true → 9221120237041090560 ≡ to_bits binary64 x
unfolding to_bits is_nan
nan_bits nan e = refl
nan_bits (inf s) e = absurd (true≢false (sym e))
nan_bits (fin s m k) e = absurd (true≢false (sym e))

pub returns-then-is_nan : goal.returns-then-is_nan
returns-then-is_nan c = nan_bits c.args.x (sym c.is_nan.ensures.value ∙ c.if-is_nan.true)

-- The contents of an item in front of the text ahead. Assumes nothing.
use Rattle.rules.proofs.Base.{ℕ, ◌∙◌, sym, ap, ◌≡◌, Bool, Some, None, Option, List, ◌++◌, arith, length, drop, drop-length, append-nil, le-leb}
use Rattle.std.specs.Prelude.{Ok}
use Rattle.rules.specs.Bytes.{Bytes}
use Rattle.rules.specs.Sets.{Item, item_text}
use Rattle.rules.specs.Arguments.{arg}
use Rattle.rules.specs.Results.{Result, yields, contents_or}
use Rattle.rules.specs.Contract.{fronted}
use Rattle.container.specs.Items.{text_at, laid, Copied}
use Rattle.expander.specs.Giving.{place_before}

-- a text that is laid over a slice of its length is the slice
pub laid_whole : {set : Bytes} {place : ℕ} {before after : Bytes} {r : Bool} {w : Bytes} → Copied set place before r after → text_at set place ≡ Some w → length w ≡ length before → after ≡ w
unfolding laid fronted
laid_whole {before} {w} k e l =
    k.slice ∙ ap (λ (o : Option Bytes). laid o before) e
    ∙ (rw (le-leb (length w) (length before) (omega (arith, l)), laid) (ap (λ (n : ℕ). w ++ drop n before) l ∙ ap (λ (v : Bytes). w ++ v) (drop-length before) ∙ append-nil w))

-- no bytes begin where the pending text does
pub placed_here : (from : ℕ) → place_before from 0 ≡ Ok from
unfolding place_before
placed_here from = rw (le-leb 0 from (omega arith), place_before) (ap Ok (omega arith))

module _ (unknown : Result) (is : List Item) (args : List Bytes) {name : Bytes} (e : name ≡ arg 1 args) where
  -- there is no such item, or this is its text
  pub contents_unknown : item_text name is ≡ None → contents_or unknown is args ≡ unknown
  unfolding contents_or
  contents_unknown h =
      let k : item_text (arg 1 args) is ≡ None = ap (λ (w : Bytes). item_text w is) (sym e) ∙ h in
      rw (k, contents_or)

  pub contents_known : {w : Bytes} → item_text name is ≡ Some w → contents_or unknown is args ≡ yields w
  unfolding contents_or
  contents_known {w} h =
      let k : item_text (arg 1 args) is ≡ Some w = ap (λ (v : Bytes). item_text v is) (sym e) ∙ h in
      rw (k, contents_or)

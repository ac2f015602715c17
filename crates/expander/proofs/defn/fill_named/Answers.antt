-- `expander::defn::fill_named` meets its contract: a case for each thing that looking a name up answers. Assumes nothing.
use Rattle.rules.proofs.Base.{◌+◌, ◌<◌, ◌*◌, arith}
use Rattle.expander.specs.Table.{rows}
use Rattle.expander.proofs.Changing.{few_strings}
use Rattle.expander.proofs.DefnLaws.{named_text, named_predefined, named-undefined, valid_table, text_within, same_text, no_text_lem, nothing_lays}
use Rattle.expander.proofs.Packing.{formed}
use Rattle.expander.proofs.SubstitutionLaws.{lays_as}
use Rattle.expander.proofs.defn.fill_named.Goals as goal
use Rattle.expander.proofs.defn.fill_named.Goals.{In-Text}

-- the text has its place
within_for : (c : In-Text) → 2 * c.in-Text.i + 1 < c.args.t.packed.count
within_for c = text_within c.requires.short_quotes.1 c.requires.short_quotes.2 c.args.name.now c.look_up-meaning.ensures c.in-Text.is

pub fill_quoted-requires : goal.fill_quoted-requires
fill_quoted-requires c =
    let h = valid_table c.requires.short_quotes.1 c.requires.short_quotes.2 in (
      c.requires.short_quotes.0,
      c.requires.w_in_bounds _ _ h (named_text _ _ _ (c.look_up-meaning.ensures _ h) c.in-Text.is (c.string.ensures _ h.holds.packs)),
    )

pub returns-in-Text : goal.returns-in-Text
returns-in-Text c =
    let f = c.fill_quoted.ensures in
    λ u w h e.
    lays_as (same_text (named_text _ u _ (c.look_up-meaning.ensures u h) c.in-Text.is (c.string.ensures (rows u.definitions) h.holds.packs)) e)
    (record { filled = f.0; behind = f.1 })

pub returns-in-Predefined : goal.returns-in-Predefined
returns-in-Predefined c = λ u w h e. absurd (no_text_lem (named_predefined _ u _ (c.look_up-meaning.ensures u h) c.in-Predefined.is) e)

pub returns-in-Undefined : goal.returns-in-Undefined
returns-in-Undefined c =
    λ u w h e.
    let n = named-undefined _ u _ (c.look_up-meaning.ensures u h) c.in-Undefined.is in
    lays_as (same_text n e) (nothing_lays c.args.dst.now c.args.at (omega (arith, c.requires.w_in_bounds u w h e)))

pub overflow_mul-k : goal.overflow_mul-k
overflow_mul-k c = omega (arith, within_for (goal.at.overflow_mul-k c).In-Text, few_strings c.requires.short_quotes.1.holds)

pub overflow_add-k : goal.overflow_add-k
overflow_add-k c = omega (arith, within_for (goal.at.overflow_add-k c).In-Text, few_strings c.requires.short_quotes.1.holds)

pub string-requires : goal.string-requires
string-requires c = record { formed = formed c.requires.short_quotes.1.holds.packs; k_lt_count = within_for (goal.at.string-requires c).In-Text }

-- `expander::defn::named_length` meets its contract: a case for each thing that looking a name up answers. Assumes nothing.
use Rattle.rules.proofs.Base.{◌≤◌, ◌+◌, ◌<◌, ◌*◌, ◌∙◌, sym, ap, arith, length}
use Rattle.std.specs.Prelude.{Ok}
use Rattle.rules.specs.Answers.{fault_answer}
use Rattle.expander.specs.Limits.{most_lent}
use Rattle.expander.specs.Table.{rows}
use Rattle.expander.specs.Defn.{measured_as}
use Rattle.expander.proofs.Changing.{few_strings}
use Rattle.expander.proofs.DefnLaws.{named_text, named_predefined, named-undefined, text_within}
use Rattle.expander.proofs.Packing.{formed, string_fits}
use Rattle.expander.proofs.defn.named_length.Goals as goal
use Rattle.expander.proofs.defn.named_length.Goals.{After-string-text, In-Text}

-- the text has its place
within_for : (c : In-Text) → 2 * c.in-Text.i + 1 < c.args.t.packed.count
within_for c = text_within c.requires.1 c.requires.2 c.args.name.now c.look_up-meaning.ensures c.in-Text.is

text_most : (c : After-string-text) → length c.string-text.result.now ≤ most_lent
text_most c =
    let d = c.requires.1 in
    omega (
      arith,
      ap length (c.string-text.ensures (rows d.definitions) d.holds.packs),
      string_fits d.holds.packs (2 * c.in-Text.i + 1) (text_within d c.requires.2 c.args.name.now c.look_up-meaning.ensures c.in-Text.is),
      d.holds.packs.used_in,
      d.holds.bytes_most,
    )

pub returns-in-Text : goal.returns-in-Text
unfolding measured_as
returns-in-Text c =
    let text = c.string-text in record {
      value = λ u h.
          ap Ok (sym (c.quotes_length.ensures.0 text.result.now))
          ∙ ap measured_as (sym (named_text _ u _ (c.look_up-meaning.ensures u h) c.in-Text.is (text.ensures (rows u.definitions) h.holds.packs)));
      bounded = omega (arith, c.quotes_length.ensures.1, text_most (goal.at.returns-in-Text c).After-string-text);
    }

pub returns-in-Predefined : goal.returns-in-Predefined
unfolding measured_as fault_answer
returns-in-Predefined c = record { value = λ u h. sym (ap measured_as (named_predefined _ u _ (c.look_up-meaning.ensures u h) c.in-Predefined.is)); bounded = tt }

pub returns-in-Undefined : goal.returns-in-Undefined
unfolding measured_as
returns-in-Undefined c = record { value = λ u h. sym (ap measured_as (named-undefined _ u _ (c.look_up-meaning.ensures u h) c.in-Undefined.is)); bounded = omega arith }

pub overflow_mul-k : goal.overflow_mul-k
overflow_mul-k c = omega (arith, within_for (goal.at.overflow_mul-k c).In-Text, few_strings c.requires.1.holds)

pub overflow_add-k : goal.overflow_add-k
overflow_add-k c = omega (arith, within_for (goal.at.overflow_add-k c).In-Text, few_strings c.requires.1.holds)

pub string-text-requires : goal.string-text-requires
string-text-requires c = record { formed = formed c.requires.1.holds.packs; k_lt_count = within_for (goal.at.string-text-requires c).In-Text }

-- `expander::defining::copydef` meets its contract. Assumes nothing.
use Rattle.rules.proofs.Base.{◌∙◌, ap, arith, length, not}
use Rattle.expander.specs.Arguments.{args_of}
use Rattle.expander.proofs.ArgumentLaws.{held_in, argument_short}
use Rattle.expander.proofs.DefiningLaws.{name_long, copydef_none, copydef_is, copying_some, copying_none, refines_name, refines_no_definition}
use Rattle.expander.proofs.Rows.{finds_text, finds_within, finds_as, finds_predefined, finds_nothing, predefined_number_lem}
use Rattle.expander.proofs.SteppedLaws.{refines_as}
use Rattle.expander.specs.Table.{meaning_text, new_meaning, Numbered}
use Rattle.expander.proofs.defining.copydef.Goals as goal

pub returns-then-not-is_name : goal.returns-then-not-is_name
returns-then-not-is_name c =
    λ a s b r. refines_name (copydef_none c.is_name.ensures (ap not c.if-not-is_name.true) (args_of c.args.x) s c.argument-name.ensures) c.refused.ensures

pub copy_text-requires : goal.copy_text-requires
copy_text-requires c =
    let t = c.requires.valid.represents.table in
    let w = c.argument-name in
    let f = finds_as (c.look_up-meaning.ensures c.requires.valid.state.table t) c.in-Text.is in record {
      valid = c.requires.valid;
      name_nonzero = (
        name_long w.result.now c.is_name.ensures (ap not c.if-not-is_name.false),
        omega (arith, ap length w.ensures, argument_short (held_in c.args.x) 2 (omega arith)),
        finds_within t.holds f,
      );
    }

pub set_meaning-requires : goal.set_meaning-requires
unfolding new_meaning meaning_text Numbered
set_meaning-requires c =
    let w = c.argument-name in record {
      valid = c.requires.valid;
      name_nonzero = (
        name_long w.result.now c.is_name.ensures (ap not c.if-not-is_name.false),
        omega (arith, ap length w.ensures, argument_short (held_in c.args.x) 2 (omega arith)),
      );
    }

pub returns-in-Text : goal.returns-in-Text
returns-in-Text c =
    λ a s b r.
    let f = finds_as (c.look_up-meaning.ensures s.table r.table) c.in-Text.is in
    refines_as
    (copydef_is c.is_name.ensures (ap not c.if-not-is_name.false) (args_of c.args.x) s c.argument-name.ensures c.argument-source.ensures (finds_text f) ∙ copying_some _ _ s)
    (c.copy_text.ensures a s b r)

pub returns-in-Predefined : goal.returns-in-Predefined
unfolding new_meaning meaning_text Numbered
returns-in-Predefined c =
    let v = c.argument-source in
    λ a s b r.
    let f = finds_predefined (c.look_up-meaning.ensures s.table r.table) c.in-Predefined.is in
    refines_as (copydef_is c.is_name.ensures (ap not c.if-not-is_name.false) (args_of c.args.x) s c.argument-name.ensures v.ensures f ∙ copying_some _ _ s)
    (c.set_meaning.ensures a s b (predefined_number_lem r.table v.result.now f) r)

pub returns-in-Undefined : goal.returns-in-Undefined
returns-in-Undefined c =
    λ a s b r.
    let f = finds_nothing (c.look_up-meaning.ensures s.table r.table) c.in-Undefined.is in
    refines_no_definition
    (copydef_is c.is_name.ensures (ap not c.if-not-is_name.false) (args_of c.args.x) s c.argument-name.ensures c.argument-source.ensures f ∙ copying_none _ s) c.refused-in-Undefined.ensures

-- `expander::defining::define` meets its contract. Assumes nothing.
use Rattle.rules.proofs.Base.{ap, arith, length, not}
use Rattle.rules.specs.Table.{defined}
use Rattle.expander.specs.Arguments.{args_of}
use Rattle.expander.proofs.ArgumentLaws.{held_in, argument_short}
use Rattle.expander.proofs.DefiningLaws.{name_long, define_is, naming_none, naming_is, refines_name}
use Rattle.expander.proofs.SteppedLaws.{refines_as}
use Rattle.expander.specs.Table.{meaning_text, new_meaning, Numbered}
use Rattle.expander.proofs.defining.define.Goals as goal

pub returns-then-not-is_name : goal.returns-then-not-is_name
returns-then-not-is_name c =
    let args = args_of c.args.x in
    λ a s b r.
    refines_name (naming_none c.is_name.ensures (ap not c.if-not-is_name.true) defined args s (define_is args s) c.argument-name.ensures) c.refused.ensures

pub set_meaning-requires : goal.set_meaning-requires
unfolding new_meaning meaning_text Numbered
set_meaning-requires c =
    let h = held_in c.args.x in record {
      valid = c.requires.valid;
      name_nonzero = (
        name_long c.argument-name.result.now c.is_name.ensures (ap not c.if-not-is_name.false),
        omega (arith, ap length c.argument-name.ensures, ap length c.argument-body.ensures, argument_short h 1 (omega arith), argument_short h 2 (omega arith)),
      );
    }

pub returns : goal.returns
unfolding new_meaning meaning_text Numbered
returns c =
    let args = args_of c.args.x in
    λ a s b r.
    refines_as (naming_is c.is_name.ensures (ap not c.if-not-is_name.false) defined args s (define_is args s) c.argument-name.ensures c.argument-body.ensures)
    (c.set_meaning.ensures a s b tt r)

-- `expander::macros::perform` meets its contract: the macro that the number stands for. Assumes nothing.
use Rattle.rules.proofs.Base.{◌∙◌, sym, ap, Some, rules}
use Rattle.std.proofs.lemmas.Int.{to_z-of_z}
use Rattle.std.proofs.Common.{w32}
use Rattle.rules.specs.Results.{divnum_result, include_result, sinclude_result}
use Rattle.rules.specs.Macros.{call_divnum, call_include, call_sinclude, call_nothing}
use Rattle.builtins.specs.Builtins.{change_call}
use Rattle.expander.specs.Arguments.{args_of}
use Rattle.expander.specs.Results.{unknown, number_text, answered}
use Rattle.expander.specs.Machine.{Memory, input_at, pending_at, definitions_at, sinks_at, wrap_at, errors_at}
use Rattle.expander.proofs.GivingLaws.{refines_given, giving_text}
use Rattle.expander.proofs.MacroLaws.{refines_told, refines_gone, valid_at, valid_of}
use Rattle.expander.proofs.SteppedLaws.{refines_as}
use Rattle.expander.proofs.macros.perform.Goals as goal
use Rattle.expander.proofs.macros.perform.Goals.{Start}

-- the memory lent
abbrev lent : Start → Memory → Memory
lent c b =
    let a = c.args in
    input_at a.text.now a.set.now
    (pending_at a.pending.now
    (definitions_at a.definitions.now a.table_ends.now
    (sinks_at a.streams.now a.owners.now a.output.now (wrap_at a.wrap.now (errors_at a.errors.now b)))))

-- and what the rest holds in some state that is represented
abbrev ours : Start → Memory
ours c = lent c c.requires.valid.others

pub define-requires : goal.define-requires
define-requires c = record { valid = valid_at (ours (goal.at.define-requires c).Start) c.requires.valid.represents }

pub dnl-requires : goal.dnl-requires
dnl-requires c = valid_at (ours (goal.at.dnl-requires c).Start) c.requires.valid.represents

pub errprint-requires : goal.errprint-requires
errprint-requires c = record { valid = valid_at (ours (goal.at.errprint-requires c).Start) c.requires.valid.represents }

pub m4wrap-requires : goal.m4wrap-requires
m4wrap-requires c = record { valid = valid_at (ours (goal.at.m4wrap-requires c).Start) c.requires.valid.represents }

pub popdef-requires : goal.popdef-requires
popdef-requires c = record { valid = valid_at (ours (goal.at.popdef-requires c).Start) c.requires.valid.represents }

pub pushdef-requires : goal.pushdef-requires
pushdef-requires c = record { valid = valid_at (ours (goal.at.pushdef-requires c).Start) c.requires.valid.represents }

pub undefine-requires : goal.undefine-requires
undefine-requires c = record { valid = valid_at (ours (goal.at.undefine-requires c).Start) c.requires.valid.represents }

pub copydef-requires : goal.copydef-requires
copydef-requires c = record { valid = valid_at (ours (goal.at.copydef-requires c).Start) c.requires.valid.represents }

pub undivert-requires-clause-valid : goal.undivert-requires-clause-valid
undivert-requires-clause-valid c = valid_at (ours (goal.at.undivert-requires-clause-valid c).Start) c.requires.valid.represents

pub give_number-requires : goal.give_number-requires
give_number-requires c = valid_of (ours (goal.at.give_number-requires c).Start) c.args.m c.requires.valid.represents

pub give_contents-requires : goal.give_contents-requires
give_contents-requires c = record { valid_at = valid_of (ours (goal.at.give_contents-requires c).Start) c.args.m c.requires.valid.represents }

pub give_contents-requires-in-Sinclude : goal.give_contents-requires-in-Sinclude
give_contents-requires-in-Sinclude c = record { valid_at = valid_of (ours (goal.at.give_contents-requires-in-Sinclude c).Start) c.args.m c.requires.valid.represents }

pub returns-in-Changecom : goal.returns-in-Changecom
unfolding change_call call_divnum call_include include_result call_sinclude sinclude_result unknown call_nothing number_text
returns-in-Changecom c = λ a s b m. refines_told change_call (c.in-Some.is ∙ ap Some c.in-Changecom.is) c.change_macro.ensures (args_of c.args.x) s (c.changecom.ensures a s (lent (goal.at.returns-in-Changecom c).Start b) m)

pub returns-in-Changequote : goal.returns-in-Changequote
unfolding change_call call_divnum call_include include_result call_sinclude sinclude_result unknown call_nothing number_text
returns-in-Changequote c = λ a s b m. refines_told change_call (c.in-Some.is ∙ ap Some c.in-Changequote.is) c.change_macro.ensures (args_of c.args.x) s (c.changequote.ensures a s (lent (goal.at.returns-in-Changequote c).Start b) m)

pub returns-in-Define : goal.returns-in-Define
unfolding change_call call_divnum call_include include_result call_sinclude sinclude_result unknown call_nothing number_text
returns-in-Define c = λ a s b m. refines_told change_call (c.in-Some.is ∙ ap Some c.in-Define.is) c.change_macro.ensures (args_of c.args.x) s (c.define.ensures a s (lent (goal.at.returns-in-Define c).Start b) m)

pub returns-in-Divert : goal.returns-in-Divert
unfolding change_call call_divnum call_include include_result call_sinclude sinclude_result unknown call_nothing number_text
returns-in-Divert c = λ a s b m. refines_told change_call (c.in-Some.is ∙ ap Some c.in-Divert.is) c.change_macro.ensures (args_of c.args.x) s (c.divert.ensures a s (lent (goal.at.returns-in-Divert c).Start b) m)

pub returns-in-Dnl : goal.returns-in-Dnl
unfolding change_call call_divnum call_include include_result call_sinclude sinclude_result unknown call_nothing number_text
returns-in-Dnl c = λ a s b m. refines_told change_call (c.in-Some.is ∙ ap Some c.in-Dnl.is) c.change_macro.ensures (args_of c.args.x) s (c.dnl.ensures a s (lent (goal.at.returns-in-Dnl c).Start b) (args_of c.args.x) m)

pub returns-in-Errprint : goal.returns-in-Errprint
unfolding change_call call_divnum call_include include_result call_sinclude sinclude_result unknown call_nothing number_text
returns-in-Errprint c = λ a s b m. refines_told change_call (c.in-Some.is ∙ ap Some c.in-Errprint.is) c.change_macro.ensures (args_of c.args.x) s (c.errprint.ensures a s (lent (goal.at.returns-in-Errprint c).Start b) m)

pub returns-in-M4exit : goal.returns-in-M4exit
unfolding change_call call_divnum call_include include_result call_sinclude sinclude_result unknown call_nothing number_text
returns-in-M4exit c = λ a s b m. refines_told change_call (c.in-Some.is ∙ ap Some c.in-M4exit.is) c.change_macro.ensures (args_of c.args.x) s (c.m4exit.ensures a s (lent (goal.at.returns-in-M4exit c).Start b) m)

pub returns-in-M4wrap : goal.returns-in-M4wrap
unfolding change_call call_divnum call_include include_result call_sinclude sinclude_result unknown call_nothing number_text
returns-in-M4wrap c = λ a s b m. refines_told change_call (c.in-Some.is ∙ ap Some c.in-M4wrap.is) c.change_macro.ensures (args_of c.args.x) s (c.m4wrap.ensures a s (lent (goal.at.returns-in-M4wrap c).Start b) m)

pub returns-in-Popdef : goal.returns-in-Popdef
unfolding change_call call_divnum call_include include_result call_sinclude sinclude_result unknown call_nothing number_text
returns-in-Popdef c = λ a s b m. refines_told change_call (c.in-Some.is ∙ ap Some c.in-Popdef.is) c.change_macro.ensures (args_of c.args.x) s (c.popdef.ensures a s (lent (goal.at.returns-in-Popdef c).Start b) m)

pub returns-in-Pushdef : goal.returns-in-Pushdef
unfolding change_call call_divnum call_include include_result call_sinclude sinclude_result unknown call_nothing number_text
returns-in-Pushdef c = λ a s b m. refines_told change_call (c.in-Some.is ∙ ap Some c.in-Pushdef.is) c.change_macro.ensures (args_of c.args.x) s (c.pushdef.ensures a s (lent (goal.at.returns-in-Pushdef c).Start b) m)

pub returns-in-Undefine : goal.returns-in-Undefine
unfolding change_call call_divnum call_include include_result call_sinclude sinclude_result unknown call_nothing number_text
returns-in-Undefine c = λ a s b m. refines_told change_call (c.in-Some.is ∙ ap Some c.in-Undefine.is) c.change_macro.ensures (args_of c.args.x) s (c.undefine.ensures a s (lent (goal.at.returns-in-Undefine c).Start b) m)

pub returns-in-Undivert : goal.returns-in-Undivert
unfolding change_call call_divnum call_include include_result call_sinclude sinclude_result unknown call_nothing number_text
returns-in-Undivert c = λ a s b m. refines_told change_call (c.in-Some.is ∙ ap Some c.in-Undivert.is) c.change_macro.ensures (args_of c.args.x) s (c.undivert.ensures a s (lent (goal.at.returns-in-Undivert c).Start b) m)

pub returns-in-Copydef : goal.returns-in-Copydef
unfolding change_call call_divnum call_include include_result call_sinclude sinclude_result unknown call_nothing number_text
returns-in-Copydef c = λ a s b m. refines_told change_call (c.in-Some.is ∙ ap Some c.in-Copydef.is) c.change_macro.ensures (args_of c.args.x) s (c.copydef.ensures a s (lent (goal.at.returns-in-Copydef c).Start b) m)

pub returns-in-Divnum : goal.returns-in-Divnum
unfolding change_call call_divnum call_include include_result call_sinclude sinclude_result unknown call_nothing number_text
returns-in-Divnum c =
    let d = rw (to_z-of_z w32 c.args.m.sinks.current (search rules)) at c.divnum.ensures in
    λ a s b m.
    refines_told change_call (c.in-Some.is ∙ ap Some c.in-Divnum.is) c.change_macro.ensures (args_of c.args.x) s
    (refines_given c.given.ensures
    (refines_as (giving_text _ s (ap answered (ap divnum_result m.sinks.current) ∙ sym d)) (c.give_number.ensures a s (lent (goal.at.returns-in-Divnum c).Start b) c.args.m m)))

pub returns-in-Include : goal.returns-in-Include
unfolding change_call call_divnum call_include include_result call_sinclude sinclude_result unknown call_nothing number_text
returns-in-Include c =
    λ a s b m.
    refines_told change_call (c.in-Some.is ∙ ap Some c.in-Include.is) c.change_macro.ensures (args_of c.args.x) s (refines_given c.given-in-Include.ensures (c.give_contents.ensures a s (lent (goal.at.returns-in-Include c).Start b) c.args.m m))

pub returns-in-Sinclude : goal.returns-in-Sinclude
unfolding change_call call_divnum call_include include_result call_sinclude sinclude_result unknown call_nothing number_text
returns-in-Sinclude c =
    λ a s b m.
    refines_told change_call (c.in-Some.is ∙ ap Some c.in-Sinclude.is) c.change_macro.ensures (args_of c.args.x) s (refines_given c.given-in-Sinclude.ensures (c.give_contents-in-Sinclude.ensures a s (lent (goal.at.returns-in-Sinclude c).Start b) c.args.m m))

pub returns-in_default : goal.returns-in_default
unfolding change_call call_divnum call_include include_result call_sinclude sinclude_result unknown call_nothing number_text
returns-in_default c = λ a s b m. refines_told change_call c.in_default.is c.change_macro.ensures (args_of c.args.x) s (refines_gone c.refused.ensures)

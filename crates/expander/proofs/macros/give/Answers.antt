-- `expander::macros::give` meets its contract: the macro that the number stands for. Assumes nothing.
use Rattle.rules.proofs.Base.{refl, sym, ap, ◌∙◌, Some}
use Rattle.std.proofs.lemmas.Result.{err_from_is_err_and}
use Rattle.rules.specs.Macros.{call_decr, call_eval, call_ifdef, call_ifelse, call_incr, call_len, call_substr, call_nothing}
use Rattle.builtins.specs.Builtins.{result_call}
use Rattle.expander.specs.declared.machine.Machine.{Machine}
use Rattle.expander.specs.Arguments.{args_of}
use Rattle.expander.specs.Giving.{pushed_step}
use Rattle.expander.specs.Results.{number_text, part_text}
use Rattle.expander.specs.Machine.{Memory, definitions_at, marks_set, table_set, source_set}
use Rattle.expander.proofs.GivingLaws.{giving_answered, giving_text}
use Rattle.expander.proofs.MacroLaws.{refines_told, refines_gone, valid_less}
use Rattle.expander.proofs.SteppedLaws.{refines_as}
use Rattle.expander.proofs.macros.give.Goals as goal
use Rattle.expander.proofs.macros.give.Goals.{Start}

-- the memory lent, and the machine, of which parts are lent
abbrev lent : Start → Memory → Memory
lent c b = definitions_at c.args.definitions.now c.args.table_ends.now b

abbrev made : Start → Machine → Machine
made c m = source_set c.args.p (marks_set c.args.marks (table_set c.args.table m))

pub give_number-requires : goal.give_number-requires
give_number-requires c = let p = c.requires.valid_at in valid_less p p.valid.represents

pub give_number-requires-in-Eval : goal.give_number-requires-in-Eval
give_number-requires-in-Eval c = let p = c.requires.valid_at in valid_less p p.valid.represents

pub give_slice-requires : goal.give_slice-requires
give_slice-requires c = let p = c.requires.valid_at in valid_less p p.valid.represents

pub give_slice-requires-in-Ifelse : goal.give_slice-requires-in-Ifelse
give_slice-requires-in-Ifelse c = let p = c.requires.valid_at in valid_less p p.valid.represents

pub give_number-requires-in-Incr : goal.give_number-requires-in-Incr
give_number-requires-in-Incr c = let p = c.requires.valid_at in valid_less p p.valid.represents

pub give_number-requires-in-Len : goal.give_number-requires-in-Len
give_number-requires-in-Len c = let p = c.requires.valid_at in valid_less p p.valid.represents

pub give_shift-requires : goal.give_shift-requires
give_shift-requires c = let p = c.requires.valid_at in record { valid_at = valid_less p p.valid.represents }

pub give_slice-requires-in-Substr : goal.give_slice-requires-in-Substr
give_slice-requires-in-Substr c = let p = c.requires.valid_at in valid_less p p.valid.represents

pub give_translit-requires : goal.give_translit-requires
give_translit-requires c = let p = c.requires.valid_at in record { valid_at = valid_less p p.valid.represents }

pub returns-in_err-decr-in-Decr : goal.returns-in_err-decr-in-Decr
unfolding result_call call_decr call_eval call_ifdef call_ifelse call_incr call_len call_substr call_nothing pushed_step number_text part_text
returns-in_err-decr-in-Decr c =
    let p = err_from_is_err_and c.from_residual.result c.from_residual.ensures.1 in
    rw (p.1, p.2)
    (λ a s b m r.
    refines_told result_call (c.in-Some.is ∙ ap Some c.in-Decr.is) c.result_macro.ensures (args_of c.args.x) s (giving_answered _ r (sym c.in_err-decr-in-Decr.ensures)))

pub returns-in_err-eval-in-Eval : goal.returns-in_err-eval-in-Eval
unfolding result_call call_decr call_eval call_ifdef call_ifelse call_incr call_len call_substr call_nothing pushed_step number_text part_text
returns-in_err-eval-in-Eval c =
    let p = err_from_is_err_and c.from_residual-in_err-eval-in-Eval.result c.from_residual-in_err-eval-in-Eval.ensures.1 in
    rw (p.1, p.2)
    (λ a s b m r.
    refines_told result_call (c.in-Some.is ∙ ap Some c.in-Eval.is) c.result_macro.ensures (args_of c.args.x) s (giving_answered _ r (sym c.in_err-eval-in-Eval.ensures)))

pub returns-in_err-incr-in-Incr : goal.returns-in_err-incr-in-Incr
unfolding result_call call_decr call_eval call_ifdef call_ifelse call_incr call_len call_substr call_nothing pushed_step number_text part_text
returns-in_err-incr-in-Incr c =
    let p = err_from_is_err_and c.from_residual-in_err-incr-in-Incr.result c.from_residual-in_err-incr-in-Incr.ensures.1 in
    rw (p.1, p.2)
    (λ a s b m r.
    refines_told result_call (c.in-Some.is ∙ ap Some c.in-Incr.is) c.result_macro.ensures (args_of c.args.x) s (giving_answered _ r (sym c.in_err-incr-in-Incr.ensures)))

pub returns-in_err-substr-in-Substr : goal.returns-in_err-substr-in-Substr
unfolding result_call call_decr call_eval call_ifdef call_ifelse call_incr call_len call_substr call_nothing pushed_step number_text part_text
returns-in_err-substr-in-Substr c =
    let p = err_from_is_err_and c.from_residual-in_err-substr-in-Substr.result c.from_residual-in_err-substr-in-Substr.ensures.1 in
    rw (p.1, p.2)
    (λ a s b m r.
    refines_told result_call (c.in-Some.is ∙ ap Some c.in-Substr.is) c.result_macro.ensures (args_of c.args.x) s (giving_answered _ r (sym c.in_err-substr-in-Substr.ensures)))

pub returns-in_ok-decr-in-Decr : goal.returns-in_ok-decr-in-Decr
unfolding result_call call_decr call_eval call_ifdef call_ifelse call_incr call_len call_substr call_nothing pushed_step number_text part_text
returns-in_ok-decr-in-Decr c =
    λ a s b m r.
    refines_told result_call (c.in-Some.is ∙ ap Some c.in-Decr.is) c.result_macro.ensures (args_of c.args.x) s
    (refines_as (giving_text _ s (sym c.in_ok-decr-in-Decr.ensures)) (c.give_number.ensures a s (lent (goal.at.returns-in_ok-decr-in-Decr c).Start b) (made (goal.at.returns-in_ok-decr-in-Decr c).Start m) r))

pub returns-in_ok-eval-in-Eval : goal.returns-in_ok-eval-in-Eval
unfolding result_call call_decr call_eval call_ifdef call_ifelse call_incr call_len call_substr call_nothing pushed_step number_text part_text
returns-in_ok-eval-in-Eval c =
    λ a s b m r.
    refines_told result_call (c.in-Some.is ∙ ap Some c.in-Eval.is) c.result_macro.ensures (args_of c.args.x) s
    (refines_as (giving_text _ s (sym c.in_ok-eval-in-Eval.ensures)) (c.give_number-in-Eval.ensures a s (lent (goal.at.returns-in_ok-eval-in-Eval c).Start b) (made (goal.at.returns-in_ok-eval-in-Eval c).Start m) r))

pub returns-in_ok-incr-in-Incr : goal.returns-in_ok-incr-in-Incr
unfolding result_call call_decr call_eval call_ifdef call_ifelse call_incr call_len call_substr call_nothing pushed_step number_text part_text
returns-in_ok-incr-in-Incr c =
    λ a s b m r.
    refines_told result_call (c.in-Some.is ∙ ap Some c.in-Incr.is) c.result_macro.ensures (args_of c.args.x) s
    (refines_as (giving_text _ s (sym c.in_ok-incr-in-Incr.ensures)) (c.give_number-in-Incr.ensures a s (lent (goal.at.returns-in_ok-incr-in-Incr c).Start b) (made (goal.at.returns-in_ok-incr-in-Incr c).Start m) r))

pub returns-in_ok-substr-in-Substr : goal.returns-in_ok-substr-in-Substr
unfolding result_call call_decr call_eval call_ifdef call_ifelse call_incr call_len call_substr call_nothing pushed_step number_text part_text
returns-in_ok-substr-in-Substr c =
    λ a s b m r.
    refines_told result_call (c.in-Some.is ∙ ap Some c.in-Substr.is) c.result_macro.ensures (args_of c.args.x) s
    (refines_as (giving_text _ s (sym c.in_ok-substr-in-Substr.ensures)) (c.give_slice-in-Substr.ensures a s (lent (goal.at.returns-in_ok-substr-in-Substr c).Start b) (made (goal.at.returns-in_ok-substr-in-Substr c).Start m) r))

pub returns-in-Len : goal.returns-in-Len
unfolding result_call call_decr call_eval call_ifdef call_ifelse call_incr call_len call_substr call_nothing pushed_step number_text part_text
returns-in-Len c =
    λ a s b m r.
    refines_told result_call (c.in-Some.is ∙ ap Some c.in-Len.is) c.result_macro.ensures (args_of c.args.x) s (refines_as (giving_text _ s (sym c.len.ensures)) (c.give_number-in-Len.ensures a s (lent (goal.at.returns-in-Len c).Start b) (made (goal.at.returns-in-Len c).Start m) r))

pub returns-in-Ifdef : goal.returns-in-Ifdef
unfolding result_call call_decr call_eval call_ifdef call_ifelse call_incr call_len call_substr call_nothing pushed_step number_text part_text
returns-in-Ifdef c =
    λ a s b m r.
    refines_told result_call (c.in-Some.is ∙ ap Some c.in-Ifdef.is) c.result_macro.ensures (args_of c.args.x) s (refines_as (giving_text _ s (sym (c.ifdef.ensures s.table r.table))) (c.give_slice.ensures a s (lent (goal.at.returns-in-Ifdef c).Start b) (made (goal.at.returns-in-Ifdef c).Start m) r))

pub returns-in-Ifelse : goal.returns-in-Ifelse
unfolding result_call call_decr call_eval call_ifdef call_ifelse call_incr call_len call_substr call_nothing pushed_step number_text part_text
returns-in-Ifelse c =
    λ a s b m r.
    refines_told result_call (c.in-Some.is ∙ ap Some c.in-Ifelse.is) c.result_macro.ensures (args_of c.args.x) s (refines_as (giving_text _ s (sym c.ifelse.ensures)) (c.give_slice-in-Ifelse.ensures a s (lent (goal.at.returns-in-Ifelse c).Start b) (made (goal.at.returns-in-Ifelse c).Start m) r))

pub returns-in-Defn : goal.returns-in-Defn
unfolding result_call call_decr call_eval call_ifdef call_ifelse call_incr call_len call_substr call_nothing pushed_step number_text part_text
returns-in-Defn c = λ a s b m r. refines_told result_call (c.in-Some.is ∙ ap Some c.in-Defn.is) c.result_macro.ensures (args_of c.args.x) s (c.give_defn.ensures a s b (made (goal.at.returns-in-Defn c).Start m) r)

pub returns-in-Shift : goal.returns-in-Shift
unfolding result_call call_decr call_eval call_ifdef call_ifelse call_incr call_len call_substr call_nothing pushed_step number_text part_text
returns-in-Shift c = λ a s b m r. refines_told result_call (c.in-Some.is ∙ ap Some c.in-Shift.is) c.result_macro.ensures (args_of c.args.x) s (c.give_shift.ensures a s (lent (goal.at.returns-in-Shift c).Start b) (made (goal.at.returns-in-Shift c).Start m) r)

pub returns-in-Translit : goal.returns-in-Translit
unfolding result_call call_decr call_eval call_ifdef call_ifelse call_incr call_len call_substr call_nothing pushed_step number_text part_text
returns-in-Translit c = λ a s b m r. refines_told result_call (c.in-Some.is ∙ ap Some c.in-Translit.is) c.result_macro.ensures (args_of c.args.x) s (c.give_translit.ensures a s (lent (goal.at.returns-in-Translit c).Start b) (made (goal.at.returns-in-Translit c).Start m) r)

pub returns-in_default : goal.returns-in_default
unfolding result_call call_decr call_eval call_ifdef call_ifelse call_incr call_len call_substr call_nothing pushed_step number_text part_text
returns-in_default c = λ a s b m r. refines_told result_call c.in_default.is c.result_macro.ensures (args_of c.args.x) s (refines_gone refl)

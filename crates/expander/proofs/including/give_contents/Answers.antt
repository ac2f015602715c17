-- `expander::including::give_contents` meets its contract: the first item with the name, or none. Assumes nothing.
use Rattle.rules.proofs.Base.{◌∙◌, refl, sym, ap, []}
use Rattle.rules.specs.Answers.{no_item, fault_answer}
use Rattle.expander.specs.Arguments.{args_of}
use Rattle.expander.specs.Machine.{set_at}
use Rattle.expander.specs.Results.{unknown}
use Rattle.expander.proofs.GivingLaws.{giving_refused, giving_fails, giving_yields, giving_front}
use Rattle.expander.proofs.IncludingLaws.{placed_here, contents_unknown, contents_known}
use Rattle.container.proofs.FoundLaws.{found_none, found_at}
use Rattle.expander.proofs.MacroLaws.{valid_less}
use Rattle.expander.proofs.SteppedLaws.{refines_as}
use Rattle.expander.proofs.including.give_contents.Goals as goal

pub give_item-requires : goal.give_item-requires
give_item-requires c = let p = c.requires.valid_at in valid_less p p.valid.represents

pub returns-in-Some : goal.returns-in-Some
returns-in-Some c =
    λ a s b m r.
    let f = found_at _ _ r.set (sym c.in-Some.is ∙ c.find.ensures) in
    refines_as (giving_yields s (contents_known _ s.set (args_of c.args.x) c.argument-name.ensures f.named))
    (c.give_item.ensures a s (set_at c.args.set.now b) m f.text r f.stands f.long)

pub returns-in-None : goal.returns-in-None
unfolding unknown fault_answer
returns-in-None c =
    λ a s b m r.
    let absent = found_none _ _ r.set (sym c.in-None.is ∙ c.find.ensures) in
    giving_refused r no_item (giving_fails s (contents_unknown _ s.set (args_of c.args.x) c.argument-name.ensures absent ∙ ap unknown c.if-needed.true))

pub returns-in-None-2 : goal.returns-in-None-2
unfolding unknown
returns-in-None-2 c =
    λ a s b m r.
    let absent = found_none _ _ r.set (sym c.in-None-2.is ∙ c.find.ensures) in
    refines_as (giving_yields s (contents_unknown _ s.set (args_of c.args.x) c.argument-name.ensures absent ∙ ap unknown c.if-needed.false))
    (giving_front r [] 0 refl (placed_here c.args.p.from) refl refl)

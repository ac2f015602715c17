-- `expander::events::token_event` meets its contract. Assumes nothing.
use Rattle.rules.proofs.Base.{◌∙◌, refl, ap}
use Rattle.rules.specs.declared.Reading.TheVariants.{Is}
use Rattle.expander.specs.Events.{PlainWithin, SpecialWithin, EventWithin}
use Rattle.expander.specs.Machine.{text_at, pending_at, stack_at, definitions_at}
use Rattle.expander.proofs.EventLaws.{within_as, is_as, end_is, comment_is, quoted_is, byte_ahead}
use Rattle.expander.proofs.StepLaws.{lends, acts, end_place, reach_comment, reach_quoted, reach_name, quoted_order}
use Rattle.expander.proofs.events.token_event.Goals as goal

pub overflow_sub-result : goal.overflow_sub-result
overflow_sub-result c =
    let a = c.args in
    quoted_order a.text.now a.pending.now a.m.source c.in-Quoted.is c.requires.token_within

pub name_event-requires : goal.name_event-requires
name_event-requires c = record { valid = lends c.requires.valid refl; reach = reach_name c.in-Name.is c.requires.token_within; hash_value = c.requires.name_hashed.name _ (ap Is c.in-Name.is); scratch_len = c.requires.scratch_len }

pub byte_event-requires : goal.byte_event-requires
byte_event-requires c =
    lends c.requires.valid refl

pub returns-in-End : goal.returns-in-End
unfolding EventWithin SpecialWithin
returns-in-End c =
    let q = c.in-End.is in record { within = end_place c.requires.valid.represents.source q c.requires.token_within; is = λ a s b r e. end_is s e q }

pub returns-in-Comment : goal.returns-in-Comment
unfolding EventWithin PlainWithin
returns-in-Comment c =
    let q = c.in-Comment.is in record { within = within_as c.whole.ensures _ _ _ (reach_comment q c.requires.token_within); is = λ a s b r e. is_as c.whole.ensures s (comment_is s e q) }

pub returns-in-Quoted : goal.returns-in-Quoted
unfolding EventWithin PlainWithin
returns-in-Quoted c =
    let q = c.in-Quoted.is in record { within = reach_quoted q c.requires.token_within; is = λ a s b r e. quoted_is s e q }

pub returns-in-Name : goal.returns-in-Name
returns-in-Name c = record { within = c.name_event.ensures.within; is = λ a s b r e. c.name_event.ensures.is a s (stack_at _ b) r (e ∙ acts c.in-Name.is s) }

pub returns-in-Byte : goal.returns-in-Byte
returns-in-Byte c =
    let q = c.in-Byte.is in record { within = c.byte_event.ensures.within _ _ (byte_ahead _ _ _ q c.requires.token_within); is = λ a s b r e. c.byte_event.ensures.is a s (text_at _ (pending_at _ (definitions_at _ _ b))) r (e ∙ acts q s) }

-- `expander::events::event_ahead` meets its contract. Assumes nothing.
use Rattle.expander.specs.Events.{SpecialWithin, EventWithin, SpecialIs, EventIs}
use Rattle.expander.proofs.StepLaws.{token_lies, token_hashed, step_token, step_quote, step_comment}
use Rattle.expander.proofs.events.event_ahead.Goals as goal

pub token_event-requires : goal.token_event-requires
token_event-requires c = record { valid = c.requires.valid; token_within = token_lies c.requires.valid.represents c.ahead.ensures c.read_token-read.ensures.within _ c.in-Is.is; name_hashed = token_hashed c.requires.valid.represents c.ahead.ensures c.read_token-read.ensures.hashed c.in-Is.is; scratch_len = c.requires.scratch_len }

pub returns-in-OpenQuote : goal.returns-in-OpenQuote
unfolding EventWithin SpecialWithin EventIs SpecialIs
returns-in-OpenQuote c = record { within = tt; is = λ a s b r. step_quote r c.ahead.ensures c.read_token-read.ensures.read c.in-OpenQuote.is }

pub returns-in-OpenComment : goal.returns-in-OpenComment
unfolding EventWithin SpecialWithin EventIs SpecialIs
returns-in-OpenComment c = record { within = tt; is = λ a s b r. step_comment r c.ahead.ensures c.read_token-read.ensures.read c.in-OpenComment.is }

pub returns-in-Is : goal.returns-in-Is
returns-in-Is c = record { within = c.token_event.ensures.within; is = λ a s b r. c.token_event.ensures.is a s b r (step_token r c.ahead.ensures c.read_token-read.ensures.read c.in-Is.is) }

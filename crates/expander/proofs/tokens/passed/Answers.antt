-- `expander::tokens::passed` meets its contract. Assumes nothing.
use Rattle.rules.proofs.Base.{◌∙◌, sym, arith, length-append, rules}
use Rattle.expander.specs.Source.{bytes_of}
use Rattle.expander.proofs.Quotes.{end_passed, begin_passed, byte_passed}
use Rattle.expander.proofs.MarkPlaces.{at_room}
use Rattle.expander.proofs.tokens.passed.Goals as goal

pub returns-then-stands : goal.returns-then-stands
returns-then-stands c =
    let a = c.args in
    end_passed a.begin a.end (bytes_of a.ahead) a.i a.depth (search rules) (search rules) c.requires _ c.mark_length.ensures.whole (sym c.stands.ensures ∙ c.if-stands.true)

pub returns-then-stands-2 : goal.returns-then-stands-2
returns-then-stands-2 c =
    let a = c.args in
    begin_passed a.begin a.end (bytes_of a.ahead) a.i a.depth (search rules) (search rules) c.requires _ c.mark_length-then-stands-2.ensures.whole (sym c.stands.ensures ∙ c.if-stands.false) (sym c.stands-2.ensures ∙ c.if-stands-2.true)

pub returns : goal.returns
returns c =
    let a = c.args in
    byte_passed a.begin a.end (bytes_of a.ahead) a.i a.depth (search rules) (search rules) c.requires (sym c.stands.ensures ∙ c.if-stands.false) (sym c.stands-2.ensures ∙ c.if-stands-2.false)

pub overflow_add-place : goal.overflow_add-place
overflow_add-place c =
    let a = c.args in
    omega (arith, at_room _ (bytes_of a.ahead) a.i (omega (arith, c.requires.within)) (sym c.stands.ensures ∙ c.if-stands.true), c.mark_length.ensures.whole, length-append a.ahead.front.now a.ahead.rest.now)

pub overflow_add-place-then-stands-2 : goal.overflow_add-place-then-stands-2
overflow_add-place-then-stands-2 c =
    let a = c.args in
    omega (arith, at_room _ (bytes_of a.ahead) a.i (omega (arith, c.requires.within)) (sym c.stands-2.ensures ∙ c.if-stands-2.true), c.mark_length-then-stands-2.ensures.whole, length-append a.ahead.front.now a.ahead.rest.now)

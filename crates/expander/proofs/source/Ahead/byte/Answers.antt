-- `expander::source::Ahead::byte` meets its contract. Assumes nothing.
use Rattle.rules.proofs.Base.{sym, List·getD-append}
use Rattle.expander.proofs.Border.{byte_rest, byte_none}
use Rattle.expander.proofs.source.Ahead.byte.Goals as goal

pub returns-then-k-front : goal.returns-then-k-front
returns-then-k-front c =
    let a = c.args in
    sym (List·getD-append a.self.front.now a.self.rest.now 0 a.k c.if-k-front.true)

pub returns-then-j-rest : goal.returns-then-j-rest
returns-then-j-rest c =
    let a = c.args in
    byte_rest a.self.front.now a.self.rest.now a.k c.if-k-front.false

pub returns : goal.returns
returns c =
    let a = c.args in
    byte_none a.self.front.now a.self.rest.now a.k c.if-k-front.false c.if-j-rest.false

-- `expander::fields::put` meets its contract: one number of a word is exchanged. Assumes nothing.
use Rattle.rules.proofs.Base.{◌+◌, ◌/◌, ◌^◌, ◌<◌, arith, get_or, rules}
use Rattle.expander.proofs.FieldLaws.{fits, put_at}
use Rattle.expander.proofs.fields.put.Goals as goal

pub overflow_mul-words-2 : goal.overflow_mul-words-2
overflow_mul-words-2 g c =
    let a = c.args in
    let word : get_or a.words.now (a.start + a.i / (32 / g.row.WIDTH)) 0 < 2 ^ 32 = search rules in
    omega (arith, (fits g.row.WIDTH c.requires.width a.i _ a.x c.requires.x_fits word).new)

pub overflow_add-words : goal.overflow_add-words
overflow_add-words g c =
    let a = c.args in
    let word : get_or a.words.now (a.start + a.i / (32 / g.row.WIDTH)) 0 < 2 ^ 32 = search rules in
    omega (arith, (fits g.row.WIDTH c.requires.width a.i _ a.x c.requires.x_fits word).whole)

pub returns : goal.returns
returns g c = let a = c.args in put_at g.row.WIDTH c.requires.width a.i a.start a.x c.requires.x_fits a.words.now c.requires.in_bounds

-- `lines::bits::word_of` meets its contract: the fold, and what it comes to. Assumes nothing.
use Rattle.rules.proofs.Base.{◌≤◌, ◌≡◌, ◌∙◌, min, ap, arith, take, length, length-take, rules}
use Rattle.std.proofs.Common.{reverse}
use Rattle.std.specs.List.{fold}
use Rattle.std.proofs.lemmas.List.{take_min}
use Rattle.std.proofs.iter.runs.Made.{chains}
use Rattle.rules.specs.Bytes.{Bytes}
use Rattle.rules.specs.Lines.{newline_bit, newline_bits}
use Rattle.lines.proofs.WordLaws.{gather, gathered}
use Rattle.lines.proofs.bits.word_of.Goals as goal

pub returns : goal.returns
unfolding newline_bit gather
returns c =
    let front : Bytes = take (min 64 (length c.args.text.now)) c.args.text.now in
    let e : c.fold.result ≡ fold gather 0 (reverse front) = search (rules, chains) in
    let few : length front ≤ 64 = omega (arith, length-take (min 64 (length c.args.text.now)) c.args.text.now) in
    e ∙ gathered front few ∙ ap newline_bits (take_min 64 c.args.text.now)

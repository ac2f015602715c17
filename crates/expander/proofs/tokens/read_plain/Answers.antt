-- `expander::tokens::read_plain` meets its contract. Assumes nothing.
use Rattle.rules.proofs.Base.{◌∙◌, sym}
use Rattle.expander.specs.Source.{bytes_of}
use Rattle.expander.proofs.Reading.{plain_name, plain_byte}
use Rattle.expander.proofs.Scanning.{scanned_long, scanned_hash, name_hashed, no_name}
use Rattle.expander.proofs.tokens.read_plain.Goals as goal

pub scan_name-n-requires : goal.scan_name-n-requires
scan_name-n-requires c = (c.requires, sym c.begins_name.ensures ∙ c.if-begins_name.true)

pub returns-then-begins_name : goal.returns-then-begins_name
returns-then-begins_name c =
    let a = c.args in
    let text = bytes_of a.ahead in
    let n = c.scan_name-n.ensures in record { read = plain_name text _ c.requires (sym c.begins_name.ensures ∙ c.if-begins_name.true) _ (scanned_long text n); hashed = name_hashed text _ (scanned_hash text n) }

pub returns : goal.returns
returns c =
    let a = c.args in
    let text = bytes_of a.ahead in record { read = plain_byte text _ c.requires (sym c.begins_name.ensures ∙ c.if-begins_name.false); hashed = no_name text _ tt }

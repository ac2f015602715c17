-- `sheet::look_up` meets its contract: the first of the lines that has the name. Assumes nothing.
use Rattle.rules.proofs.Base.{◌∙◌, ◌≡◌, sym, ap, Bool, take}
use Rattle.std.proofs.Common.{rules, tests}
use denote.Ref.{Bor}
use Rattle.std.specs.List.{find}
use Rattle.std.specs.Option.{option_map}
use Rattle.std.proofs.lemmas.Iterator.{YieldsList-from_slice, YieldsList-from_take}
use Rattle.std.proofs.lemmas.Iterator.Search.{find_from_yields_List}
use Rattle.rules.specs.declared.Entry.{Entry}
use Rattle.rules.specs.Bytes.{Bytes}
use Rattle.rules.specs.Sheets.{question, is_named, unused_line}
use Rattle.sheet.proofs.Questions.{found_first}
use Rattle.sheet.proofs.look_up.Goals as goal
use Rattle.sheet.proofs.look_up.Goals.{After-find}

-- whether a line has the name
abbrev test : Bytes → Bytes → Entry → Bool
test text name e = is_named text name (record { name = e.name; length = e.length; value = unused_line.value })

found : (c : After-find) → option_map (λ (x : Bor Entry). x.now) c.find.result ≡ find (test c.args.text.now c.args.name.now) (take c.args.sheet.now.count c.args.sheet.now.lines)
found c =
    find_from_yields_List (test c.args.text.now c.args.name.now) _ _ c.find.result c.find.ensures.ran
    (YieldsList-from_take c.args.sheet.now.count (YieldsList-from_slice c.args.sheet.now.lines cc) cc)
    (λ x b q k. search (rules, tests))

pub returns-in_err-line : goal.returns-in_err-line
unfolding question
returns-in_err-line c =
    c.from_residual.ensures
    ∙ ap (option_map (λ (e : Entry). e.value)) (ap (option_map (λ (x : Bor Entry). x.now)) (sym c.in_err-line.was) ∙ found (goal.at.returns-in_err-line c).After-find)
    ∙ found_first c.args.text.now c.args.name.now (take c.args.sheet.now.count c.args.sheet.now.lines)

pub returns : goal.returns
unfolding question
returns c =
    ap (option_map (λ (e : Entry). e.value)) (ap (option_map (λ (x : Bor Entry). x.now)) (sym c.in_ok-line.was) ∙ found (goal.at.returns c).After-find)
    ∙ found_first c.args.text.now c.args.name.now (take c.args.sheet.now.count c.args.sheet.now.lines)

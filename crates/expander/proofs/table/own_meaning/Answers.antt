-- `expander::table::own_meaning` meets its contract: the number that the bucket tells of is confirmed, then the laws of the mask. Assumes nothing.
use Rattle.rules.proofs.Base.{sym, ◌∙◌, arith}
use Rattle.builtins.proofs.Naming.{number_few}
use Rattle.expander.proofs.MaskLaws.{own_none, own_kept, own_gone}
use Rattle.expander.proofs.table.own_meaning.Goals as goal

pub returns-in-Some : goal.returns-in-Some
returns-in-Some c =
    own_kept c.args.name.now (sym (c.confirmed.ensures.number c.requires) ∙ c.in-Some.is) c.args.own c.keeps_own.ensures c.if-keeps_own.true

pub returns-in_default : goal.returns-in_default
returns-in_default c =
    own_gone c.args.name.now (sym (c.confirmed.ensures.number c.requires) ∙ c.in-Some.is) c.args.own c.keeps_own.ensures c.if-keeps_own.false

pub returns-in_default-2 : goal.returns-in_default-2
returns-in_default-2 c = own_none c.args.name.now (sym (c.confirmed.ensures.number c.requires) ∙ c.in_default.is) c.args.own

pub keeps_own-requires : goal.keeps_own-requires
keeps_own-requires c =
    let n = number_few c.args.name.now (sym (c.confirmed.ensures.number c.requires) ∙ c.in-Some.is) in
    (n.0, omega (arith, n.1))

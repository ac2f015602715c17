-- `expander::lists::fill_list` meets its contract: the loop keeps that what is left of the list follows. Assumes nothing.
use Rattle.rules.proofs.Base.{sym, subst, arith}
use Rattle.rules.specs.Bytes.{Bytes}
use Rattle.rules.specs.Marks.{mark_texts}
use Rattle.expander.specs.Arguments.{args_of}
use Rattle.expander.specs.Filled.{Filled}
use Rattle.expander.proofs.ArgumentLaws.{held_in, few_arguments}
use Rattle.expander.proofs.FilledLaws.{filled_nothing}
use Rattle.expander.proofs.ListLaws.{left_none, list_none, written_all, next_room, next_written, first_room, list_begun, list_written}
use Rattle.expander.proofs.lists.fill_list.Goals as goal

pub returns-then-have-skip : goal.returns-then-have-skip
returns-then-have-skip c =
    let a = c.args in
    let e = list_none (held_in a.x) (mark_texts a.marks) a.gap a.skip (omega (arith, c.count-have.ensures)) in
    subst (λ (w : Bytes). Filled a.dst.now a.at w a.dst.now) (sym e) (filled_nothing a.dst.now a.at (omega (arith, c.requires.args_in_bounds)))

pub fill_quoted-to-requires : goal.fill_quoted-to-requires
fill_quoted-to-requires c =
    let a = c.args in (
      c.requires.short_quotes.0,
      first_room (mark_texts a.marks) a.gap a.skip (args_of a.x) (omega (arith, c.count-have.ensures))
          c.argument.ensures a.at _ c.requires.args_in_bounds,
    )

pub loop-k-init : goal.loop-k-init
loop-k-init c =
    let a = c.args in
    let q = c.fill_quoted-to.ensures in
    list_begun (mark_texts a.marks) a.gap a.skip (args_of a.x) (omega (arith, c.count-have.ensures)) c.argument.ensures q.0 q.1 c.requires.args_in_bounds

pub fill_next-to-requires : goal.fill_next-to-requires
fill_next-to-requires c =
    let a = c.args in
    let l = c.loop-k in record {
      short_quotes = (c.requires.short_quotes.0, omega arith, omega (arith, c.count-have.ensures, few_arguments (held_in a.x)));
      args_in_bounds = next_room (mark_texts a.marks) a.gap (args_of a.x) l.k l.invariant (omega (arith, c.count-have.ensures));
    }

pub loop-k-preserved : goal.loop-k-preserved
loop-k-preserved c =
    let a = c.args in
    let l = c.loop-k in
    let f = c.fill_next-to.ensures in
    next_written (mark_texts a.marks) a.gap (args_of a.x) l.k l.invariant (omega (arith, c.count-have.ensures)) f.0 f.1

pub returns : goal.returns
returns c =
    let a = c.args in
    let l = c.loop-k in
    let q = c.fill_quoted-to.ensures in
    let n = c.count-have.ensures in
    list_written (mark_texts a.marks) a.gap a.skip (args_of a.x) (omega (arith, n)) c.argument.ensures q.0 q.1
    (written_all l.invariant (left_none (mark_texts a.marks) a.gap (args_of a.x) l.k (omega (arith, n))))

pub argument-requires : goal.argument-requires
argument-requires c = (omega arith, omega (arith, c.count-have.ensures, few_arguments (held_in c.args.x)))

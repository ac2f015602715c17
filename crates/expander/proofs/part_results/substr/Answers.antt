-- `expander::part_results::substr` meets its contract. Assumes nothing.
use Rattle.rules.proofs.Base.{◌≡◌, ◌≤◌, ◌-◌, ◌∙◌, ap, sym, arith, Some, length, take, drop, length-take}
use Rattle.std.proofs.lemmas.Result.{err_from_is_err_and}
use Rattle.rules.specs.Bytes.{Bytes}
use Rattle.rules.specs.Arguments.{arg, bounded}
use Rattle.rules.specs.Numerals.{number}
use Rattle.expander.specs.Limits.{most_lent}
use Rattle.expander.specs.Arguments.{args_of}
use Rattle.expander.specs.Results.{part_text}
use Rattle.expander.proofs.ArgumentLaws.{held_in, argument_short}
use Rattle.expander.proofs.PartResultLaws.{shows, shows_none, behind_is, front_is, no_start, no_count, start_and_count}
use Rattle.expander.proofs.part_results.substr.Goals as goal
use Rattle.expander.proofs.part_results.substr.Goals.{After-min}

pub returns-in_err-from : goal.returns-in_err-from
unfolding part_text
returns-in_err-from c =
    let p = err_from_is_err_and c.from_residual.result c.from_residual.ensures.1 in
    let e = c.in_err-from.ensures in
    rw (p.1, p.2) (shows_none e.value e.ok_part (no_start (args_of c.args.x) (sym c.natural.ensures ∙ e.ok_part)))

-- what stands behind the start
module _ (c : After-min) where
  abbrev behind : Bytes
  behind = take (length c.argument-text.result.now - c.min.result) (drop c.min.result c.argument-text.result.now)

  from_is : bounded 0 2147483647 (number (arg 2 (args_of c.args.x))) ≡ Some c.in_ok-from.field-0
  from_is = sym c.natural.ensures ∙ c.in_ok-from.ensures.ok_part

  is_behind : behind ≡ drop c.in_ok-from.field-0 (arg 1 (args_of c.args.x))
  is_behind = behind_is c.argument-text.result.now c.in_ok-from.field-0 c.min.result c.min.ensures ∙ ap (drop c.in_ok-from.field-0) c.argument-text.ensures

  short : length behind ≤ most_lent
  short =
      omega (
        arith,
        length-take (length c.argument-text.result.now - c.min.result) (drop c.min.result c.argument-text.result.now),
        ap length c.argument-text.ensures,
        argument_short (held_in c.args.x) 1 (omega arith),
      )

pub overflow_cast-size : goal.overflow_cast-size
overflow_cast-size c = omega (arith, short (goal.at.overflow_cast-size c).After-min)

pub natural_or-requires : goal.natural_or-requires
natural_or-requires c = (omega arith, omega arith, omega (arith, short (goal.at.natural_or-requires c).After-min))

pub returns-in_err-count : goal.returns-in_err-count
unfolding part_text
returns-in_err-count c =
    let p = err_from_is_err_and c.from_residual-in_err-count.result c.from_residual-in_err-count.ensures.1 in
    let e = c.in_err-count.ensures in
    let m = (goal.at.returns-in_err-count c).After-min in
    rw (p.1, p.2) (shows_none e.value e.ok_part (no_count (args_of c.args.x) _ (from_is m) (is_behind m) (omega (arith, short m)) (sym c.natural_or.ensures ∙ e.ok_part)))

pub returns : goal.returns
unfolding part_text
returns c =
    let m = (goal.at.returns c).After-min in
    shows (start_and_count (args_of c.args.x) _ (from_is m) (is_behind m) (omega (arith, short m)) _ (sym c.natural_or.ensures ∙ c.in_ok-count.ensures.ok_part))
    (front_is (behind m) _ c.min-2.result c.min-2.ensures)

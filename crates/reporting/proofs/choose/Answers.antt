-- `reporting::choose` meets its contract.
use native.Mathlib.Omega.{arith}
use Rattle.std.proofs.Common.{length, refl, sym, ap, ◌∙◌}
use Rattle.basis.specs.CountLaws.{count_mono}
use Rattle.monomial.specs.Reading.{rows_read}
use Rattle.solve.specs.Nested.{elimination, solution_of}
use Rattle.solve.specs.NestedLaws.{solve_nested}
use Rattle.reporting.proofs.Choosing.{chosen_most, chooses_some}
use Rattle.reporting.proofs.choose.Goals as goal

pub put_eliminated-held-requires : goal.put_eliminated-held-requires
put_eliminated-held-requires c = (c.requires.1, omega (arith, c.k-most.ensures, c.requires.3), refl, refl)

pub choose_from-choice-requires-clause-eliminated : goal.choose_from-choice-requires-clause-eliminated
choose_from-choice-requires-clause-eliminated c = c.put_eliminated-held.ensures ∙ ap (elimination c.args.sums.now) c.k-most.ensures

pub k-k-requires : goal.k-k-requires
k-k-requires c =
    let m = chosen_most c.args.rows.basis c.args.criterion (length c.args.rows.ys.now) c.args.last.0 (rows_read c.args.rows) c.args.sums.now c.choose_from-choice.result c.choose_from-choice.ensures.is _ c.in-Some.is in
    omega (arith, m, c.requires.2)

pub solution-solved-requires : goal.solution-solved-requires
solution-solved-requires c =
    let m = chosen_most c.args.rows.basis c.args.criterion (length c.args.rows.ys.now) c.args.last.0 (rows_read c.args.rows) c.args.sums.now c.choose_from-choice.result c.choose_from-choice.ensures.is _ c.in-Some.is in
    omega (arith, c.k-k.ensures, count_mono c.args.rows.basis _ c.args.last.0 m, c.requires.3)

pub measure-requires : goal.measure-requires
measure-requires c =
    let m = chosen_most c.args.rows.basis c.args.criterion (length c.args.rows.ys.now) c.args.last.0 (rows_read c.args.rows) c.args.sums.now c.choose_from-choice.result c.choose_from-choice.ensures.is _ c.in-Some.is in
    let fewer = count_mono c.args.rows.basis _ c.args.last.0 m in
    let within = solve_nested c.args.sums.now c.k-k.result.0 c.k-most.result.0 (omega (arith, c.k-most.ensures, c.k-k.ensures, fewer)) (omega (arith, c.k-most.ensures, c.requires.3)) (omega (arith, c.requires.1)) in (
      omega (arith, c.requires.0, c.choose_from-choice.ensures.within.long),
      c.requires.1,
      omega (arith, c.k-k.ensures, fewer, c.requires.3),
      c.solution-solved.ensures ∙ ap (solution_of c.k-k.result.0) c.put_eliminated-held.ensures ∙ sym within,
      c.requires.4,
    )

pub returns-in-Ok : goal.returns-in-Ok
returns-in-Ok c =
    let rows = rows_read c.args.rows in
    chooses_some c.args.rows.basis c.args.criterion (length c.args.rows.ys.now) c.args.last.0 rows c.args.sums.now c.choose_from-choice.result c.choose_from-choice.ensures.is _ c.in-Some.is
    c.measure.result _ _ _ _ _ _ _ c.choose_from-choice.ensures.within (rw c.k-k.ensures at c.measure.ensures) _ (rw c.in-Ok.is refl)

pub returns-in-Err : goal.returns-in-Err
returns-in-Err c =
    let rows = rows_read c.args.rows in
    chooses_some c.args.rows.basis c.args.criterion (length c.args.rows.ys.now) c.args.last.0 rows c.args.sums.now c.choose_from-choice.result c.choose_from-choice.ensures.is _ c.in-Some.is
    c.measure.result _ _ _ _ _ _ _ c.choose_from-choice.ensures.within (rw c.k-k.ensures at c.measure.ensures) _ (rw c.in-Err.is refl)

-- `fit::choose_from` meets its contract.
use mathlib.Core.Path.{◌≡◌, refl, sym, ap, ◌∙◌}
use Prim.Native.Nat.{◌+◌, ◌<◌}
use native.Mathlib.Omega.{arith}
use borrow.Author.Rules.{rules}
use Rattle.loops.specs.Fold.{fold}
use Rattle.loops.specs.FoldLaws.{fold_table}
use Rattle.loops.specs.Places.{each, table}
use Rattle.loops.specs.PlaceLaws.{each_again}
use Rattle.loops.specs.WithinLaws.{within_itself, within_then}
use Rattle.basis.specs.Counts.{count_of}
use Rattle.basis.specs.CountLaws.{count_mono}
use Rattle.solve.specs.Nested.{solution_of}
use Rattle.solve.specs.NestedLaws.{solve_nested}
use Rattle.monomial.specs.Reading.{rows_read}
use Rattle.fit.specs.Solved.{scored_by, pivot_tests}
use Rattle.fit.proofs.Choosing.{tests_at_most, choice_is}
use Rattle.std.specs.Prelude.{None}
use Rattle.fit.proofs.choose_from.Goals as goal

pub loop-d-init : goal.loop-d-init
unfolding each fold table
loop-d-init c = (search rules, search rules, within_itself _ _, refl, refl)

pub solution-s-requires : goal.solution-s-requires
solution-s-requires c = omega (arith, c.k-k.ensures, count_mono c.args.rows.basis c.loop-d.d c.args.bound.0 (omega (arith, c.loop-d-test.true)), c.requires.degrees.3)

pub trial-t-requires : goal.trial-t-requires
trial-t-requires c =
    let m = count_mono c.args.rows.basis c.loop-d.d c.args.bound.0 (omega (arith, c.loop-d-test.true)) in
    let within = solve_nested c.args.sums.now c.k-k.result.0 (count_of c.args.rows.basis c.args.bound.0) (omega (arith, c.k-k.ensures, m)) c.requires.degrees.3 (omega (arith, c.requires.degrees.1)) in
    (search rules, omega (arith, c.k-k.ensures, m, c.requires.degrees.3), c.solution-s.ensures ∙ ap (solution_of c.k-k.result.0) c.requires.eliminated ∙ sym within)

pub bounds-scores-d : goal.bounds-scores-d
bounds-scores-d c = omega (arith, c.loop-d-test.true, c.requires.degrees.2)

pub offset_bounds-scores-d : goal.offset_bounds-scores-d
offset_bounds-scores-d c =
    let small : c.loop-d.d < 16 = omega (arith, c.loop-d-test.true, c.requires.degrees.2) in
    search (rules, small)

pub overflow_add-tests : goal.overflow_add-tests
overflow_add-tests c =
    let m = count_mono c.args.rows.basis c.loop-d.d c.args.bound.0 (omega (arith, c.loop-d-test.true)) in
    let t = c.trial-t.ensures.tests ∙ ap (pivot_tests c.args.sums.now) c.k-k.ensures in
    omega (arith, c.loop-d.invariant.1, c.requires.degrees.3, m, t, tests_at_most c.args.sums.now (count_of c.args.rows.basis c.loop-d.d))

pub overflow_step-d : goal.overflow_step-d
overflow_step-d c =
    let small : c.loop-d.d < 16 = omega (arith, c.loop-d-test.true, c.requires.degrees.2) in
    search (rules, small)

pub loop-d-smaller : goal.loop-d-smaller
loop-d-smaller c = omega (arith, c.loop-d-test.true)

pub loop-d-preserved : goal.loop-d-preserved
loop-d-preserved c =
    let rows = rows_read c.args.rows in
    let m = count_mono c.args.rows.basis c.loop-d.d c.args.bound.0 (omega (arith, c.loop-d-test.true)) in
    let e = c.trial-t.ensures.scored ∙ ap (scored_by c.args.criterion c.args.sums.now rows rows) c.k-k.ensures in
    let t = c.trial-t.ensures.tests ∙ ap (pivot_tests c.args.sums.now) c.k-k.ensures in (
      search rules,
      omega (arith, c.loop-d.invariant.1, c.requires.degrees.3, m, t, tests_at_most c.args.sums.now (count_of c.args.rows.basis c.loop-d.d)),
      within_then c.loop-d.invariant.2 c.trial-t.ensures.within,
      rw (c.loop-d.invariant.3, e) (each_again _ _ _ None (search rules)),
      rw (c.loop-d.invariant.4, t) (sym (fold_table ◌+◌ 0 (λ j. pivot_tests c.args.sums.now (count_of c.args.rows.basis j)) c.loop-d.d)),
    )

pub returns : goal.returns
returns c =
    let z : c.loop-d.d ≡ c.args.bound.0 + 1 = omega arith in
    record {
      is = choice_is c.args.rows.basis c.args.criterion c.args.sums.now (rows_read c.args.rows) c.args.bound.0 c.loop-d.scores (omega (arith, c.requires.degrees.2)) (rw z at c.loop-d.invariant.3)
          _ _ _ _ _ c.lowest-chosen.ensures c.score_of-score.ensures c.least-least.ensures c.solved_of-solved.ensures (rw z at c.loop-d.invariant.4);
      within = c.loop-d.invariant.2;
    }

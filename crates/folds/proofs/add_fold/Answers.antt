-- `folds::add_fold` meets its contract.
use Rattle.std.proofs.Common.{◌≡◌, List, get_or, sym, refl, ap, ◌∙◌, arith, length-set, rules, length}
use Rattle.loops.specs.Places.{each}
use Rattle.loops.specs.PlaceLaws.{each_again, each_past}
use Rattle.loops.specs.WithinLaws.{within_itself, within_then}
use Rattle.basis.specs.Counts.{count_of}
use Rattle.basis.specs.declared.Basis.TheVariants.{Curve}
use Rattle.monomial.specs.Reading.{weighted_read}
use Rattle.monomial.specs.ReadingLaws.{length_read, rows_in_read}
use Rattle.solve.specs.Nested.{solution_of}
use Rattle.solve.specs.NestedLaws.{solve_nested}
use Rattle.folds.specs.Folds.{degree_scored}
use Rattle.folds.specs.FoldLaws.{start_end, end_below}
use Rattle.folds.specs.Tallies.{added}
use Rattle.folds.specs.declared.Tally.{Tally}
use lib.Ieee.{nan}
use Rattle.folds.specs.TallyLaws.{count_at_most, tallied_again}
use Rattle.basis.specs.CountLaws.{curve_count}
use Rattle.folds.proofs.Own.{fold_scored_lem}
use Rattle.folds.proofs.Others.{others_same}
use Rattle.folds.proofs.add_fold.Goals as goal

-- what the prover takes for a tally past the end
abbrev none : Tally
none = record { total = nan; count = 0 }

pub fold_others-sums-requires : goal.fold_others-sums-requires
fold_others-sums-requires c =
    let g = end_below (length c.args.rows.ys.now) c.args.folds c.args.f (search rules) in
    (omega (arith, g, c.end_of-end.ensures), search rules)

pub loop-d-init : goal.loop-d-init
unfolding each
loop-d-init c = (search rules, within_itself _ _, c.requires.tallied_before.long, refl)

pub slice_bounds-put_eliminated-end : goal.slice_bounds-put_eliminated-end
slice_bounds-put_eliminated-end c = sym c.fold_others-sums.ensures.long

pub put_eliminated-held-requires : goal.put_eliminated-held-requires
put_eliminated-held-requires c = (omega (arith, c.fold_others-sums.ensures.long), search rules, refl, refl)

pub solution-solved-requires : goal.solution-solved-requires
solution-solved-requires c = omega (arith, c.k-k.ensures, curve_count c.loop-d.d, c.loop-d-test.true, c.requires.f_in_bounds)

pub slice_bounds-score_fold-end : goal.slice_bounds-score_fold-end
slice_bounds-score_fold-end c = sym c.fold_others-sums.ensures.long

pub score_fold-s-requires : goal.score_fold-s-requires
score_fold-s-requires c =
    let l = start_end (length c.args.rows.ys.now) c.args.folds c.args.f (search rules) in
    let g = end_below (length c.args.rows.ys.now) c.args.folds c.args.f (search rules) in
    let k = c.k-k.result.0 in
    let fewer = solve_nested c.fold_others-sums.result k c.args.b (omega (arith, c.k-k.ensures, curve_count c.loop-d.d, c.loop-d-test.true)) (search rules) (omega (arith, c.fold_others-sums.ensures.long)) in (
      omega (arith, c.loop-d.invariant.1.long, c.requires.f_in_bounds),
      omega (arith, l, c.start_of-start.ensures, c.end_of-end.ensures),
      omega (arith, g, c.end_of-end.ensures),
      omega (arith, c.k-k.ensures, curve_count c.loop-d.d, c.loop-d-test.true, c.requires.f_in_bounds),
      c.solution-solved.ensures ∙ ap (solution_of k) c.put_eliminated-held.ensures ∙ sym fewer,
      c.requires.in_reach,
    )

pub add-requires : goal.add-requires
add-requires c =
    let S = degree_scored c.args.criterion (weighted_read c.args.rows) c.args.folds in
    let q = count_at_most S c.args.f c.args.b c.args.tallies.now c.requires.tallied_before c.loop-d.d none (search rules) in
    let p = ap (λ (l : List Tally). (get_or l c.loop-d.d none).count) c.loop-d.invariant.3 ∙ ap (λ (t : Tally). t.count) (each_past (λ e t. added (S e c.args.f) t) c.loop-d.d c.args.tallies.now c.loop-d.d none (omega arith)) in
    omega (arith, p, q, c.ranges, c.requires.f_in_bounds)

pub overflow_step-d : goal.overflow_step-d
overflow_step-d c = omega (arith, c.loop-d-test.true, c.requires.f_in_bounds)

pub loop-d-preserved : goal.loop-d-preserved
loop-d-preserved c =
    let S = degree_scored c.args.criterion (weighted_read c.args.rows) c.args.folds in
    let w = others_same c.args.b (search rules) (weighted_read c.args.rows) c.args.before c.fold_others-sums.result (omega (arith, c.well_formed)) (length c.args.rows.ys.now) c.args.folds c.args.f c.start_of-start.result c.end_of-end.result (search rules) c.start_of-start.ensures c.requires.same_corner c.fold_others-sums.ensures.same in
    let e = fold_scored_lem c.args.criterion (weighted_read c.args.rows) _ (length c.args.rows.ys.now) c.args.folds (count_of Curve c.loop-d.d) c.args.b c.args.f _ _ _ _ (length_read c.args.rows) (rows_in_read c.args.rows) c.start_of-start.ensures c.end_of-end.ensures (search rules) (omega (arith, curve_count c.loop-d.d, c.loop-d-test.true)) (omega (arith, c.fold_others-sums.ensures.long)) w (rw c.k-k.ensures at c.score_fold-s.ensures.scored) in
    (search rules, within_then c.loop-d.invariant.1 c.score_fold-s.ensures.within, simp length-set c.loop-d.invariant.2, rw (c.add.ensures, e, c.loop-d.invariant.3) (each_again (λ d t. added (S d c.args.f) t) c.loop-d.d c.args.tallies.now none (omega (arith, c.requires.tallied_before.long))))

pub returns : goal.returns
returns c =
    let z : c.loop-d.d ≡ c.args.b = omega arith in
    let S = degree_scored c.args.criterion (weighted_read c.args.rows) c.args.folds in
    record { tallied = rw (rw z at c.loop-d.invariant.3) (tallied_again S c.args.f c.args.b c.args.tallies.now c.requires.tallied_before (search rules)); within = c.loop-d.invariant.1 }

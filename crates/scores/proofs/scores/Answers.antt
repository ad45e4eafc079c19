-- `scores::scores` meets its contract.
use mathlib.Core.Path.{refl, sym}
use native.Mathlib.Omega.{arith}
use lib.ListN.{take}
use lib.Seq.{length-take-le}
use Rattle.basis.specs.CountLaws.{curve_count}
use Rattle.refusal.specs.NamedLaws.{passed, refused_on}
use Rattle.report.specs.Reports.{report_choice}
use Rattle.scores.specs.Scores.{scores_on}
use Rattle.scores.specs.RefusalLaws.{scores_room}
use Rattle.scores.proofs.Scoring.{refused_early_lem, let_through, refused_late_lem, told_whole}
use Rattle.scores.proofs.scores.Goals as goal

pub returns-in_err-check_scores : goal.returns-in_err-check_scores
unfolding scores_on
returns-in_err-check_scores c = refused_early_lem _ _ c.args.scratch.now c.args.solved.now c.args.scores.now (refused_on c.check_scores.ensures c.in_err-check_scores.was c.from_residual.ensures.1)

pub curve-rows-requires : goal.curve-rows-requires
curve-rows-requires c =
    let w = scores_room _ _ _ _ _ _ _ _ (passed c.check_scores.ensures c.in_ok-check_scores.was) in
    (w.0.within.0, w.0.within.1.0)

pub slice_bounds-choose-end : goal.slice_bounds-choose-end
slice_bounds-choose-end c =
    let w = scores_room _ _ _ _ _ _ _ _ (passed c.check_scores.ensures c.in_ok-check_scores.was) in
    sym (length-take-le 272 c.args.sums.now w.0.enough.0)

pub choose-m-requires : goal.choose-m-requires
choose-m-requires c =
    let w = scores_room _ _ _ _ _ _ _ _ (passed c.check_scores.ensures c.in_ok-check_scores.was) in
    (omega (arith, w.0.enough.1.0, c.curve-rows.ensures.long), omega (arith, length-take-le 272 c.args.sums.now w.0.enough.0), omega (arith, c.max_degree-last.ensures, w.2), rw c.curve-rows.ensures.curved (omega (arith, c.max_degree-last.ensures, w.2, curve_count c.max_degree-last.result.0)), refl)

pub clear-requires : goal.clear-requires
clear-requires c =
    let w = scores_room _ _ _ _ _ _ _ _ (passed c.check_scores.ensures c.in_ok-check_scores.was) in
    omega (arith, w.0.enough.1.0)

pub returns-in_err-degree : goal.returns-in_err-degree
unfolding scores_on report_choice
returns-in_err-degree c = let_through _ c.args.book.count c.args.settings _ _ (take 272 c.args.sums.now) _ _ _ _ _ _ _ (passed c.check_scores.ensures c.in_ok-check_scores.was) refl
    (refused_late_lem c.args.book.count c.args.settings _ (take 272 c.args.sums.now) _ _ _ _ _ _ c.choose-m.result (rw (c.curve-rows.ensures.rows, c.curve-rows.ensures.long, c.curve-rows.ensures.curved, c.max_degree-last.ensures) at c.choose-m.ensures) _ c.clear.ensures c.in_err-degree.was c.from_residual-in_err-degree.ensures.1 _ _)

pub put_solved-requires : goal.put_solved-requires
put_solved-requires c =
    let w = scores_room _ _ _ _ _ _ _ _ (passed c.check_scores.ensures c.in_ok-check_scores.was) in
    w.0.enough.1.1.0

pub put_scores-requires : goal.put_scores-requires
put_scores-requires c =
    let w = scores_room _ _ _ _ _ _ _ _ (passed c.check_scores.ensures c.in_ok-check_scores.was) in
    omega (arith, w.0.enough.1.1.1.0)

pub returns : goal.returns
unfolding scores_on report_choice
returns c = let_through _ c.args.book.count c.args.settings _ _ (take 272 c.args.sums.now) _ _ _ _ _ _ _ (passed c.check_scores.ensures c.in_ok-check_scores.was) refl
    (told_whole c.args.book.count c.args.settings _ (take 272 c.args.sums.now) _ _ _ _ _ _ c.choose-m.result (rw (c.curve-rows.ensures.rows, c.curve-rows.ensures.long, c.curve-rows.ensures.curved, c.max_degree-last.ensures) at c.choose-m.ensures) _ c.clear.ensures c.in_ok-degree.was c.max_degree-last.result c.max_degree-last.ensures _ _ _ _ c.put_solved.ensures c.put_scores.ensures)

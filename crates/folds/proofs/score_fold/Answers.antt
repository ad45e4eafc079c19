-- `folds::score_fold` meets its contract: a pivot that fails, a residual that is not finite, and a score on the fold's own rows.
use Rattle.std.proofs.Common.{ap, sym, ◌∙◌, arith, rules, length, length-take, length-drop}
use Rattle.loops.specs.Fold.{all_of}
use Rattle.value.specs.Finite.{finite}
use Rattle.monomial.specs.Reading.{rows_read}
use Rattle.monomial.specs.ReadingLaws.{length_rows_read}
use Rattle.solve.specs.declared.Solved.{Solved}
use Rattle.fit.specs.Residuals.{residuals}
use Rattle.fit.specs.SolvedLaws.{scored_not}
use Rattle.folds.specs.Folds.{own_of}
use Rattle.folds.proofs.Own.{within_part, pivot_failed, one_infinite, all_solved, own_scored}
use Rattle.folds.proofs.score_fold.Goals as goal

pub returns-then-solved-k-clause-scored : goal.returns-then-solved-k-clause-scored
returns-then-solved-k-clause-scored c =
    let rows = rows_read c.args.rows in
    let sums = c.args.sums.now in
    scored_not c.args.criterion sums rows (own_of c.args.start c.args.end rows) c.args.k.0 (pivot_failed sums rows c.args.k.0 (rw c.requires.4 at c.if-solved-k.true))

pub all_finite-requires : goal.all_finite-requires
all_finite-requires c = (search rules, c.requires.3, c.requires.5)

pub returns-then-not-all_finite-clause-scored : goal.returns-then-not-all_finite-clause-scored
returns-then-not-all_finite-clause-scored c =
    let rows = rows_read c.args.rows in
    let sums = c.args.sums.now in
    let k = c.args.k.0 in
    let e = ap (λ (s : Solved). all_of finite (residuals k s.c rows)) c.requires.4 in
    scored_not c.args.criterion sums rows (own_of c.args.start c.args.end rows) k (one_infinite sums rows k (sym c.if-not-all_finite.true ∙ c.all_finite.ensures.is ∙ e))

pub score_rows-requires : goal.score_rows-requires
score_rows-requires c =
    (simp (length-take, length-drop) (omega (arith, c.part-own.ensures.long, c.all_finite.ensures.within.long, c.requires)), c.requires.3)

pub returns : goal.returns
returns c =
    let rows = rows_read c.args.rows in
    let sums = c.args.sums.now in
    let k = c.args.k.0 in
    let start = c.args.start in
    let end = c.args.end in
    let m = c.all_finite.new.scratch in
    let kept = c.all_finite.ensures.within in
    let e = ap (λ (s : Solved). all_of finite (residuals k s.c rows)) c.requires.4 in
    let solved = all_solved sums rows k (rw c.requires.4 at c.if-solved-k.false) (sym c.if-not-all_finite.false ∙ c.all_finite.ensures.is ∙ e) in
    let scored = rw c.requires.4 at c.score_rows.ensures.scored in
    record {
      scored = own_scored c.args.criterion sums rows (rows_read c.part-own.result) k start end m c.score_rows.result solved c.part-own.ensures.rows c.requires.1
          (omega (arith, length_rows_read c.args.rows, c.requires.2)) (omega (arith, kept.long, c.requires)) scored;
      within = within_part (length c.args.rows.ys.now) start end c.args.scratch.now m c.score_rows.new.scratch c.requires.1 c.requires.2 c.requires.0 kept
          (c.score_rows.ensures.long ∙ simp (length-take, length-drop) (omega (arith, kept.long, c.requires)));
    }

-- `fit::trial` meets its contract.
use Rattle.std.proofs.Common.{length, sym, ◌∙◌}
use Rattle.std.proofs.lemmas.Bool.{not-false, not-true}
use Rattle.monomial.specs.RowLaws.{length_rows_at}
use Rattle.monomial.specs.Reading.{rows_read}
use Rattle.fit.specs.SolvedLaws.{solved_finite, scored_not, scored_is}
use Rattle.fit.proofs.trial.Goals as goal

pub returns-then-not-a : goal.returns-then-not-a
returns-then-not-a c =
    record {
      scored = scored_not c.args.criterion c.args.sums.now _ _ c.args.k.0 (sym c.judged-a.ensures.solved ∙ not-true _ c.if-not-a.true);
      tests = c.judged-a.ensures.tests;
      within = c.judged-a.ensures.within;
    }

pub total_of_finite-total-requires : goal.total_of_finite-total-requires
total_of_finite-total-requires c =
    let rows = rows_read c.args.rows in
    let solved = sym c.judged-a.ensures.solved ∙ not-false _ c.if-not-a.false in
    rw (c.judged-a.ensures.sizes solved) (solved_finite c.args.sums.now rows c.args.k.0 solved)

pub returns : goal.returns
returns c =
    let rows = rows_read c.args.rows in
    let solved = sym c.judged-a.ensures.solved ∙ not-false _ c.if-not-a.false in
    record {
      scored = scored_is c.args.criterion c.args.sums.now rows rows c.args.k.0 solved _ _ _
          (length_rows_at c.args.rows.basis c.args.rows.xs.now c.args.rows.zs.now c.args.rows.ys.now (length c.args.rows.ys.now)) (c.judged-a.ensures.sizes solved)
          (rw (← c.total_of_finite-total.ensures) c.score.ensures);
      tests = c.judged-a.ensures.tests;
      within = c.judged-a.ensures.within;
    }

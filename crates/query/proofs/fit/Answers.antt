-- `query::fit` meets its contract.
use mathlib.Core.Path.{sym}
use native.Mathlib.Omega.{arith}
use lib.Seq.{length-take-le}
use Rattle.refusal.specs.NamedLaws.{passed, refused_on}
use Rattle.basis.specs.CountLaws.{curve_count}
use Rattle.query.specs.Fits.{fit_on}
use Rattle.query.specs.RefusalLaws.{fit_room}
use Rattle.measure.proofs.Fitting.{refused_early_lem}
use Rattle.query.proofs.fit.Goals as goal

pub returns-in_err-check_fit : goal.returns-in_err-check_fit
unfolding fit_on
returns-in_err-check_fit c = refused_early_lem _ _ c.args.scratch.now c.args.coefficients.now (refused_on c.check_fit.ensures c.in_err-check_fit.was c.from_residual.ensures.1)

pub curve-rows-requires : goal.curve-rows-requires
curve-rows-requires c =
    let w = fit_room _ _ _ _ _ c.args.degree.0 _ (passed c.check_fit.ensures c.in_ok-check_fit.was) in
    (w.0.within.0, w.0.within.1.0)

pub slice_bounds-solve_at-end : goal.slice_bounds-solve_at-end
slice_bounds-solve_at-end c =
    let w = fit_room _ _ _ _ _ c.args.degree.0 _ (passed c.check_fit.ensures c.in_ok-check_fit.was) in
    sym (length-take-le 272 c.args.sums.now w.0.enough.0)

pub solve_at-requires : goal.solve_at-requires
solve_at-requires c =
    let w = fit_room _ _ _ _ _ c.args.degree.0 _ (passed c.check_fit.ensures c.in_ok-check_fit.was) in rw (c.curve-rows.ensures.long, c.curve-rows.ensures.curved) (record { n_in_bounds = (w.0.enough.1.0, omega (arith, length-take-le 272 c.args.sums.now w.0.enough.0), w.0.enough.1.1.0); degree_le_highest_degree = (w.1, omega (arith, curve_count c.args.degree.0, w.1)) })

pub returns : goal.returns
unfolding fit_on
returns c = rw (passed c.check_fit.ensures c.in_ok-check_fit.was) (rw (c.curve-rows.ensures.rows, c.curve-rows.ensures.long, c.curve-rows.ensures.curved) at c.solve_at.ensures)

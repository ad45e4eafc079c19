-- `surface::surface_fit` meets its contract.
use native.Mathlib.Omega.{arith}
use Rattle.refusal.specs.NamedLaws.{passed, refused_on}
use Rattle.measure.proofs.Fitting.{refused_early_lem}
use Rattle.surface.specs.RefusalLaws.{total_terms, surface_fit_room}
use Rattle.surface.specs.Surfaces.{surface_fit_on}
use Rattle.surface.proofs.surface_fit.Goals as goal

pub returns-in_err-check_fit : goal.returns-in_err-check_fit
unfolding surface_fit_on
returns-in_err-check_fit c = refused_early_lem _ _ c.args.scratch.now c.args.coefficients.now (refused_on c.check_fit.ensures c.in_err-check_fit.was c.from_residual.ensures.1)

pub rows-rows-requires : goal.rows-rows-requires
rows-rows-requires c =
    let w = surface_fit_room _ _ _ c.args.degree.0 _ _ (passed c.check_fit.ensures c.in_ok-check_fit.was) in
    (w.0.within.0, w.0.within.1.0, w.0.within.1.1.0)

pub solve_at-requires : goal.solve_at-requires
solve_at-requires c =
    let w = surface_fit_room _ _ _ c.args.degree.0 _ _ (passed c.check_fit.ensures c.in_ok-check_fit.was) in rw (c.rows-rows.ensures.long, c.rows-rows.ensures.surface) (record { n_in_bounds = (w.0.enough.0, omega (arith, c.sums_of-sums.ensures.long), w.0.enough.1.0); degree_le_highest_degree = (omega (arith, w.1.0), omega (arith, total_terms c.args.degree.0 w.1.0)) })

pub returns : goal.returns
unfolding surface_fit_on
returns c = rw (passed c.check_fit.ensures c.in_ok-check_fit.was) (rw (c.rows-rows.ensures.rows, c.rows-rows.ensures.long, c.rows-rows.ensures.surface, c.sums_of-sums.ensures.is, c.rows-rows.ensures.sums) at c.solve_at.ensures)

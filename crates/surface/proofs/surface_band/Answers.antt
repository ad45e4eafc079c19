-- `surface::surface_band` meets its contract.
use native.Mathlib.Omega.{arith}
use Rattle.refusal.specs.NamedLaws.{passed, refused_on}
use Rattle.measure.proofs.Banding.{band_early}
use Rattle.surface.specs.RefusalLaws.{total_terms, surface_band_room}
use Rattle.surface.specs.Surfaces.{surface_band_on}
use Rattle.surface.proofs.surface_band.Goals as goal

pub returns-in_err-check_band : goal.returns-in_err-check_band
unfolding surface_band_on
returns-in_err-check_band c = band_early _ _ c.args.scratch.now (refused_on c.check_band.ensures c.in_err-check_band.was c.from_residual.ensures.1)

pub rows-rows-requires : goal.rows-rows-requires
rows-rows-requires c =
    let w = surface_band_room _ _ _ c.args.x c.args.z c.args.degree.0 c.args.confidence c.args.tolerance _ (passed c.check_band.ensures c.in_ok-check_band.was) in
    (w.0.within.0, w.0.within.1.0, w.0.within.1.1.0)

pub band_of-requires : goal.band_of-requires
band_of-requires c =
    let w = surface_band_room _ _ _ c.args.x c.args.z c.args.degree.0 c.args.confidence c.args.tolerance _ (passed c.check_band.ensures c.in_ok-check_band.was) in rw (c.rows-rows.ensures.long, c.rows-rows.ensures.surface) (record { n_in_bounds = (w.0.enough.0, omega (arith, c.sums_of-sums.ensures.long)); degree_le_highest_degree = (omega (arith, w.1.0), omega (arith, total_terms c.args.degree.0 w.1.0)) })

pub returns : goal.returns
unfolding surface_band_on
returns c = rw (passed c.check_band.ensures c.in_ok-check_band.was) (rw (c.rows-rows.ensures.rows, c.rows-rows.ensures.long, c.rows-rows.ensures.surface, c.sums_of-sums.ensures.is, c.rows-rows.ensures.sums) at c.band_of.ensures)

-- `query::band` meets its contract.
use mathlib.Core.Path.{sym}
use native.Mathlib.Omega.{arith}
use lib.Seq.{length-take-le}
use Rattle.refusal.specs.NamedLaws.{passed, refused_on}
use Rattle.basis.specs.CountLaws.{curve_count}
use Rattle.measure.proofs.Banding.{band_early}
use Rattle.query.specs.RefusalLaws.{band_room}
use Rattle.query.specs.Bands.{band_for}
use Rattle.query.proofs.band.Goals as goal

pub returns-in_err-check_band : goal.returns-in_err-check_band
unfolding band_for
returns-in_err-check_band c = band_early _ _ c.args.scratch.now (refused_on c.check_band.ensures c.in_err-check_band.was c.from_residual.ensures.1)

pub curve-requires : goal.curve-requires
curve-requires c =
    let w = band_room _ _ _ _ _ c.args.x c.args.degree.0 c.args.confidence c.args.tolerance (passed c.check_band.ensures c.in_ok-check_band.was) in
    (w.0.within.0, w.0.within.1.0)

pub slice_bounds-band_of-end : goal.slice_bounds-band_of-end
slice_bounds-band_of-end c =
    let w = band_room _ _ _ _ _ c.args.x c.args.degree.0 c.args.confidence c.args.tolerance (passed c.check_band.ensures c.in_ok-check_band.was) in
    sym (length-take-le 272 c.args.sums.now w.0.enough.0)

pub band_of-requires : goal.band_of-requires
band_of-requires c =
    let w = band_room _ _ _ _ _ c.args.x c.args.degree.0 c.args.confidence c.args.tolerance (passed c.check_band.ensures c.in_ok-check_band.was) in rw (c.curve.ensures.long, c.curve.ensures.curved) (record { n_in_bounds = (w.0.enough.1.0, omega (arith, length-take-le 272 c.args.sums.now w.0.enough.0)); degree_le_highest_degree = (w.1, omega (arith, curve_count c.args.degree.0, w.1)) })

pub returns : goal.returns
unfolding band_for
returns c = rw (passed c.check_band.ensures c.in_ok-check_band.was) (rw (c.curve.ensures.rows, c.curve.ensures.long, c.curve.ensures.curved) at c.band_of.ensures)

-- `measure::band_of` meets its contract.
use Rattle.std.proofs.Common.{length, sym, ap, ◌∙◌, arith}
use Rattle.monomial.specs.ReadingLaws.{ys_read}
use Rattle.statistics.specs.Variances.{stddev_and_mean}
use Rattle.lent.specs.WrittenLaws.{over_cleared}
use Rattle.refusal.specs.NamedLaws.{given_back}
use Rattle.measure.specs.MeasureLaws.{measured_ok, measured_err}
use Rattle.measure.proofs.Banding.{band_late, band_made}
use Rattle.measure.proofs.band_of.Goals as goal

pub returns-in_err-measured : goal.returns-in_err-measured
returns-in_err-measured c =
    let ran = rw c.k-k.ensures at c.measure-measured.ensures in
    let late = measured_err _ _ _ _ _ ran.measured_is c.in_err-measured.was in
    band_late c.args.rows.basis (length c.args.rows.ys.now) c.args.x c.args.z c.args.degree.0 c.args.confidence c.args.tolerance _ _ c.args.scratch.now _ (over_cleared (length c.args.rows.ys.now) _ _ _ ran.within c.clear.ensures) (given_back late c.from_residual.ensures.1)

pub band_at-requires : goal.band_at-requires
band_at-requires c = omega (arith, c.k-k.ensures, c.requires.degree_le_highest_degree.1)

pub returns : goal.returns
returns c =
    let ran = rw c.k-k.ensures at c.measure-measured.ensures in
    let found = measured_ok _ _ _ _ _ ran.measured_is c.in_ok-measured.was in
    let spread = c.stddev_and_mean.ensures ∙ ap stddev_and_mean (sym (ys_read c.args.rows)) in
    band_made c.args.rows.basis (length c.args.rows.ys.now) c.args.x c.args.z c.args.degree.0 c.args.confidence c.args.tolerance _ _ c.args.scratch.now _ (over_cleared (length c.args.rows.ys.now) _ _ _ ran.within c.clear.ensures) (sym found.0) _ _ _ _ _ found.1 found.2 c.z_score.ensures spread
    (rw c.k-k.ensures at c.band_at.ensures)

-- `season_query::band` meets its contract: the part of scratch is put back, the others are only read.
use Rattle.stakes.proofs.Pieces.{lends}
use Rattle.season_query.specs.Reads.{band_from}
use Rattle.season_query.proofs.Readings.{band_refused_lem, band_done}
use Rattle.season_query.proofs.band.Goals as goal

pub returns-in_err-s : goal.returns-in_err-s
returns-in_err-s c = band_refused_lem c.stake.ensures _ (band_from c.args.x c.args.degree.0 c.args.confidence c.args.tolerance) c.in_err-s.was c.from_residual.ensures.1

pub returns : goal.returns
returns c =
    band_done c.stake.ensures _ (band_from c.args.x c.args.degree.0 c.args.confidence c.args.tolerance) c.in_ok-s.was (lends _ c.args.scratch.now _ _ _ c.cut-t.ensures) c.band.ensures

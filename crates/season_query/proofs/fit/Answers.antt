-- `season_query::fit` meets its contract: the parts of scratch and of the coefficients are put back, the others are only read.
use Rattle.stakes.proofs.Pieces.{lends}
use Rattle.season_query.specs.Reads.{fit_from}
use Rattle.season_query.proofs.Readings.{fit_refused_lem, fit_done}
use Rattle.season_query.proofs.fit.Goals as goal

pub returns-in_err-s : goal.returns-in_err-s
returns-in_err-s c = fit_refused_lem c.stake.ensures _ _ (fit_from c.args.degree.0) c.in_err-s.was c.from_residual.ensures.1

pub returns : goal.returns
returns c =
    fit_done c.stake.ensures _ _ (fit_from c.args.degree.0) c.in_ok-s.was (lends _ c.args.scratch.now _ _ _ c.cut-t.ensures) (lends _ c.args.coefficients.now _ _ _ c.cut-c.ensures) c.fit.ensures

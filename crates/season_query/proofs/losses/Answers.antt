-- `season_query::losses` meets its contract: the part of scratch is put back, the others are only read.
use Rattle.stakes.proofs.Pieces.{lends}
use Rattle.season_query.specs.Reads.{loss_from}
use Rattle.season_query.proofs.Readings.{loss_refused_lem, loss_done}
use Rattle.season_query.proofs.losses.Goals as goal

pub returns-in_err-s : goal.returns-in_err-s
returns-in_err-s c = loss_refused_lem c.stake.ensures _ _ (loss_from c.args.settings c.args.losses.now) c.in_err-s.was c.from_residual.ensures.1

pub returns : goal.returns
returns c =
    loss_done c.stake.ensures _ _ (loss_from c.args.settings c.args.losses.now) c.in_ok-s.was (lends _ c.args.scratch.now _ _ _ c.cut-t.ensures) c.losses.ensures

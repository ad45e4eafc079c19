-- `season_query::scores` meets its contract: the part of scratch is put back, the others are only read.
use Rattle.stakes.proofs.Pieces.{lends}
use Rattle.season_query.specs.Reads.{scores_from}
use Rattle.season_query.proofs.Readings.{scores_refused_lem, scores_done}
use Rattle.season_query.proofs.scores.Goals as goal

pub returns-in_err-s : goal.returns-in_err-s
returns-in_err-s c = scores_refused_lem c.stake.ensures _ _ _ (scores_from c.args.settings c.args.solved.now c.args.scores.now) c.in_err-s.was c.from_residual.ensures.1

pub returns : goal.returns
returns c =
    scores_done c.stake.ensures _ _ _ (scores_from c.args.settings c.args.solved.now c.args.scores.now) c.in_ok-s.was (lends _ c.args.scratch.now _ _ _ c.cut-t.ensures) c.scores.ensures

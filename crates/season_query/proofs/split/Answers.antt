-- `season_query::split` meets its contract: the part of scratch is put back, the others are only read.
use Rattle.stakes.proofs.Pieces.{lends}
use Rattle.season_query.specs.Reads.{split_from}
use Rattle.season_query.proofs.Readings.{split_refused_lem, split_done}
use Rattle.season_query.proofs.split.Goals as goal

pub returns-in_err-s : goal.returns-in_err-s
returns-in_err-s c = split_refused_lem c.stake.ensures _ _ _ (split_from c.args.settings c.args.limit c.args.earlier.now c.args.later.now) c.in_err-s.was c.from_residual.ensures.1

pub returns : goal.returns
returns c =
    split_done c.stake.ensures _ _ _ (split_from c.args.settings c.args.limit c.args.earlier.now c.args.later.now) c.in_ok-s.was (lends _ c.args.scratch.now _ _ _ c.cut-t.ensures) c.split_book.ensures

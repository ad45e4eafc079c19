-- `season::open_stake` meets its contract: the part of the sums is put back, and no column is lent.
use Rattle.samples.specs.Columns.{no_columns}
use Rattle.season.specs.ChangeLaws.{stake_refused}
use Rattle.stakes.proofs.Pieces.{lends}
use Rattle.season.proofs.Changed.{stake_opened}
use Rattle.season.proofs.open_stake.Goals as goal

pub returns-in_err-check_stake : goal.returns-in_err-check_stake
returns-in_err-check_stake c = stake_refused _ _ _ c.check_stake.ensures c.in_err-check_stake.was c.from_residual.ensures.1

pub returns : goal.returns
returns c =
    rw (c.kept.ensures.0, c.kept.ensures.1)
    (stake_opened c.args.stake c.args.counts.now no_columns c.args.sums.now c.check_stake.ensures c.in_ok-check_stake.was _
    (lends c.args.stake c.args.sums.now _ _ _ c.cut-s.ensures) c.open-answer.ensures)

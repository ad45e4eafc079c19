-- `season::carry` meets its contract: the part of the weights is put back, the others are only read.
use Rattle.season.specs.ChangeLaws.{stake_refused}
use Rattle.stakes.proofs.Pieces.{lends, shows}
use Rattle.season.proofs.Changed.{stake_changed}
use Rattle.season.proofs.carry.Goals as goal

pub returns-in_err-check_stake : goal.returns-in_err-check_stake
returns-in_err-check_stake c = stake_refused _ _ _ c.check_stake.ensures c.in_err-check_stake.was c.from_residual.ensures.1

pub returns : goal.returns
returns c =
    rw (c.kept.ensures.0, c.kept.ensures.1)
    (stake_changed c.args.stake _ c.args.counts.now c.args.xs.now c.args.ys.now c.args.ws.now c.args.sums.now c.check_stake.ensures c.in_ok-check_stake.was _
    (shows c.args.stake c.args.xs.now _ c.part.ensures) (shows c.args.stake c.args.ys.now _ c.part-2.ensures) (lends c.args.stake c.args.ws.now _ _ _ c.cut-w.ensures)
    (shows c.args.stake c.args.sums.now _ c.part-3.ensures) c.carry-answer.ensures)

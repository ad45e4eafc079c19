-- `stakes::Season::stake` meets its contract: what `check_stake` says of the refusal, and four parts that are the stake's book.
use Rattle.stakes.proofs.Pieces.{none_taken, book_taken, book_is}
use Rattle.stakes.proofs.Season.stake.Goals as goal

pub returns-in_err-check_stake : goal.returns-in_err-check_stake
returns-in_err-check_stake c = none_taken c.check_stake.ensures c.in_err-check_stake.was c.from_residual.ensures.1

pub returns : goal.returns
returns c =
    book_taken c.check_stake.ensures c.in_ok-check_stake.was
    (book_is c.args.stake c.args.self.counts.now c.args.self.columns.xs.now c.args.self.columns.ys.now c.args.self.columns.ws.now c.args.self.sums.now c.part.ensures c.part-2.ensures c.part-3.ensures c.part-4.ensures)

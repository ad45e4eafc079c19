-- `stakes::check_stake` meets its contract: 18 of the stake's number stands before 1 of the counts.
use Rattle.std.proofs.Common.{rules}
use Rattle.stakes.specs.Season.{stake_refusal}
use Rattle.stakes.proofs.check_stake.Goals as goal

pub returns : goal.returns
unfolding stake_refusal
returns c = search rules

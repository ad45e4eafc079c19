-- `stakes::check_open` meets its contract: 1, of the counts and of each stake's part of the sums.
use Rattle.std.proofs.Common.{rules}
use Rattle.stakes.specs.Season.{season_open_refusal}
use Rattle.stakes.proofs.check_open.Goals as goal

pub returns : goal.returns
unfolding season_open_refusal
returns c = search rules

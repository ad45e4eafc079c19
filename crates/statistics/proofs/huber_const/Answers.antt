-- `statistics::huber_const` meets its contract. 1.345 is the double nearest to 1345 thousandths, which antt computes.
use Rattle.std.proofs.Common.{refl}
use lib.Ieee.{of_bits, round}
use Rattle.statistics.specs.Scores.{milli}
use Rattle.statistics.specs.Losses.{huber_const}
use Rattle.statistics.proofs.huber_const.Goals as goal

pub returns : goal.returns
unfolding huber_const milli round of_bits
returns c = refl

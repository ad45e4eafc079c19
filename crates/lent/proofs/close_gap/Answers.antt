-- `lent::close_gap` meets its contract: what `copy_within` ensures, with the number of places that move said in another grouping.
use Rattle.std.proofs.Common.{arith}
use Rattle.lent.specs.Gaps.{without_at}
use Rattle.lent.proofs.close_gap.Goals as goal

pub returns : goal.returns
unfolding without_at
returns c = grind arith

-- `statistics::order::median_from` meets its contract.
use Rattle.std.proofs.Common.{sym, ◌∙◌}
use lib.Ieee.{of_bits}
use Rattle.statistics.specs.Counting.{distances}
use Rattle.statistics.proofs.Deviations.{median_nan}
use Rattle.statistics.proofs.order.median_from.Goals as goal

pub returns-then-any_nan : goal.returns-then-any_nan
unfolding of_bits
returns-then-any_nan c = median_nan (distances c.args.d c.args.a.now) (sym c.any_nan.ensures ∙ c.if-any_nan.true)

-- `split::side_sums` meets its contract.
use mathlib.Core.Path.{◌∙◌}
use lib.ListN.{length-replicate}
use Rattle.value.specs.Numbers.{zero_f}
use Rattle.monomial.specs.Sums.{sums_of}
use Rattle.split.proofs.side_sums.Goals as goal

pub returns : goal.returns
unfolding sums_of
returns c = record { long = c.add_corner.ensures.long ∙ length-replicate 272 zero_f; same = c.add_corner.ensures.corner }

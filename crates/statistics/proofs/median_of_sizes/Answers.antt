-- `statistics::median_of_sizes` meets its contract. The deviations of sizes from +0 are the sizes themselves.
use Rattle.std.proofs.Common.{T, ap, ◌∙◌, rules}
use lib.Ieee.{nan, binary64, fits}
use Rattle.statistics.specs.Medians.{median_of}
use Rattle.statistics.proofs.Deviations.{distances_zero, all_places}
use Rattle.statistics.proofs.median_of_sizes.Goals as goal

pub returns : goal.returns
returns c = c.median_from.ensures ∙ ap median_of (distances_zero c.args.a.now (all_places (λ x. T (fits binary64 x)) nan c.args.a.now (λ i. search rules)))

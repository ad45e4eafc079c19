-- `statistics::total_of_finite` meets its contract.
use Rattle.std.proofs.Common.{T, ap, ◌∙◌, rules}
use lib.Ieee.{nan, binary64, fits}
use Rattle.statistics.specs.Medians.{median_of}
use Rattle.statistics.proofs.Deviations.{distances_zero, all_places, none_of_finite}
use Rattle.statistics.proofs.total_of_finite.Goals as goal

pub median_of_some-requires : goal.median_of_some-requires
median_of_some-requires c = none_of_finite c.args.a.now c.requires

pub deviation_from-requires : goal.deviation_from-requires
deviation_from-requires c = c.median_of_some.ensures ∙ ap median_of (distances_zero c.args.a.now (all_places (λ x. T (fits binary64 x)) nan c.args.a.now (λ i. search rules)))

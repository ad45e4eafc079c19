-- `statistics::deviation_from` meets its contract.
use Rattle.std.proofs.Common.{◌≡◌, List, map, sym, ap, ◌∙◌}
use lib.Ieee.{Float}
use Rattle.value.specs.Absolute.{abs_f}
use Rattle.statistics.specs.Counting.{distances}
use Rattle.statistics.specs.Medians.{deviations, median_of, median_absolute_deviation}
use Rattle.statistics.proofs.Deviations.{distances_are, none_of_median}
use Rattle.statistics.proofs.deviation_from.Goals as goal

-- from the median of the sizes
about : (d : Float) (a : List Float) → d ≡ median_of (map abs_f a) → median_of (distances d a) ≡ median_absolute_deviation a
unfolding median_absolute_deviation
about d a e = ap median_of (distances_are d a) ∙ ap (λ (m : Float). median_of (deviations m (map abs_f a))) e

pub median_of_some-requires : goal.median_of_some-requires
median_of_some-requires c = none_of_median c.args.a.now _ c.requires (sym c.is_finite.ensures ∙ c.if-is_finite.true)

pub returns-then-is_finite : goal.returns-then-is_finite
returns-then-is_finite c = c.median_of_some.ensures ∙ about _ _ c.requires

pub returns : goal.returns
returns c = c.median_from.ensures ∙ about _ _ c.requires

-- What a split that 1 to 9 let through may count on, and what is so of a break that is found. Definitions only.
use Rattle.std.specs.Prelude.{List, ℕ, ◌≤◌}
use Rattle.basis.specs.Sizes.{highest_degree}
use Rattle.statistics.specs.Degrees.{max_degree}
use Rattle.refusal.specs.Rooms.{Room}
use Rattle.settings.specs.declared.Settings.{Settings}
use Rattle.split.specs.declared.Best.{Best}
use Rattle.split.specs.declared.Places.{Places}
use Rattle.split.specs.Refusals.{split_needs}

pub record SplitRoom (n : ℕ) (settings : Settings) (columns : List ℕ) (sums : ℕ) (places : Places) : Type 0 where
  pub room : Room n columns (split_needs n sums places)
  pub four : 4 ≤ n
  pub most : max_degree settings.bound n ≤ highest_degree

-- it has a place in the list, and degrees up to 15
pub record FoundRoom (n : ℕ) (best : Best) : Type 0 where
  pub place : best.at ≤ n
  pub before : best.before.0 ≤ highest_degree
  pub after : best.after.0 ≤ highest_degree

-- the most pivot tests of a search: 4,093 breaks of 4,096 samples, and at either side of each 1 + 2 + .. + 16
abbrev pub most_tests : ℕ
most_tests = 1113296

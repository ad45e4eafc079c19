-- `prune_insignificant` by either rule of pruning. Definitions only.
use Rattle.std.specs.Prelude.{Bool, ◌&&◌, List, ℕ, ltb, get_or, Float}
use Rattle.std.specs.Float.{nan, binary64}
use Rattle.std.specs.Float.Ieee.{div, lt}
use Rattle.loops.specs.Places.{table}
use Rattle.value.specs.Absolute.{abs_f}
use Rattle.value.specs.Numbers.{epsilon}
use Rattle.covariance.specs.Marks.{mark}
use Rattle.covariance.specs.declared.PruningRule.{PruningRule}
use Rattle.covariance.specs.declared.PruningRule.TheVariants as rules

-- what a rule holds against 2⁻⁵²: the coefficient c itself, so that negative terms stay, as polyfit has it; or its size
unfoldable pub tested : PruningRule → Float → Float
tested rules.Positive c = c
tested rules.Size c = abs_f c

-- a coefficient c with its error is pruned where that is above 2⁻⁵² and |c| / error is below the t score
unfoldable pub prunes : PruningRule → Float → Float → Float → Bool
prunes rule t c error = lt epsilon (tested rule c) && lt (div binary64 (abs_f c) error) t

-- the byte of coefficient i: 1 if it is one of the k and pruned, else 0
unfoldable pub pruned_at : PruningRule → ℕ → List Float → List Float → Float → ℕ → ℕ
pruned_at rule k c errors t i = mark (ltb i k && prunes rule t (get_or c i nan) (get_or errors i nan))

-- m pruning bytes: 1 pruned, else 0
abbrev pub pruned_bytes : ℕ → PruningRule → ℕ → List Float → List Float → Float → List ℕ
pruned_bytes m rule k c errors t = table (pruned_at rule k c errors t) m

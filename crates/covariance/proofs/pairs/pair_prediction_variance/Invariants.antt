-- `covariance::pairs::pair_prediction_variance` meets its contract. The loop's invariant: v holds the sums over the columns passed.
use Rattle.std.proofs.Common.{◌≡◌, [], ◌∷◌}
use lib.ListN.{get_or}
use lib.Ieee.{nan, binary64, mul}
use Rattle.loops.specs.Places.{table}
use Rattle.value.specs.Lanes.{lane}
use Rattle.value.specs.Total.{total_f}
use Rattle.covariance.specs.Covariance.{column_of}
use Rattle.covariance.proofs.pairs.pair_prediction_variance.Given as goal

abbrev pub invariant-loop-j : goal.invariant-loop-j
invariant-loop-j l =
    l.v ≡ total_f (table (λ i. mul binary64 (column_of l.k.0 (lane 0 l.terms) l.covariance i) (get_or (lane 0 l.terms) i nan)) l.j)
    ∷ total_f (table (λ i. mul binary64 (column_of l.k.0 (lane 1 l.terms) l.covariance i) (get_or (lane 1 l.terms) i nan)) l.j) ∷ []

-- `covariance::pairs::pair_column` meets its contract. The loop's invariant: v holds the sums over the places passed.
use Rattle.std.proofs.Common.{◌≡◌, [], ◌∷◌}
use Rattle.value.specs.Lanes.{lane}
use Rattle.covariance.specs.Covariance.{column_of}
use Rattle.covariance.proofs.pairs.pair_column.Given as goal

abbrev pub invariant-loop-i : goal.invariant-loop-i
invariant-loop-i l = l.v ≡ column_of l.i (lane 0 l.terms) l.covariance l.j ∷ column_of l.i (lane 1 l.terms) l.covariance l.j ∷ []

-- `covariance::prediction_variance` meets its contract. The loop's invariant: v is the sum over the columns passed.
use mathlib.Core.Path.{◌≡◌}
use Prim.Native.Nat.{◌-◌, ◌≤◌}
use lib.ListN.{get_or}
use lib.Ieee.{nan, binary64, mul}
use Rattle.loops.specs.Places.{table}
use Rattle.value.specs.Total.{total_f}
use Rattle.covariance.specs.Covariance.{column_of}
use Rattle.covariance.proofs.prediction_variance.Given as goal

abbrev pub invariant-loop-j : goal.invariant-loop-j
invariant-loop-j l = (l.j ≤ l.n) × (l.v ≡ total_f (table (λ i. mul binary64 (column_of l.k.0 l.terms l.covariance i) (get_or l.terms i nan)) l.j))

abbrev pub decreases-loop-j : goal.decreases-loop-j
decreases-loop-j l = l.n - l.j

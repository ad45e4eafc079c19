-- `covariance::column` meets its contract. The loop's invariant: v is the sum over the places passed.
use mathlib.Core.Path.{◌≡◌}
use Prim.Native.Nat.{◌-◌, ◌≤◌}
use Rattle.covariance.specs.Covariance.{column_of}
use Rattle.covariance.proofs.column.Given as goal

abbrev pub invariant-loop-i : goal.invariant-loop-i
invariant-loop-i l = (l.i ≤ l.n) × (l.v ≡ column_of l.i l.terms l.covariance l.j)

abbrev pub decreases-loop-i : goal.decreases-loop-i
decreases-loop-i l = l.n - l.i

-- `covariance::put_edges` meets its contract. The loop's invariant: the places passed are written, from what stood where it began, and count is their number
-- of ones.
use mathlib.Core.Path.{◌≡◌}
use Prim.Native.Nat.{◌-◌, ◌≤◌}
use lib.ListN.{length}
use Rattle.loops.specs.Places.{table}
use Rattle.covariance.specs.Marks.{ones}
use Rattle.covariance.specs.BandsFrom.{band_from, outlier_from}
use Rattle.covariance.proofs.Rows.{written}
use Rattle.covariance.proofs.put_edges.Given as goal

abbrev pub invariant-loop-i : goal.invariant-loop-i
invariant-loop-i l = (l.i ≤ length l.ys) × (l.count ≤ l.i) × (l.count ≡ ones (table (outlier_from l.spread.tolerance l.spread.z l.initial.lower l.initial.upper l.ys) l.i))
    × (length l.lower ≡ length l.initial.lower) × (l.lower ≡ written (λ j. (band_from l.spread.tolerance l.spread.z l.initial.lower l.initial.upper j).lower) l.i l.initial.lower)
    × (length l.upper ≡ length l.initial.upper) × (l.upper ≡ written (λ j. (band_from l.spread.tolerance l.spread.z l.initial.lower l.initial.upper j).upper) l.i l.initial.upper)
    × (length l.outlier ≡ length l.initial.outlier) × (l.outlier ≡ written (outlier_from l.spread.tolerance l.spread.z l.initial.lower l.initial.upper l.ys) l.i l.initial.outlier)

abbrev pub decreases-loop-i : goal.decreases-loop-i
decreases-loop-i l = length l.ys - l.i

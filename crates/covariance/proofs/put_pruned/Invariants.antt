-- `covariance::put_pruned` meets its contract. The loop's invariant: the places passed hold their bytes, and count is their number of ones.
use mathlib.Core.Path.{◌≡◌}
use Prim.Native.Nat.{◌-◌, ◌≤◌}
use lib.ListN.{length}
use Rattle.loops.specs.Places.{each, table}
use Rattle.covariance.specs.Marks.{ones}
use Rattle.covariance.specs.Pruning.{pruned_at}
use Rattle.covariance.proofs.put_pruned.Given as goal

abbrev pub invariant-loop-i : goal.invariant-loop-i
invariant-loop-i l = (l.i ≤ length l.initial.out) × (length l.out ≡ length l.initial.out) × (l.out ≡ each (λ j _. pruned_at l.rule l.k.0 l.c l.errors l.t j) l.i l.initial.out)
    × (l.count ≤ l.i) × (l.count ≡ ones (table (pruned_at l.rule l.k.0 l.c l.errors l.t) l.i))

abbrev pub decreases-loop-i : goal.decreases-loop-i
decreases-loop-i l = length l.initial.out - l.i

-- `covariance::widen` meets its contract. The loop's invariant: the places passed are widened.
use Rattle.std.proofs.Common.{◌≡◌, length}
use Rattle.loops.specs.Places.{each}
use Rattle.covariance.specs.Bands.{widened}
use Rattle.covariance.proofs.widen.Given as goal

abbrev pub invariant-loop-i : goal.invariant-loop-i
invariant-loop-i l = (length l.variances ≡ length l.initial.variances) × (l.variances ≡ each (λ _ v. widened l.spread.tolerance l.spread.sd v) l.i l.initial.variances)

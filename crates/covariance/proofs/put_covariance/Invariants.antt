-- `covariance::put_covariance` meets its contract. The loop's invariant: the places passed are products.
use Rattle.std.proofs.Common.{◌≡◌, length}
use lib.Ieee.{binary64, mul}
use Rattle.loops.specs.Places.{each}
use Rattle.covariance.proofs.put_covariance.Given as goal

abbrev pub invariant-loop-t : goal.invariant-loop-t
invariant-loop-t l = (length l.inverse ≡ 256) × (l.inverse ≡ each (λ _ v. mul binary64 v l.variance) l.t l.fn.inverse)

-- `monomial::fitted` meets its contract. The loop's invariant: v is the fitted value of the coefficients passed.
use mathlib.Core.Path.{◌≡◌}
use Prim.Native.Nat.{◌-◌, ◌≤◌}
use Rattle.monomial.specs.Rows.{fitted}
use Rattle.monomial.proofs.fitted.Given as goal

abbrev pub invariant-loop-j : goal.invariant-loop-j
invariant-loop-j l = (l.j ≤ l.n) × (l.v ≡ fitted l.j l.c l.terms)

abbrev pub decreases-loop-j : goal.decreases-loop-j
decreases-loop-j l = l.n - l.j

-- `covariance::put_values_by` meets its contract. The loop's invariant: the places passed are written.
use mathlib.Core.Path.{◌≡◌}
use Prim.Native.Nat.{◌*◌, ◌≤◌}
use lib.Ieee.{nan}
use lib.ListN.{length, get_or}
use Rattle.monomial.specs.Terms.{terms_at}
use Rattle.monomial.specs.Rows.{fitted}
use Rattle.covariance.specs.Covariance.{prediction_variance}
use Rattle.covariance.proofs.Rows.{written}
use Rattle.covariance.proofs.put_values_by.Given as goal

abbrev pub invariant-loop-p : goal.invariant-loop-p
invariant-loop-p l =
    (length l.values ≡ length l.initial.values) × (l.values ≡ written (λ j. fitted l.k.0 l.c (terms_at l.rows.basis (get_or l.rows.xs.now j nan) (get_or l.rows.zs.now j nan))) (2 * l.p) l.initial.values)
    × (length l.variances ≡ length l.initial.variances) × (l.variances ≡ written (λ j. prediction_variance l.k.0 (terms_at l.rows.basis (get_or l.rows.xs.now j nan) (get_or l.rows.zs.now j nan)) l.covariance) (2 * l.p) l.initial.variances)

abbrev pub invariant-loop-i : goal.invariant-loop-i
invariant-loop-i l = (l.i ≤ length l.rows.ys.now)
    × (length l.values ≡ length l.fn.values) × (l.values ≡ written (λ j. fitted l.k.0 l.c (terms_at l.rows.basis (get_or l.rows.xs.now j nan) (get_or l.rows.zs.now j nan))) l.i l.fn.values)
    × (length l.variances ≡ length l.fn.variances) × (l.variances ≡ written (λ j. prediction_variance l.k.0 (terms_at l.rows.basis (get_or l.rows.xs.now j nan) (get_or l.rows.zs.now j nan)) l.covariance) l.i l.fn.variances)

-- `monomial::fold_right` meets its contract. The invariant: what the rows passed add to g is added.
use mathlib.Core.Path.{◌≡◌}
use Prim.Native.Nat.{◌-◌, ◌≤◌}
use lib.ListN.{length}
use Rattle.monomial.specs.Rows.{weighted_rows_at}
use Rattle.monomial.specs.Adding.{add_all}
use Rattle.monomial.specs.Parts.{right_product}
use Rattle.monomial.proofs.fold_right.Given as goal

abbrev pub invariant-loop-t : goal.invariant-loop-t
invariant-loop-t l = (l.t ≤ length l.rows.ys.now) × (length l.g ≡ length l.initial.g) × (l.g ≡ add_all right_product 16 l.initial.g (weighted_rows_at l.rows.basis l.t l.rows.xs.now l.rows.zs.now l.rows.ys.now l.rows.ws.now))

abbrev pub decreases-loop-t : goal.decreases-loop-t
decreases-loop-t l = length l.rows.ys.now - l.t

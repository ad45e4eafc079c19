-- `monomial::add_rows` meets its contract. The invariant: the rows passed are added in the corner.
use mathlib.Core.Path.{◌≡◌}
use Prim.Native.Nat.{◌-◌, ◌≤◌}
use lib.ListN.{length}
use Rattle.monomial.specs.Rows.{weighted_rows_at}
use Rattle.monomial.specs.Sums.{add_rows}
use Rattle.monomial.specs.Corner.{CornerSet}
use Rattle.monomial.proofs.add_rows.Given as goal

abbrev pub invariant-loop-t : goal.invariant-loop-t
invariant-loop-t l = (l.t ≤ length l.rows.ys.now) × (length l.sums ≡ length l.initial.sums) × CornerSet l.k.0 (add_rows l.initial.sums (weighted_rows_at l.rows.basis l.t l.rows.xs.now l.rows.zs.now l.rows.ys.now l.rows.ws.now)) l.initial.sums l.sums

abbrev pub decreases-loop-t : goal.decreases-loop-t
decreases-loop-t l = length l.rows.ys.now - l.t

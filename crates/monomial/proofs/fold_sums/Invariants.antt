-- `monomial::fold_sums` meets its contract. The invariants: the rows passed are added, in the upper half of A and in g.
use mathlib.Core.Path.{◌≡◌}
use mathlib.Core.List.{List}
use Prim.Native.Nat.{◌-◌, ◌*◌, ◌≤◌}
use lib.ListN.{length}
use lib.Ieee.{Float}
use Rattle.monomial.specs.Rows.{weighted_rows_at}
use Rattle.monomial.specs.Sums.{add_rows}
use Rattle.monomial.specs.Upper.{SameUpper}
use Rattle.monomial.proofs.fold_sums.Given as goal

abbrev pub invariant-loop-p : goal.invariant-loop-p
invariant-loop-p l = (l.p ≤ l.pairs) × (272 ≤ length l.sums) × (length l.sums ≡ length l.initial.sums) × SameUpper l.sums (add_rows l.initial.sums (weighted_rows_at l.rows.basis (2 * l.p) l.rows.xs.now l.rows.zs.now l.rows.ys.now l.rows.ws.now))

abbrev pub decreases-loop-p : goal.decreases-loop-p
decreases-loop-p l = l.pairs - l.p

abbrev pub invariant-loop-t : goal.invariant-loop-t
invariant-loop-t l = (l.t ≤ l.n) × (272 ≤ length l.sums) × (length l.sums ≡ length l.initial.sums) × ((s : List Float) → SameUpper l.initial.sums (add_rows s (weighted_rows_at l.rows.basis (2 * l.pairs) l.rows.xs.now l.rows.zs.now l.rows.ys.now l.rows.ws.now)) → SameUpper l.sums (add_rows s (weighted_rows_at l.rows.basis l.t l.rows.xs.now l.rows.zs.now l.rows.ys.now l.rows.ws.now)))

abbrev pub decreases-loop-t : goal.decreases-loop-t
decreases-loop-t l = l.n - l.t

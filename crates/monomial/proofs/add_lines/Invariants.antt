-- `monomial::add_lines` meets its contract. The invariants: the lines passed have their products, and of a line the places passed.
use mathlib.Core.Path.{◌≡◌}
use Prim.Native.Nat.{◌-◌, ◌≤◌}
use lib.ListN.{length}
use Rattle.monomial.specs.Rows.{weighted_row}
use Rattle.monomial.proofs.Lines.{gains, Cells, Lines}
use Rattle.monomial.proofs.add_lines.Given as goal

abbrev pub invariant-loop-j : goal.invariant-loop-j
invariant-loop-j l = (l.j ≤ l.n) × (length l.sums ≡ length l.initial.sums) × Cells (gains (weighted_row l.terms l.y l.w)) l.i l.j l.initial.sums l.sums

abbrev pub decreases-loop-j : goal.decreases-loop-j
decreases-loop-j l = l.n - l.j

abbrev pub invariant-loop-i : goal.invariant-loop-i
invariant-loop-i l = (l.i ≤ l.n) × (length l.sums ≡ length l.initial.sums) × Lines (gains (weighted_row l.terms l.y l.w)) l.n l.i l.initial.sums l.sums

abbrev pub decreases-loop-i : goal.decreases-loop-i
decreases-loop-i l = l.n - l.i

-- `monomial::add_matrix` meets its contract. The invariants: the places of A that were passed, 16i in the outer loop and 16i + j in the inner one, have
-- their products.
use mathlib.Core.Path.{◌≡◌}
use mathlib.Core.List.{List}
use Prim.Native.Nat.{◌+◌, ◌-◌, ◌*◌, ◌≤◌}
use lib.ListN.{length}
use lib.Ieee.{Float}
use Rattle.monomial.proofs.Parts.{added_a}
use Rattle.monomial.proofs.add_matrix.Given as goal

abbrev pub invariant-loop-j : goal.invariant-loop-j
invariant-loop-j l = (l.j ≤ 16) × (length l.sums ≡ length l.initial.sums) × ((s : List Float) → 256 ≤ length s → l.initial.sums ≡ added_a l.terms l.w (16 * l.i) s → l.sums ≡ added_a l.terms l.w (16 * l.i + l.j) s)

abbrev pub decreases-loop-j : goal.decreases-loop-j
decreases-loop-j l = 16 - l.j

abbrev pub invariant-loop-i : goal.invariant-loop-i
invariant-loop-i l = (l.i ≤ 16) × (length l.sums ≡ length l.initial.sums) × (l.sums ≡ added_a l.terms l.w (16 * l.i) l.initial.sums)

abbrev pub decreases-loop-i : goal.decreases-loop-i
decreases-loop-i l = 16 - l.i

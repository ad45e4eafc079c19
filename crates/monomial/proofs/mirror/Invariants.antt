-- `monomial::mirror` meets its contract. The invariants: of the places that were passed, those below the diagonal are copied.
use mathlib.Core.Path.{◌≡◌}
use mathlib.Core.List.{List}
use Prim.Native.Nat.{◌+◌, ◌-◌, ◌*◌, ◌≤◌}
use lib.ListN.{length}
use lib.Ieee.{Float}
use Rattle.monomial.proofs.Upper.{Mirrored}
use Rattle.monomial.proofs.mirror.Given as goal

abbrev pub invariant-loop-j : goal.invariant-loop-j
invariant-loop-j l = (l.j ≤ l.i) × (length l.sums ≡ length l.initial.sums) × ((s : List Float) → Mirrored (16 * l.i) s l.initial.sums → Mirrored (16 * l.i + l.j) s l.sums)

abbrev pub decreases-loop-j : goal.decreases-loop-j
decreases-loop-j l = l.i - l.j

abbrev pub invariant-loop-i : goal.invariant-loop-i
invariant-loop-i l = (l.i ≤ 16) × (length l.sums ≡ length l.initial.sums) × Mirrored (16 * l.i) l.initial.sums l.sums

abbrev pub decreases-loop-i : goal.decreases-loop-i
decreases-loop-i l = 16 - l.i

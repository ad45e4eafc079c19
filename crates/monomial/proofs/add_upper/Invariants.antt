-- `monomial::add_upper` meets its contract. The invariants: the places that were passed, those before 16i in the outer loop and before 16i + j in the inner
-- one, have their products.
use mathlib.Core.Path.{◌≡◌}
use mathlib.Core.List.{List}
use Prim.Native.Nat.{ℕ, ◌+◌, ◌-◌, ◌*◌, ◌≤◌}
use lib.ListN.{length}
use lib.Ieee.{Float}
use Rattle.value.specs.Numbers.{zero_f}
use Rattle.monomial.specs.Rows.{weighted_row}
use Rattle.monomial.proofs.Lines.{gains}
use Rattle.monomial.proofs.Upper.{Passed}
use Rattle.monomial.proofs.add_upper.Given as goal

-- what becomes of a place
abbrev pub twice : List Float → Float → List Float → Float → ℕ → Float → Float
twice terms w later v k e = gains (weighted_row later zero_f v) k (gains (weighted_row terms zero_f w) k e)

abbrev pub invariant-loop-j : goal.invariant-loop-j
invariant-loop-j l = (l.j ≤ 16) × (length l.sums ≡ length l.initial.sums) × ((s : List Float) → Passed (twice l.terms l.w l.later l.v) (16 * l.i) s l.initial.sums → Passed (twice l.terms l.w l.later l.v) (16 * l.i + l.j) s l.sums)

abbrev pub decreases-loop-j : goal.decreases-loop-j
decreases-loop-j l = 16 - l.j

abbrev pub invariant-loop-i : goal.invariant-loop-i
invariant-loop-i l = (l.i ≤ 16) × (length l.sums ≡ length l.initial.sums) × Passed (twice l.terms l.w l.later l.v) (16 * l.i) l.initial.sums l.sums

abbrev pub decreases-loop-i : goal.decreases-loop-i
decreases-loop-i l = 16 - l.i

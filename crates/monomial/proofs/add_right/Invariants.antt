-- `monomial::add_right` meets its contract. The loop's invariant: the places of g that were passed have their products.
use mathlib.Core.Path.{◌≡◌}
use Prim.Native.Nat.{◌-◌, ◌≤◌}
use lib.ListN.{length}
use Rattle.monomial.specs.Rows.{weighted_row}
use Rattle.monomial.proofs.Parts.{added_g}
use Rattle.monomial.proofs.add_right.Given as goal

abbrev pub invariant-loop-i : goal.invariant-loop-i
invariant-loop-i l = (l.i ≤ 16) × (length l.g ≡ length l.initial.g) × (l.g ≡ added_g (weighted_row l.terms l.y l.w) l.i l.initial.g)

abbrev pub decreases-loop-i : goal.decreases-loop-i
decreases-loop-i l = 16 - l.i

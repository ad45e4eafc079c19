-- `fit::choose_from` meets its contract.
use mathlib.Core.Path.{◌≡◌}
use Prim.Native.Nat.{◌+◌, ◌-◌, ◌*◌, ◌≤◌}
use lib.ListN.{length}
use Rattle.loops.specs.Fold.{fold}
use Rattle.loops.specs.Places.{each, table}
use Rattle.loops.specs.Within.{Within}
use Rattle.basis.specs.Counts.{count_of}
use Rattle.monomial.specs.Reading.{rows_read}
use Rattle.fit.specs.Solved.{pivot_tests}
use Rattle.fit.proofs.Choosing.{known}
use Rattle.fit.proofs.choose_from.Given as goal

abbrev pub invariant-loop-d : goal.invariant-loop-d
invariant-loop-d l = (l.d ≤ l.b) × (l.tests ≤ 16 * l.d) × Within (length l.rows.ys.now) l.initial.scratch l.scratch
    × (l.scores ≡ each (λ e _. known l.rows.basis l.criterion l.sums (rows_read l.rows) e) l.d l.initial.scores)
    × (l.tests ≡ fold ◌+◌ 0 (table (λ e. pivot_tests l.sums (count_of l.rows.basis e)) l.d))

abbrev pub decreases-loop-d : goal.decreases-loop-d
decreases-loop-d l = l.b - l.d

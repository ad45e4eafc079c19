-- `folds::add_fold` meets its contract.
use Rattle.std.proofs.Common.{◌≡◌, ◌-◌, ◌≤◌, length}
use Rattle.loops.specs.Places.{each}
use Rattle.loops.specs.Within.{Within}
use Rattle.monomial.specs.Reading.{weighted_read}
use Rattle.folds.specs.Folds.{degree_scored}
use Rattle.folds.specs.Tallies.{added}
use Rattle.folds.proofs.add_fold.Given as goal

abbrev pub invariant-loop-d : goal.invariant-loop-d
invariant-loop-d l = (l.d ≤ l.b) × Within (length l.rows.ys.now) l.initial.scratch l.scratch × (length l.tallies ≡ 16)
    × (l.tallies ≡ each (λ e t. added (degree_scored l.criterion (weighted_read l.rows) l.folds e l.f) t) l.d l.initial.tallies)

abbrev pub decreases-loop-d : goal.decreases-loop-d
decreases-loop-d l = l.b - l.d

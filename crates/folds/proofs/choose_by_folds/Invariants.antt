-- `folds::choose_by_folds` meets its contract.
use Rattle.std.proofs.Common.{◌-◌, ◌<◌, ◌≤◌, length, take}
use Rattle.loops.specs.Within.{Within}
use Rattle.monomial.specs.Reading.{weighted_read}
use Rattle.monomial.specs.Sums.{sums_of}
use Rattle.monomial.specs.Corner.{SameCorner}
use Rattle.folds.specs.Folds.{degree_scored, start_of}
use Rattle.folds.specs.Tallies.{Tallied}
use Rattle.folds.proofs.choose_by_folds.Given as goal

abbrev pub invariant-loop-f : goal.invariant-loop-f
invariant-loop-f l = (l.f ≤ l.folds) × Within (length l.rows.ys.now) l.initial.scratch l.scratch × Tallied (degree_scored l.criterion (weighted_read l.rows) l.folds) l.f l.b l.tallies
    × (l.f < l.folds → SameCorner l.b l.before (sums_of (take (start_of (length l.rows.ys.now) l.folds l.f) (weighted_read l.rows))))

abbrev pub decreases-loop-f : goal.decreases-loop-f
decreases-loop-f l = l.folds - l.f

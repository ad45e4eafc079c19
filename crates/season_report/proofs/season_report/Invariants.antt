-- `season_report::season_report` meets its contract. The loop's invariant: the turns that are left make of the present reports and memory what all turns make of
-- the first, and no more stakes passed than were asked.
use mathlib.Core.Path.{◌≡◌}
use Prim.Native.Nat.{◌-◌, ◌≤◌}
use lib.ListN.{length}
use Rattle.stakes.specs.Parts.{stakes}
use Rattle.stakes.specs.Stake.{season_held}
use Rattle.season_report.specs.Reports.{Reported, report_turn, unreported}
use Rattle.loops.specs.Loop.{from}
use Rattle.season_report.proofs.season_report.Given as goal

abbrev pub invariant-loop-stake : goal.invariant-loop-stake
invariant-loop-stake l = (length l.scratch ≡ length l.initial.scratch) × (length l.coefficients ≡ length l.initial.coefficients) × (length l.errors ≡ length l.initial.errors) × (length l.pruned ≡ length l.initial.pruned) × (length l.lower ≡ length l.initial.lower) × (length l.upper ≡ length l.initial.upper) × (length l.outliers ≡ length l.initial.outliers) × (length l.reports ≡ stakes) × (l.passed ≤ l.stake)
    × (◌≡◌ {A = Reported} (from (report_turn l.settings (season_held l.fn.season)) l.stake stakes (record { reports = l.reports; passed = l.passed; lent = record { scratch = l.scratch; coefficients = l.coefficients; errors = l.errors; pruned = l.pruned; lower = l.lower; upper = l.upper; outliers = l.outliers } }))
    (from (report_turn l.settings (season_held l.fn.season)) 0 stakes (unreported (record { scratch = l.initial.scratch; coefficients = l.initial.coefficients; errors = l.initial.errors; pruned = l.initial.pruned; lower = l.initial.lower; upper = l.initial.upper; outliers = l.initial.outliers }))))

abbrev pub decreases-loop-stake : goal.decreases-loop-stake
decreases-loop-stake l = stakes - l.stake

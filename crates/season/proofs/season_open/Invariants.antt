-- `season::season_open` meets its contract. The loop's invariant: opening the stakes that are left makes of the present season what opening all made of the first.
use mathlib.Core.Path.{◌≡◌}
use Prim.Native.Nat.{ℕ, ◌-◌}
use lib.ListN.{length}
use Rattle.stakes.specs.Parts.{stakes}
use Rattle.stakes.specs.Season.{SeasonState, season_of}
use Rattle.season.specs.Changes.{open_stake_out}
use Rattle.loops.specs.Loop.{from}
use Rattle.samples.specs.Columns.{no_columns}
use Rattle.season.proofs.season_open.Given as goal

abbrev pub Step : ℕ → SeasonState → SeasonState
Step s T = (open_stake_out s T).season

abbrev pub invariant-loop-stake : goal.invariant-loop-stake
invariant-loop-stake l = (length l.counts ≡ length l.initial.counts) × (length l.sums ≡ length l.initial.sums)
    × (from Step l.stake stakes (season_of l.counts no_columns l.sums) ≡ from Step 0 stakes (season_of l.initial.counts no_columns l.initial.sums))

abbrev pub decreases-loop-stake : goal.decreases-loop-stake
decreases-loop-stake l = stakes - l.stake

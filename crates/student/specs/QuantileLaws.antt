-- Laws of Quantile.antt.
use Rattle.std.specs.Prelude.{◌≡◌, ℕ, ◌+◌, ◌-◌, ◌≤◌, ◌<◌}
use Rattle.std.proofs.Common.{arith}
use Rattle.statistics.specs.Table.{table_entry}
use Rattle.student.specs.Quantile.{Measure, Rounded, one_in, half_place, IsQuantile, EveryEntry}

-- the same by the degrees of freedom df, from 1, as the t score has them
pub entry_quantile : (measure : Measure) → EveryEntry measure → (df col : ℕ) → 0 < df → df ≤ 30 → col < 6 →
    Rounded measure df (one_in col) (table_entry (df - 1) col) (half_place (df - 1) col)
unfolding EveryEntry IsQuantile
entry_quantile measure all df col h g k =
    let e : df - 1 + 1 ≡ df = omega arith in
    rw e at (all (df - 1) col (omega arith) k)

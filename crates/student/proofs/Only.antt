-- The entries of the t table are the only ones: in each row and column no other number with as many places is the rounded quantile, by area (`only_entry_by_area`), and
-- by series none from 1 on (`only_entry_by_series`). So with 8 degrees of freedom at 0.95 it is not 2.360, the entry with two digits swapped.
use Rattle.std.specs.Prelude.{ℕ, ◌+◌, ◌≤◌, ◌<◌, T, leb}
use Rattle.std.proofs.Common.{lt_of_not-le, arith, leb→le}
use Rattle.statistics.specs.Table.{thousandths, table_entry, all_below}
use Rattle.statistics.specs.TableLaws.{all_cells}
use Rattle.student.specs.Quantile.{Rounded, one_in, half_place, IsQuantile, EveryEntry, IsEntry}
use Rattle.student.specs.ByArea.{by_area}
use Rattle.student.proofs.AreaLaws.{one_rounded_by_area}
use Rattle.student.specs.AreaCheck.{every_entry_by_area}
use Rattle.student.specs.BySeries.{by_series}
use Rattle.student.specs.Laws.{one_rounded_by_series}
use Rattle.student.specs.SeriesCheck.{every_entry_by_series}

pub only_entry_by_area : (row col e : ℕ) → row < 30 → col < 6 → Rounded by_area (row + 1) (one_in col) e (half_place row col) → IsEntry row col e
unfolding EveryEntry IsQuantile IsEntry
only_entry_by_area row col e hr hc r =
    let t = every_entry_by_area row col hr hc in
    (lt_of_not-le (λ h. one_rounded_by_area _ _ _ _ _ h t r), lt_of_not-le (λ h. one_rounded_by_area _ _ _ _ _ h r t))

from_one : T (all_below (λ row. all_below (λ col. leb 1000 (table_entry row col)) 6) 30)
unfolding all_below table_entry thousandths
from_one = tt

pub only_entry_by_series : (row col e : ℕ) → row < 30 → col < 6 → 1000 ≤ e → Rounded by_series (row + 1) (one_in col) e (half_place row col) → IsEntry row col e
unfolding EveryEntry IsQuantile IsEntry
only_entry_by_series row col e hr hc he r =
    let t = every_entry_by_series row col hr hc in
    let c = leb→le 1000 (table_entry row col) (all_cells (λ i j. leb 1000 (table_entry i j)) 30 6 from_one row col hr hc) in
    (lt_of_not-le (λ h. one_rounded_by_series _ _ _ _ _ (omega arith) c h t r), lt_of_not-le (λ h. one_rounded_by_series _ _ _ _ _ (omega arith) he h r t))

pub swapped_not_by_area : Rounded by_area 8 20 2360 1 → ⊥
unfolding IsEntry one_in half_place table_entry thousandths
swapped_not_by_area r = omega (arith, only_entry_by_area 7 2 2360 (omega arith) (omega arith) r)

pub swapped_not_by_series : Rounded by_series 8 20 2360 1 → ⊥
unfolding IsEntry one_in half_place table_entry thousandths
swapped_not_by_series r = omega (arith, only_entry_by_series 7 2 2360 (omega arith) (omega arith) (omega arith) r)

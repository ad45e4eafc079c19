-- Laws of Table.antt.
use Rattle.std.specs.Prelude.{ℕ, zero, suc, ◌+◌, ◌<◌, Bool, T, nat_lt}
use Rattle.std.proofs.Common.{ltb→lt, sym, subst, ⊎_elim, le_of_suc-le-suc, not-suc-le-zero, eq-or-lt_of_le}
use Rattle.statistics.specs.Table.{thousandths, table_entry, all_below}
use Rattle.std.specs.Float.Ieee.Fits.{and_l, and_r}

pub all_below_lem : (f : ℕ → Bool) (n : ℕ) → T (all_below f n) → (k : ℕ) → k < n → T (f k)
unfolding all_below
all_below_lem f zero t k h = absurd (not-suc-le-zero h)
all_below_lem f (suc n) t k h =
    ⊎_elim (λ e. subst (λ (m : ℕ). T (f m)) (sym e) (and_l (f n) (all_below f n) t))
    (λ l. all_below_lem f n (and_r (f n) (all_below f n) t) k l)
    (eq-or-lt_of_le (le_of_suc-le-suc h))

-- the same over rows and columns
pub all_cells : (f : ℕ → ℕ → Bool) (rows cols : ℕ) → T (all_below (λ r. all_below (f r) cols) rows) → (row col : ℕ) → row < rows → col < cols → T (f row col)
all_cells f rows cols t row col hr hc = all_below_lem (f row) cols (all_below_lem (λ r. all_below (f r) cols) rows t row hr) col hc

-- each column strictly falls by row
pub columns_fall : (row col : ℕ) → row < 29 → col < 6 → table_entry (row + 1) col < table_entry row col
unfolding all_below table_entry thousandths
columns_fall row col r c =
    ltb→lt (table_entry (row + 1) col) (table_entry row col) (all_cells (λ j k. nat_lt (table_entry (j + 1) k) (table_entry j k)) 29 6 tt row col r c)

-- and each row strictly rises
pub rows_rise : (row col : ℕ) → row < 30 → col < 5 → table_entry row col < table_entry row (col + 1)
unfolding all_below table_entry thousandths
rows_rise row col r c =
    ltb→lt (table_entry row col) (table_entry row (col + 1)) (all_cells (λ j k. nat_lt (table_entry j k) (table_entry j (k + 1))) 30 5 tt row col r c)

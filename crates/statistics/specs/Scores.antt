-- The z and t scores of document 01's "Statistics", with document 02's E2: polyfit's `Confidence::z_score`, and its `t_score` but at df 30. The numbers stand
-- in `Table.antt`. Definitions only.
use Rattle.std.specs.Prelude.{ℕ, ◌-◌, false, cond, ◌==◌, nat_le, slice_index, Float}
use Rattle.std.specs.Float.{binary64}
use Rattle.std.specs.Float.Ieee.{round}
use Rattle.value.specs.Numbers.{infinity_f}
use Rattle.statistics.specs.Table.{table_entry, z_thousandths}
use Rattle.statistics.specs.declared.Confidence.{Confidence}
use Rattle.statistics.specs.declared.Confidence.TheVariants.{P80, P90, P95, P98, P99, P999, Custom}

-- the double nearest to a number of thousandths, as the decimal 2.306 is read
unfoldable pub milli : ℕ → Float
milli t = round binary64 false t 1000

-- the z score in a column, from 0
unfoldable pub z_at : ℕ → Float
z_at col = milli (slice_index z_thousandths col)

-- `z_score`; a Custom confidence carries its z score
unfoldable pub z_score : Confidence → Float
z_score P80 = z_at 0
z_score P90 = z_at 1
z_score P95 = z_at 2
z_score P98 = z_at 3
z_score P99 = z_at 4
z_score P999 = z_at 5
z_score (Custom z) = z

-- the entry for df degrees of freedom, from 1, in a column, from 0
unfoldable pub entry_at : ℕ → ℕ → Float
entry_at df col = milli (table_entry (df - 1) col)

-- the row's entry in the column of the confidence; Custom has none, and gives its own score
unfoldable pub table_score : Confidence → ℕ → Float
table_score P80 df = entry_at df 0
table_score P90 df = entry_at df 1
table_score P95 df = entry_at df 2
table_score P98 df = entry_at df 3
table_score P99 df = entry_at df 4
table_score P999 df = entry_at df 5
table_score (Custom z) df = z_score (Custom z)

-- `t_score`: df 0 gives +infinity for every confidence, Custom too; Custom gives its own score; df 1 to 30 gives the table's row; the z score starts at 31
unfoldable pub t_score : Confidence → ℕ → Float
t_score c df = cond (df == 0) infinity_f (cond (nat_le df 30) (table_score c df) (z_score c))

-- the degrees of freedom of n samples and k coefficients: n − k, 0 at the least
abbrev pub degrees_of_freedom : ℕ → ℕ → ℕ
degrees_of_freedom n k = n - k

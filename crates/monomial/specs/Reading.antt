-- The rows that are read off cut columns in one struct. Definitions only.
use Rattle.std.specs.Prelude.{List, length}
use Rattle.monomial.specs.Rows.{Row, rows_at, WeightedRow, weighted_rows_at}
use Rattle.monomial.specs.declared.rows.Rows.{Rows}

-- a row for each place of ys
abbrev pub rows_read : Rows → List Row
rows_read r = rows_at r.basis (length r.ys.now) r.xs.now r.zs.now r.ys.now

-- and its weight
abbrev pub weighted_read : Rows → List WeightedRow
weighted_read r = weighted_rows_at r.basis (length r.ys.now) r.xs.now r.zs.now r.ys.now r.ws.now

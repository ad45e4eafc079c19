-- The columns that a call is lent in one struct. Definitions only.
use Rattle.samples.specs.Columns.{Columns, columns_of}
use Rattle.samples.specs.declared.Columns.{Columns as LentColumns}

abbrev pub held : LentColumns → Columns
held c = columns_of c.xs.now c.ys.now c.ws.now

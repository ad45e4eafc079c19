-- Sums in index order from +0. Definitions only.
use Rattle.std.specs.Prelude.{List, Float}
use Rattle.std.specs.Float.{binary64}
use Rattle.std.specs.Float.Ieee.{add}
use Rattle.loops.specs.Fold.{fold}
use Rattle.value.specs.Numbers.{zero_f}

-- sums run in index order from +0
abbrev pub total_f : List Float → Float
total_f l = fold (add binary64) zero_f l

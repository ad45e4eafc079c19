-- A column from which one place goes. Definitions only.
use Rattle.std.specs.Prelude.{List, ℕ, ◌+◌, ◌-◌, drop, Float}
use Rattle.std.proofs.Math.Seq.{paste}

-- place i goes, those after it and below n move down one, and the vacated last place n − 1 keeps its value
unfoldable pub without_at : ℕ → ℕ → List Float → List Float
without_at i n column = paste column i (drop (i + 1) column) (n - 1 - i)

-- The columns of a matrix, for right sides that lie beside each other. Definitions only.
use Rattle.std.specs.Prelude.{◌≡◌, List, ℕ, ◌<◌, get_or, Float}
use Rattle.std.specs.Float.{nan}
use Rattle.basis.specs.Sizes.{max_terms}
use Rattle.loops.specs.Places.{table}
use Rattle.solve.specs.Solve.{cell}

-- the 16 places of column j
unfoldable pub column_in : List Float → ℕ → List Float
column_in v j = table (λ r. cell v r j) max_terms

-- d begins with the first k diagonal places of s
abbrev pub Diagonal : ℕ → List Float → List Float → Type 0
Diagonal k s d = (p : ℕ) → p < k → cell s p p ≡ get_or d p nan

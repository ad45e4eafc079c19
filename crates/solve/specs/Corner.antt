-- The k by k corner of A, all that the solution and the inverse for k coefficients read of it. Definitions only.
use Rattle.std.specs.Prelude.{◌≡◌, List, ℕ, ◌*◌, ◌≤◌, ◌<◌, length, get_or, replicate, Float}
use Rattle.std.specs.Float.{nan}
use Rattle.loops.specs.Places.{each}
use Rattle.value.specs.Numbers.{zero_f}
use Rattle.solve.specs.Solve.{System, cell, eliminate, matrix_of, ridge}

-- two matrices that agree there
pub record SameCells (k : ℕ) (m n : List Float) : Type 0 where
  pub long : 256 ≤ length m
  pub long' : 256 ≤ length n
  pub cells : (r c : ℕ) → r < k → c < k → cell m r c ≡ cell n r c

-- two systems that agree there, and in b
pub record SameSystem (k : ℕ) (s t : System) : Type 0 where
  pub corner : SameCells k s.m t.m
  pub right : s.b ≡ t.b

-- the first k rows of A; +0 stands in the others
unfoldable pub first_rows : List Float → ℕ → List Float
first_rows sums k = each (λ p _. get_or sums p nan) (16 * k) (replicate 256 zero_f)

-- how many pivots hold in the corner with 2⁻⁵² added, whatever b is
abbrev pub ridge_held : List Float → ℕ → List Float → ℕ
ridge_held sums k b = (eliminate (ridge k (matrix_of sums)) k (record { m = ridge k (matrix_of sums); b = b })).at

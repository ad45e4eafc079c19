-- The half of A on and above its diagonal, from which the other half can be copied. Definitions only.
use Rattle.std.specs.Prelude.{◌≡◌, List, ℕ, ◌+◌, ◌*◌, ◌≤◌, ◌<◌, length, get_or, Float}
use Rattle.std.specs.Float.{nan}
use Rattle.basis.specs.Sizes.{matrix_places}

-- two lists of sums agree there, and everywhere behind A
pub record SameUpper (s t : List Float) : Type 0 where
  pub long : length s ≡ length t
  pub matrix : (i j : ℕ) → i ≤ j → j < 16 → get_or s (16 * i + j) nan ≡ get_or t (16 * i + j) nan
  pub behind : (p : ℕ) → matrix_places ≤ p → get_or s p nan ≡ get_or t p nan

-- A[i][j] is A[j][i]
pub record Symmetric (s : List Float) : Type 0 where
  pub turned : (i j : ℕ) → i < j → j < 16 → get_or s (16 * j + i) nan ≡ get_or s (16 * i + j) nan

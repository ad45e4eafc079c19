-- The corner of k rows and columns of A with the first k places of g: all that k coefficients are solved from. Definitions only.
use Rattle.std.specs.Prelude.{◌≡◌, List, ℕ, ◌+◌, ◌*◌, ◌<◌, length, get_or, Float}
use Rattle.std.specs.Float.{nan}
use Rattle.basis.specs.Sizes.{matrix_places}

-- two lists of sums agree there
pub record SameCorner (k : ℕ) (s t : List Float) : Type 0 where
  pub matrix : (i j : ℕ) → i < k → j < k → get_or s (16 * i + j) nan ≡ get_or t (16 * i + j) nan
  pub right : (i : ℕ) → i < k → get_or s (matrix_places + i) nan ≡ get_or t (matrix_places + i) nan

-- a place that lies elsewhere
pub record Elsewhere (k p : ℕ) : Type 0 where
  pub not_matrix : (i j : ℕ) → i < k → j < k → p ≡ 16 * i + j → ⊥
  pub not_right : (i : ℕ) → i < k → p ≡ matrix_places + i → ⊥

-- The sums s have become t: there they are as in u, and every other place is as it was.
pub record CornerSet (k : ℕ) (u s t : List Float) : Type 0 where
  pub long : length t ≡ length s
  pub corner : SameCorner k t u
  pub rest : (p : ℕ) → Elsewhere k p → get_or t p nan ≡ get_or s p nan

-- Doubles on a grid of whole numbers, counted in the smallest double, 2 ^ -1074. Definitions only.
use Rattle.std.specs.Prelude.{◌≡◌, ℕ, ◌*◌, ◌^◌, ◌<◌}

-- v is the size of a double: a number of at most 53 binary digits, times a power of two
pub record Double (v : ℕ) : Type 0 where
  pub digits : ℕ
  pub zeros : ℕ
  pub is : v ≡ digits * 2 ^ zeros
  pub short : digits < 2 ^ 53

-- The square root of a double, over whole numbers. Definitions only.
-- A double's smallest value is 2 ^ -1074, which is the square of 2 ^ -537. So x, counted in units of 2 ^ -2148, is a whole number n,
-- and √x, counted in units of 2 ^ -1074, is √n.
use Rattle.std.specs.Prelude.{ℕ, zero, suc, ◌+◌, ◌-◌, ◌*◌, ◌/◌, ◌^◌, true, false, cond, nat_le, nat_lt, Float}
use Rattle.std.specs.Float.{nan, inf, fin, binary64}
use Rattle.std.specs.Float.Ieee.{up, down, size, units}

-- The whole part of √n for an n below 4 ^ d, one binary digit after the other.
unfoldable pub isqrt : ℕ → ℕ → ℕ
isqrt zero n = 0
isqrt (suc d) n = let s = isqrt d (n / 4) in cond (nat_le ((2 * s + 1) * (2 * s + 1)) n) (2 * s + 1) (2 * s)

-- √n to the nearest whole number, for an n below 4 ^ 53: q or q + 1, by which side of q + 1/2 it lies on. (2 * q + 1) ^ 2 is odd, so there is no tie.
unfoldable pub closest_root : ℕ → ℕ
unfolding isqrt
closest_root n = let q = isqrt 53 n in cond (nat_lt ((2 * q + 1) * (2 * q + 1)) (4 * n)) (suc q) q

-- The double nearest to √n smallest values. √n has (size n + 1) / 2 digits before the point, of which a double drops k; it is √(n / 4 ^ k) * 2 ^ k.
unfoldable pub root_of : ℕ → Float
unfolding closest_root size units
root_of n = let k = (size n + 1) / 2 - 53 in units binary64 false (closest_root (n / (2 ^ k * 2 ^ k))) k

unfoldable pub root_f : Float → Float
unfolding root_of
root_f nan = nan
root_f (inf s) = cond s nan (inf false)
root_f (fin s zero e) = fin s zero e
root_f (fin true (suc m) e) = nan
root_f (fin false (suc m) e) = root_of (suc m * up e * 2 ^ 2148 / down e)

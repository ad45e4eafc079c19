-- The areas under Student's density, by series. Definitions only.
--
-- What a reader must believe, step by step; f(x) = (1 + x²/ν)^(−(ν+1)/2) is the density up to a constant factor.
-- 1. The area under f from 0 to x is x f(x) [ν+1, 3; x²/(ν+x²)], and the area under f beyond x is x f(x) [ν+1, ν+2; ν/(ν+x²)] / ν. Both are the incomplete
--    beta function, with parameters 1/2, ν/2 and ν/2, 1/2, by its series B_z(a, b) = z^a (1−z)^b / a × F(a+b, 1; a+1; z) (NIST Digital Library of
--    Mathematical Functions, 8.17.8; or integration by parts, again and again). Not proved here.
-- 2. So the area beyond t, multiplied by ν, is t f(t) [ν+1, ν+2; ν/(ν+t²)]. The whole area is that from 0 to √ν and that beyond √ν, where both series are
--    taken at 1/2; multiplied by ν it is √ν f(√ν) (ν [ν+1, 3; 1/2] + [ν+1, ν+2; 1/2]).
-- 3. The squares are free of roots: t² f(t)² = t² (ν/(ν+t²))^(ν+1), and ν f(√ν)² = ν / 2^(ν+1).
-- 4. A point t is N/2000. With r = 4000000 ν and d = N² + r: 4000000 t² = N², 4000000 ν = r, ν/(ν+t²) = r/d. The unit of the squares is so chosen that they
--    are N² (r/d)^(ν+1) [ν+1, ν+2; r/d]² and r / 2^(ν+1) (ν [ν+1, 3; 1/2] + [ν+1, ν+2; 1/2])².
-- 5. A series of positive terms is at least each of its partial sums, and at most what none of them exceeds.
-- Proved: that no partial sum exceeds what is used as a bound (`SeriesLaws`), that bounds from below never exceed bounds from above (`Laws`), that each of the 180
-- entries passes (`SeriesCheck`), and that no other number from 1 on with as many places does (`Only` in proofs/).
--
-- Looked for: what else could show a bound that is none.
-- - Bounds of the series with the denominator 0: no partial sum exceeds u/0, but then the area's bound has the denominator 0 too, and shows nothing (`Ratio`).
-- - No terms at all: the sum is 0/1, which bounds from below.
-- - N = 0, which no entry asks for: the area is 0 times a series that has no bound (which is not proved), so that from above only u/0 passes, and from below 0.
-- - ν = 0: the numerators of both areas are 0, and nothing is below or above.
-- There is no division and no difference here.
use Rattle.std.specs.Prelude.{◌≡◌, ℕ, ◌+◌, ◌*◌, ◌^◌}
use Rattle.student.specs.Ratio.{Fraction}
use Rattle.student.specs.Quantile.{Measure}
use Rattle.student.specs.Series.{product, numerator, AtMost, factors}

-- the square of the area beyond N/2000 where [ν+1, ν+2; r/d] is u/v
unfoldable pub beyond_square : ℕ → ℕ → ℕ → ℕ → Fraction
beyond_square ν N u v = (N ^ 2 * (4000000 * ν) ^ (ν + 1) * u ^ 2, (N ^ 2 + 4000000 * ν) ^ (ν + 1) * v ^ 2)

-- the square of the whole area where [ν+1, 3; 1/2] is s/i and [ν+1, ν+2; 1/2] is t/j
unfoldable pub whole_square : ℕ → ℕ → ℕ → ℕ → ℕ → Fraction
whole_square ν s i t j = (4000000 * ν * (ν * s * j + t * i) ^ 2, 2 ^ (ν + 1) * (i * j) ^ 2)

-- bounds from above: the series are at most some fractions
unfoldable pub BeyondAtMost : ℕ → ℕ → Fraction → Type 0
BeyondAtMost ν N p =
    (u : ℕ) × (v : ℕ)
    × AtMost (factors (ν + 1) (4000000 * ν)) (factors (ν + 2) (N ^ 2 + 4000000 * ν)) u v
    × (p ≡ beyond_square ν N u v)

unfoldable pub WholeAtMost : ℕ → Fraction → Type 0
WholeAtMost ν p =
    (s : ℕ) × (i : ℕ) × (t : ℕ) × (j : ℕ)
    × AtMost (factors (ν + 1) 1) (factors 3 2) s i
    × AtMost (factors (ν + 1) 1) (factors (ν + 2) 2) t j
    × (p ≡ whole_square ν s i t j)

-- bounds from below: n terms of the series
unfoldable pub BeyondAtLeast : ℕ → ℕ → Fraction → Type 0
BeyondAtLeast ν N p =
    (n : ℕ)
    × (p
    ≡ beyond_square ν N (numerator (factors (ν + 1) (4000000 * ν)) (factors (ν + 2) (N ^ 2 + 4000000 * ν)) n) (product (factors (ν + 2) (N ^ 2 + 4000000 * ν)) n))

unfoldable pub WholeAtLeast : ℕ → Fraction → Type 0
WholeAtLeast ν p =
    (n : ℕ)
    × (p
    ≡ whole_square ν (numerator (factors (ν + 1) 1) (factors 3 2) n) (product (factors 3 2) n)
    (numerator (factors (ν + 1) 1) (factors (ν + 2) 2) n) (product (factors (ν + 2) 2) n))

abbrev pub by_series : Measure
by_series =
    record { beyond_at_most = BeyondAtMost; beyond_at_least = BeyondAtLeast; whole_at_most = WholeAtMost; whole_at_least = WholeAtLeast }

-- What it is for a z score to be the quantile of the normal distribution, cut to thousandths. Definitions only.
--
-- The two-sided quantile for a confidence 1 − 1/k is the z at which |Z| is above z with probability 1/k, and so at most z with probability (k−1)/k. polyfit's
-- six z scores are these quantiles cut, not rounded: the probability that |Z| is at most N thousandths is below (k−1)/k, and that it is at most N + 1 thousandths
-- is above it (`Cut`).
-- What a reader must believe, step by step; the density is exp(−x²/2) up to a constant factor.
-- 1. The probability is the area under the density from 0 to z divided by the whole area from 0 on.
-- 2. The area from 0 to z is z exp(−z²/2) (1 + z²/3 + z⁴/(3·5) + ..) (integration by parts, again and again), and the whole area is √(π/2). Their squares are
--    z² (1 + z²/3 + ..)² / exp(z²) and π/2.
-- 3. exp(z²) = 1 + z² + z⁴/2 + .., and π/2 = 1 + 1/3 + (1·2)/(3·5) + .. (Euler).
-- 4. z = N/1000, z² = N²/1000000. A series of positive terms is at least each of its partial sums, and at most what none of them exceeds.
-- Looked for: a bound of a series with the denominator 0, and no terms of exp(z²), make a bound from above over 0 or one from below of 0, which show nothing (`Ratio`);
-- exp(z²) has no bound 0/j but 0/0, as its first term is 1. k − 1 is 0 where k is 0 or 1: then nothing is below it.
-- Proved: that no partial sum exceeds what is used as a bound (`SeriesLaws`), that of two neighbouring numbers of thousandths at most one is the cut quantile
-- (`Laws`), and that each of the six z scores passes (`NormalCheck`). Steps 1 to 3 are not proved.
-- "Below" and "above" are those of the t table (`Ratio`); here the part is the area from 0 to z.
use Rattle.std.specs.Prelude.{◌≡◌, ℕ, ◌+◌, ◌-◌, ◌*◌, ◌^◌}
use Rattle.student.specs.Ratio.{Fraction, RatioBelow, RatioAbove}
use Rattle.student.specs.Series.{product, numerator, AtMost, factors}

-- each term of 1 + z²/3 + z⁴/(3·5) + .. is the one before multiplied by z²/3, z²/5, ..; of exp(z²), by z²/1, z²/2, ..; of π/2, by 1/3, 2/5, ..
unfoldable pub z_square : ℕ → ℕ → ℕ
z_square N j = N ^ 2

unfoldable pub inside_factors : ℕ → ℕ
inside_factors j = (2 * j + 3) * 1000000

unfoldable pub exp_factors : ℕ → ℕ
exp_factors j = (j + 1) * 1000000

-- the square of the area from 0 to z where the first series is s/i and exp(z²) is t/j
unfoldable pub inside_square : ℕ → ℕ → ℕ → ℕ → ℕ → Fraction
inside_square N s i t j = (N ^ 2 * s ^ 2 * j, 1000000 * i ^ 2 * t)

unfoldable pub InsideAtMost : ℕ → Fraction → Type 0
InsideAtMost N p =
    (s : ℕ) × (i : ℕ) × (n : ℕ)
    × AtMost (z_square N) inside_factors s i
    × (p ≡ inside_square N s i (numerator (z_square N) exp_factors n) (product exp_factors n))

unfoldable pub InsideAtLeast : ℕ → Fraction → Type 0
InsideAtLeast N p =
    (t : ℕ) × (j : ℕ) × (n : ℕ)
    × AtMost (z_square N) exp_factors t j
    × (p ≡ inside_square N (numerator (z_square N) inside_factors n) (product inside_factors n) t j)

-- π/2 is [2, 3; 1/2]
unfoldable pub HalfPiAtMost : Fraction → Type 0
HalfPiAtMost p = AtMost (factors 2 1) (factors 3 2) p.0 p.1

unfoldable pub HalfPiAtLeast : Fraction → Type 0
HalfPiAtLeast p = (n : ℕ) × (p ≡ (numerator (factors 2 1) (factors 3 2) n, product (factors 3 2) n))

-- the quantile is above N thousandths and below N + 1
unfoldable pub Cut : ℕ → ℕ → Type 0
Cut k N = RatioBelow (InsideAtMost N) HalfPiAtLeast (k - 1) k × RatioAbove (InsideAtLeast (N + 1)) HalfPiAtMost (k - 1) k

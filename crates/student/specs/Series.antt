-- The series 1 + f(0)/g(0) + (f(0)/g(0)) (f(1)/g(1)) + .. by its partial sums, over whole numbers. All its terms are positive, so its value, where there is
-- one, is above every partial sum, and at most each number that no partial sum exceeds. Definitions only.
use Rattle.std.specs.Prelude.{Bool, ◌&&◌, ℕ, zero, suc, ◌+◌, ◌*◌, ◌≤◌, leb}

-- n factors. The term after the first n of the series is product f n / product g n.
unfoldable pub product : (ℕ → ℕ) → ℕ → ℕ
product f zero = 1
product f (suc n) = product f n * f n

-- the sum of the first n terms is numerator f g n / product g n
unfoldable pub numerator : (ℕ → ℕ) → (ℕ → ℕ) → ℕ → ℕ
numerator f g zero = 0
numerator f g (suc n) = (numerator f g n + product f n) * g n

-- every partial sum is at most u/v, and so is the value of the series
unfoldable pub AtMost : (ℕ → ℕ) → (ℕ → ℕ) → ℕ → ℕ → Type 0
AtMost f g u v = (n : ℕ) → numerator f g n * v ≤ u * product g n

-- The factors a y, (a+2) y, (a+4) y, .. With these over the factors b d, (b+2) d, .. the series is
-- [a, b; z] = 1 + (a/b) z + (a/b) ((a+2)/(b+2)) z² + .. at z = y/d, the hypergeometric series F(a/2, 1; b/2; z).
unfoldable pub factors : ℕ → ℕ → ℕ → ℕ
factors a y n = (a + 2 * n) * y

-- three numbers in one run: the sum's numerator, the next term's, and the denominator of both
unfoldable pub sums : (ℕ → ℕ) → (ℕ → ℕ) → ℕ → ℕ × ℕ × ℕ
sums f g zero = (0, 1, 1)
sums f g (suc n) = let p = sums f g n in ((p.0 + p.1) * g n, p.1 * f n, p.2 * g n)

-- the three, one by one
abbrev pub three : (ℕ → ℕ) → (ℕ → ℕ) → ℕ → ℕ × ℕ × ℕ
three f g n = (numerator f g n, product f n, product g n)

-- the test for [a, b; y/d]: from place n on each term is at most (C-1)/C of the one before it
unfoldable pub falls : ℕ → ℕ → ℕ → ℕ → ℕ → ℕ → Bool
falls a b y d C n = leb (y * C + d) (d * C) && leb ((a + 2 * n) * y * C + (b + 2 * n) * d) ((b + 2 * n) * d * C)

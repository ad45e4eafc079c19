-- The ratio of two areas is below m/n, or above it. This is the one meaning of "the probability is below 1/k" in this crate. Definitions only.
--
-- A probability is the area under a part of a density divided by the area under the whole of it. This logic has no areas and no limits; it has whole numbers.
-- So an area is given by what bounds it: a statement which fractions are at most the area, and which are at least the area. (A fraction (a, b) is a/b.) The
-- ratio is below m/n when a bound from above of the part and a bound from below of the whole are in a ratio below m/n already.
-- All bounds are bounds of the square of the area: the series give areas that have one square root in common, and their squares are fractions.
-- Both areas are in one unit, any one, as it cancels.
use Rattle.std.specs.Prelude.{ℕ, ◌*◌, ◌^◌, ◌≤◌, ◌<◌, Bool, ltb}

abbrev pub Fraction : Type 0
Fraction = ℕ × ℕ

-- The squares p and w are in a ratio below (m/n)². A bound from above with the denominator 0 shows nothing, as nothing is below 0. Where a bound from below
-- has the denominator 0 in this crate its numerator is 0 too, and it shows nothing either. With n = 0 nothing is above m/n, with m = 0 nothing below.
unfoldable pub RatioBelow : (Fraction → Type 0) → (Fraction → Type 0) → ℕ → ℕ → Type 0
RatioBelow PartAtMost WholeAtLeast m n =
    (p : Fraction) × (w : Fraction) × PartAtMost p × WholeAtLeast w × (n ^ 2 * (p.0 * w.1) < m ^ 2 * (w.0 * p.1))

unfoldable pub RatioAbove : (Fraction → Type 0) → (Fraction → Type 0) → ℕ → ℕ → Type 0
RatioAbove PartAtLeast WholeAtMost m n =
    (p : Fraction) × (w : Fraction) × PartAtLeast p × WholeAtMost w × (m ^ 2 * (w.0 * p.1) < n ^ 2 * (p.0 * w.1))

-- no bound from below exceeds a bound from above
unfoldable pub Consistent : (Fraction → Type 0) → (Fraction → Type 0) → Type 0
Consistent AtLeast AtMost = (a b : Fraction) → AtLeast a → AtMost b → a.0 * b.1 ≤ b.0 * a.1

-- the two comparisons as tests, which antt computes
unfoldable pub below : Fraction → Fraction → ℕ → ℕ → Bool
below p w m n = ltb (n ^ 2 * (p.0 * w.1)) (m ^ 2 * (w.0 * p.1))

unfoldable pub above : Fraction → Fraction → ℕ → ℕ → Bool
above p w m n = ltb (m ^ 2 * (w.0 * p.1)) (n ^ 2 * (p.0 * w.1))

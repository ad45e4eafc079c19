-- Laws of Medians.antt.
use Rattle.std.specs.Prelude.{◌≡◌, true, false, List, [], ◌∷◌, map, refl, Float}
use Rattle.std.proofs.Common.{ap, ap₂}
use Rattle.std.specs.Int.Count.{count_trailing_zeros}
use Rattle.std.specs.Float.{nan, inf, fin, binary64}
use Rattle.std.specs.Float.Ieee.{of_bits, add, div, eq, round, size, span, climb, odd, units, sum}
use Rattle.value.specs.Absolute.{abs_f}
use Rattle.value.specs.AbsoluteLaws.{abs_abs}
use Rattle.value.specs.Numbers.{two_f, infinity_f}
use Rattle.statistics.specs.Medians.{infinite, midpoint, median_of, deviations, median_absolute_deviation}

-- a size's size is itself
pub sizes_twice : (rs : List Float) → map abs_f (map abs_f rs) ≡ map abs_f rs
sizes_twice [] = refl
sizes_twice (x ∷ xs) = ap₂ (λ (a : Float) (r : List Float). a ∷ r) (abs_abs x) (sizes_twice xs)

-- the deviation of residuals is that of their sizes
pub deviation_sizes : (rs : List Float) → median_absolute_deviation (map abs_f rs) ≡ median_absolute_deviation rs
unfolding median_absolute_deviation
deviation_sizes rs = ap (λ (s : List Float). median_of (deviations (median_of s) s)) (sizes_twice rs)

-- where the sum of the two in the middle is infinite, halves are added
pub midpoint_halves : (low high : Float) → infinite (add binary64 low high) ≡ true
    → add binary64 (div binary64 low two_f) (div binary64 high two_f) ≡ midpoint low high
unfolding midpoint
midpoint_halves low high h = rw h

-- and else the sum is halved
pub midpoint_sum : (low high : Float) → infinite (add binary64 low high) ≡ false → div binary64 (add binary64 low high) two_f ≡ midpoint low high
unfolding midpoint
midpoint_sum low high h = rw h

-- a program's test
pub infinite_is : (x : Float) → infinite x ≡ eq (abs_f x) infinity_f
unfolding infinite abs_f eq of_bits
infinite_is nan = refl
infinite_is (inf s) = refl
infinite_is (fin s m e) = refl

-- ---- the midpoint at both ends of the range

-- the greatest double with itself: their sum is infinite, and half of one plus half of the other is not
abbrev greatest : Float
greatest = of_bits binary64 0x7FEF_FFFF_FFFF_FFFF

pub midpoint_greatest : midpoint greatest greatest ≡ greatest
unfolding midpoint infinite of_bits add div round size span climb odd units sum count_trailing_zeros
midpoint_greatest = refl

-- the least double above 0 with itself, whose half is +0
abbrev least : Float
least = of_bits binary64 1

pub midpoint_least : midpoint least least ≡ least
unfolding midpoint infinite of_bits add div round size span climb odd units sum count_trailing_zeros
midpoint_least = refl

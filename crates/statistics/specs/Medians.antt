-- polyfit's `median` and `median_absolute_deviation`: sort, then the middle. Definitions only.
use Rattle.std.specs.Prelude.{◌-◌, ◌/◌, ◌%◌, Bool, true, false, cond, ◌||◌, List, [], ◌∷◌, map, length, ◌==◌, is_nan, slice_index_or, Float}
use Rattle.std.specs.Float.{nan, inf, fin, binary64}
use Rattle.std.specs.Float.Ieee.{add, sub, div, le}
use Rattle.loops.specs.Fold.{fold}
use Rattle.value.specs.Numbers.{zero_f, two_f}
use Rattle.value.specs.Absolute.{abs_f}

-- a list in ascending order with one more element, before those that are not less
unfoldable pub insert : Float → List Float → List Float
insert x [] = x ∷ []
insert x (y ∷ ys) = let r = y ∷ insert x ys in cond (le x y) (x ∷ y ∷ ys) r

unfoldable pub sort : List Float → List Float
sort [] = []
sort (x ∷ xs) = insert x (sort xs)

unfoldable pub infinite : Float → Bool
infinite nan = false
infinite (inf s) = true
infinite (fin s m e) = false

-- the middle of an even number, from the two in the middle: half their sum; where the sum is infinite, half of one plus half of the other
unfoldable pub midpoint : Float → Float → Float
midpoint low high =
    let sum = add binary64 low high in
    cond (infinite sum) (add binary64 (div binary64 low two_f) (div binary64 high two_f)) (div binary64 sum two_f)

-- whether one is a NaN
unfoldable pub any_nan : List Float → Bool
any_nan l = fold (λ b x. b || is_nan x) false l

-- `median`: +0 of an empty list; the middle of an odd number in order; of an even number, the midpoint of the two in the middle. A NaN has no place
-- in the order, and the Rust leaves open where its sort puts one: the median of a list with a NaN is NaN. No call makes such a list.
unfoldable pub median_of : List Float → Float
median_of l =
    let n = length l in
    let s = sort l in
    cond (any_nan l) nan (cond (n == 0) zero_f (cond (n % 2 == 1) (slice_index_or s (n / 2) nan) (midpoint (slice_index_or s (n / 2 - 1) nan) (slice_index_or s (n / 2) nan))))

-- |x − d| of each
unfoldable pub deviations : Float → List Float → List Float
deviations d l = map (λ x. abs_f (sub binary64 x d)) l

-- `median_absolute_deviation` of residuals: the median of their sizes, then the median of the sizes' deviations from it
unfoldable pub median_absolute_deviation : List Float → Float
median_absolute_deviation rs = let sizes = map abs_f rs in median_of (deviations (median_of sizes) sizes)

-- The products that the code makes are document 01's powers.
use Rattle.std.proofs.Common.{◌≡◌, T, List, [], ◌∷◌}
use lib.Ieee.{Float, binary64, mul, fits}
use lib.Ieee.Fits.{mul-fits}
use Rattle.loops.specs.Places.{table}
use Rattle.value.specs.Exact.{one_times}
use Rattle.value.specs.Numbers.{one_f}
use Rattle.value.specs.Power.{power_f, power_from, power_turns}

abbrev pub products : Float → List Float
products x =
    let x2 = mul binary64 x x in
    let x3 = mul binary64 x x2 in
    let x4 = mul binary64 x2 x2 in
    let x5 = mul binary64 x x4 in
    let x6 = mul binary64 x2 x4 in
    let x7 = mul binary64 x3 x4 in
    let x8 = mul binary64 x4 x4 in
    one_f ∷ x ∷ x2 ∷ x3 ∷ x4 ∷ x5 ∷ x6 ∷ x7 ∷ x8 ∷ mul binary64 x x8 ∷ mul binary64 x2 x8 ∷ mul binary64 x3 x8 ∷ mul binary64 x4 x8 ∷ mul binary64 x5 x8 ∷ mul binary64 x6 x8 ∷ mul binary64 x7 x8 ∷ []

pub products_are : (x : Float) → T (fits binary64 x) → products x ≡ table (power_f x) 16
unfolding table power_f power_from power_turns
products_are x f =
    let x2 = mul binary64 x x in
    let x4 = mul binary64 x2 x2 in
    rw (one_times x f, one_times x2 (mul-fits binary64 x x), one_times x4 (mul-fits binary64 x2 x2), one_times (mul binary64 x4 x4) (mul-fits binary64 x4 x4))

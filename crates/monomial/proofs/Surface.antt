-- A surface's term values, each from the squares and cubes of x and z.
use mathlib.Core.Path.{◌≡◌, refl, ◌∙◌}
use mathlib.Core.List.{[], ◌∷◌}
use lib.Dec.{T}
use lib.Ieee.{Float, binary64, mul, fits, of_bits}
use Rattle.loops.specs.Places.{table}
use Rattle.value.specs.Numbers.{zero_f, one_f}
use Rattle.value.specs.Power.{power_f}
use Rattle.monomial.specs.Terms.{surface_powers, surface_terms}
use Rattle.monomial.proofs.Low.{power_0, power_1, power_2, power_3, power_4}

-- the products, by falling power of x within a total degree
places : (x z : Float) → surface_terms x z ≡ mul binary64 (power_f x 0) (power_f z 0) ∷ mul binary64 (power_f x 1) (power_f z 0) ∷ mul binary64 (power_f x 0) (power_f z 1) ∷ mul binary64 (power_f x 2) (power_f z 0) ∷ mul binary64 (power_f x 1) (power_f z 1) ∷ mul binary64 (power_f x 0) (power_f z 2) ∷ mul binary64 (power_f x 3) (power_f z 0) ∷ mul binary64 (power_f x 2) (power_f z 1) ∷ mul binary64 (power_f x 1) (power_f z 2) ∷ mul binary64 (power_f x 0) (power_f z 3) ∷ mul binary64 (power_f x 4) (power_f z 0) ∷ mul binary64 (power_f x 3) (power_f z 1) ∷ mul binary64 (power_f x 2) (power_f z 2) ∷ mul binary64 (power_f x 1) (power_f z 3) ∷ mul binary64 (power_f x 0) (power_f z 4) ∷ zero_f ∷ []
unfolding surface_terms surface_powers table
places x z = refl

one_one : mul binary64 one_f one_f ≡ one_f
unfolding of_bits mul
one_one = refl

pub surface_is : (x z : Float) → T (fits binary64 x) → T (fits binary64 z) → surface_terms x z ≡ one_f ∷ mul binary64 x one_f ∷ mul binary64 one_f z ∷ mul binary64 (mul binary64 x x) one_f ∷ mul binary64 x z ∷ mul binary64 one_f (mul binary64 z z) ∷ mul binary64 (mul binary64 x (mul binary64 x x)) one_f ∷ mul binary64 (mul binary64 x x) z ∷ mul binary64 x (mul binary64 z z) ∷ mul binary64 one_f (mul binary64 z (mul binary64 z z)) ∷ mul binary64 (mul binary64 (mul binary64 x x) (mul binary64 x x)) one_f ∷ mul binary64 (mul binary64 x (mul binary64 x x)) z ∷ mul binary64 (mul binary64 x x) (mul binary64 z z) ∷ mul binary64 x (mul binary64 z (mul binary64 z z)) ∷ mul binary64 one_f (mul binary64 (mul binary64 z z) (mul binary64 z z)) ∷ zero_f ∷ []
surface_is x z f g =
    places x z
    ∙ (rw (power_0 [] x f, power_1 [] x f, power_2 [] x f, power_3 [] x f, power_4 [] x f, power_0 [] z g, power_1 [] z g, power_2 [] z g, power_3 [] z g, power_4 [] z g, one_one))

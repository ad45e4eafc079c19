-- The term values of a basis at x and z: always 16 places. Definitions only.
use Rattle.std.specs.Prelude.{List, [], ◌∷◌, ◌++◌, map, ℕ, ◌+◌, ◌-◌, Float}
use Rattle.std.specs.Float.{binary64}
use Rattle.std.specs.Float.Ieee.{mul}
use Rattle.basis.specs.Sizes.{max_terms}
use Rattle.loops.specs.Places.{table}
use Rattle.value.specs.Numbers.{zero_f}
use Rattle.value.specs.Power.{power_f}
use Rattle.basis.specs.declared.Basis.{Basis}
use Rattle.basis.specs.declared.Basis.TheVariants.{Curve, Surface}

-- a surface's term xᵃ × zᵇ
pub record Powers : Type 0 where
  pub a : ℕ
  pub b : ℕ

-- those with a + b at most 4, ordered by a + b and then by falling a
abbrev pub of_total : ℕ → List Powers
of_total d = table (λ b. record { a = d - b; b = b }) (d + 1)

unfoldable pub surface_powers : List Powers
surface_powers = of_total 0 ++ (of_total 1 ++ (of_total 2 ++ (of_total 3 ++ of_total 4)))

-- a term is the product of its two powers; the 16th place holds +0
unfoldable pub surface_terms : Float → Float → List Float
surface_terms x z = map (λ (p : Powers). mul binary64 (power_f x p.a) (power_f z p.b)) surface_powers ++ (zero_f ∷ [])

-- a curve's term values are the powers 0 to 15 of x; z is not read
unfoldable pub terms_at : Basis → Float → Float → List Float
terms_at Curve x z = table (power_f x) max_terms
terms_at Surface x z = surface_terms x z

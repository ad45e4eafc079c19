-- Laws of Terms.antt.
use Rattle.std.specs.Prelude.{◌≡◌, refl, Float}
use Rattle.loops.specs.Places.{table}
use Rattle.value.specs.Power.{power_f}
use Rattle.basis.specs.declared.Basis.TheVariants.{Curve}
use Rattle.monomial.specs.Terms.{terms_at}

pub curve_terms : (x z : Float) → terms_at Curve x z ≡ table (power_f x) 16
unfolding terms_at
curve_terms x z = refl

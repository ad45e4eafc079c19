-- The number of coefficients of a degree: the one definition of k. Definitions only.
use Rattle.std.specs.Prelude.{ℕ, ◌+◌, ◌*◌, ◌/◌}
use Rattle.basis.specs.declared.Basis.{Basis}
use Rattle.basis.specs.declared.Basis.TheVariants.{Curve, Surface}

-- a curve of degree d has d + 1 coefficients, a surface of total degree d has (d + 1) × (d + 2) / 2
unfoldable pub count_of : Basis → ℕ → ℕ
count_of Curve d = d + 1
count_of Surface d = (d + 1) * (d + 2) / 2

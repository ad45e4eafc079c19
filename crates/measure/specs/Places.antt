-- How many places the terms of a basis have. Definitions only.
use Rattle.std.specs.Prelude.{ℕ}
use Rattle.basis.specs.declared.Basis.{Basis}
use Rattle.basis.specs.declared.Basis.TheVariants.{Curve, Surface}

-- the places of coefficients, errors and pruning bytes
abbrev pub term_places : Basis → ℕ
term_places Curve = 16
term_places Surface = 15

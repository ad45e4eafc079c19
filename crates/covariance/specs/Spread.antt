-- The standard deviation of all y's as a band needs it: only tolerance variance reads it. Not needed to read a public promise of a call. Definitions only.
use Rattle.std.specs.Prelude.{◌≡◌, Float}
use Rattle.statistics.specs.declared.Tolerance.{Tolerance}
use Rattle.statistics.specs.declared.Tolerance.TheVariants as tolerance

-- a does for the deviation b under this tolerance
abbrev pub DoesFor : Tolerance → Float → Float → Type 0
DoesFor tolerance.None a b = Unit {0}
DoesFor (tolerance.Absolute w) a b = Unit {0}
DoesFor (tolerance.Variance p) a b = a ≡ b
DoesFor (tolerance.Measurement p) a b = Unit {0}

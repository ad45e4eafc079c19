-- When two doubles are the same number, and when they are opposite. Definitions only.
use Rattle.std.specs.Prelude.{◌≡◌, ◌⊎◌, pos, Float}
use Rattle.std.specs.Float.{nan, inf, fin}
use Rattle.std.specs.Float.Ieee.{neg}

-- a zero of either sign
abbrev pub Zero : Float → Type 0
Zero nan = ⊥
Zero (inf s) = ⊥
Zero (fin s m e) = (m ≡ 0) × (e ≡ pos 0)

-- a and b are the same number: zeros of either sign are one number, and a NaN matches a NaN
abbrev pub Same : Float → Float → Type 0
Same a b = (a ≡ b) ⊎ (Zero a × Zero b)

-- b is −a: a zero's opposite is any zero, +infinity's is −infinity, and a NaN matches a NaN
pub record Opposite (a b : Float) : Type 0 where
  pub negated : Same (neg a) b

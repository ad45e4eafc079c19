-- Constants, and whole numbers as doubles. Definitions only.
use Rattle.std.specs.Prelude.{ℕ, Bool, false, not, ◌&&◌, pos, from_bits, Float}
use Rattle.std.specs.Float.{nan, inf, fin, binary64}
use Rattle.std.specs.Float.Ieee.{of_int, fits}

-- +0
abbrev pub zero_f : Float
zero_f = from_bits binary64 0

abbrev pub half_f : Float
half_f = from_bits binary64 0x3FE0_0000_0000_0000

abbrev pub one_f : Float
one_f = from_bits binary64 0x3FF0_0000_0000_0000

abbrev pub two_f : Float
two_f = from_bits binary64 0x4000_0000_0000_0000

abbrev pub four_f : Float
four_f = from_bits binary64 0x4010_0000_0000_0000

abbrev pub infinity_f : Float
infinity_f = from_bits binary64 0x7FF0_0000_0000_0000

abbrev pub minus_infinity_f : Float
minus_infinity_f = from_bits binary64 0xFFF0_0000_0000_0000

-- 2⁻⁵²
abbrev pub epsilon : Float
epsilon = from_bits binary64 0x3CB0_0000_0000_0000

-- a whole number as a double
abbrev pub num : ℕ → Float
num n = of_int binary64 (pos n)

-- a double that is no NaN and has no sign
abbrev pub plain : Float → Bool
plain nan = false
plain (inf s) = not s
plain (fin s m e) = not s && fits binary64 (fin s m e)

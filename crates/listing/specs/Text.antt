-- Text as bytes: ASCII, numbers in decimal and hexadecimal digits, and lines of fields. Definitions only.
use Rattle.std.specs.Prelude.{List, [], ◌∷◌, ◌++◌, map, cond, ℕ, zero, suc, ◌+◌, ◌/◌, ◌%◌, ltb, Float}
use Prim.Native.Char.{code}
use Prim.Native.String.{String}
use Prim.Native.String as string
use Rattle.std.specs.Float.{binary64}
use Rattle.std.specs.Float.Ieee.{to_bits}
use Rattle.loops.specs.Digits.{digits}

-- the ASCII codes of a text
unfoldable pub ascii : String → List ℕ
ascii string.[] = []
ascii (string.◌∷◌ c s) = code c ∷ ascii s

-- the code of a digit; above 9 in capitals
abbrev pub glyph : ℕ → ℕ
glyph d = cond (ltb d 10) (48 + d) (55 + d)

-- n in at most k decimal digits, with no zero in front
unfoldable pub decimal_in : ℕ → ℕ → List ℕ
decimal_in zero n = []
decimal_in (suc k) n = let front = decimal_in k (n / 10) in cond (ltb n 10) (glyph n ∷ []) (front ++ (glyph (n % 10) ∷ []))

-- a number of 64 bits in decimal digits
unfoldable pub decimal : ℕ → List ℕ
decimal n = decimal_in 20 n

-- a number of 64 bits in 16 hexadecimal digits
unfoldable pub hexadecimal : ℕ → List ℕ
hexadecimal n = map glyph (digits 16 16 n)

-- a double's bits in hexadecimal; a NaN prints as 7FF8000000000000
unfoldable pub bits_of : Float → List ℕ
bits_of v = hexadecimal (to_bits binary64 v)

-- fields, each behind one space, and the line's end
unfoldable pub fields : List (List ℕ) → List ℕ
fields [] = 10 ∷ []
fields (f ∷ fs) = 32 ∷ (f ++ fields fs)

-- a line: a word and fields
unfoldable pub line : List ℕ → List (List ℕ) → List ℕ
line w fs = w ++ fields fs

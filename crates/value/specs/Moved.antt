-- How the code of the logarithm splits a double without a branch. Definitions only.
use Rattle.std.specs.Prelude.{ℕ, ◌+◌, ◌/◌, ◌^◌}

-- the high 32 bits of b, moved so that the exponent's field changes where m does: 3FF00000 − 3FE6A09E is added
abbrev pub moved : ℕ → ℕ
moved b = b / 2 ^ 32 + 0x95F62

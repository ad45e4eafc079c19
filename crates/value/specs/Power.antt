-- Document 01's power: square and multiply. Definitions only.
use Rattle.std.specs.Prelude.{ℕ, zero, suc, ◌/◌, ◌%◌, Bool, true, false, cond, ◌==◌, Float}
use Rattle.std.specs.Float.{binary64}
use Rattle.std.specs.Float.Ieee.{mul}
use Rattle.value.specs.Numbers.{one_f}

-- if e is odd, r × b, else r
abbrev pub times_if_odd : ℕ → Float → Float → Float
times_if_odd e r b = cond (e % 2 == 1) (mul binary64 r b) r

-- At most n turns from e, r and b, unless the Bool says stop: if e is odd, r = r × b; halve e downward; at 0 stop, else b = b × b and repeat.
unfoldable pub power_turns : ℕ → Bool → ℕ → Float → Float → Float
power_turns zero stop e r b = r
power_turns (suc n) true e r b = r
power_turns (suc n) false e r b = power_turns n (e / 2 == 0) (e / 2) (times_if_odd e r b) (mul binary64 b b)

-- e is 0 after at most e + 1 halvings
unfoldable pub power_from : ℕ → Float → Float → Float
power_from e r b = power_turns (suc e) false e r b

-- Power: r = 1, b = x, e = j
unfoldable pub power_f : Float → ℕ → Float
power_f x j = power_from j one_f x

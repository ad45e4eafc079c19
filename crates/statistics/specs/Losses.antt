-- Huber losses: polyfit's `huber_const`, `huber_loss` and the list of losses whose sum `robust_mse_with_n` takes. Definitions only.
use Rattle.std.specs.Prelude.{cond, List, map, Float}
use Rattle.std.specs.Float.{binary64}
use Rattle.std.specs.Float.Ieee.{sub, mul, le}
use Rattle.value.specs.Numbers.{half_f}
use Rattle.value.specs.Absolute.{abs_f}
use Rattle.statistics.specs.Scores.{milli}
use Rattle.statistics.specs.Medians.{median_absolute_deviation}

-- `huber_const`, 1.345
unfoldable pub huber_const : Float
huber_const = milli 1345

-- `huber_loss` of a residual r: half × r², and past delta = constant × MAD a straight line
unfoldable pub huber_loss : Float → Float → Float → Float
huber_loss r constant mad =
    let delta = mul binary64 constant mad in
    let s = abs_f r in
    cond (le s delta) (mul binary64 (mul binary64 half_f s) s) (mul binary64 delta (sub binary64 s (mul binary64 half_f delta)))

-- the loss of each residual
unfoldable pub losses : List Float → List Float
losses rs = let mad = median_absolute_deviation rs in map (λ r. huber_loss r huber_const mad) rs

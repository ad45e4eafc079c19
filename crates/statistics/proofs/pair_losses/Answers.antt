-- `statistics::pair_losses` meets its contract. Each is by the test on delta.
use Rattle.std.proofs.Common.{◌≡◌, cond, [], ◌∷◌, ap₂}
use lib.Ieee.{Float, binary64, mul, sub, le}
use lib.Lanes.{top}
use Rattle.value.specs.Absolute.{abs_f}
use Rattle.value.specs.LaneLaws.{lane_selected}
use Rattle.value.specs.Numbers.{half_f}
use Rattle.statistics.specs.Losses.{huber_loss}
use Rattle.statistics.proofs.pair_losses.Goals as goal

one : (r constant mad : Float) → cond (top 63 (cond (le (abs_f r) (mul binary64 constant mad)) 0xFFFF_FFFF_FFFF_FFFF 0)) (mul binary64 (mul binary64 half_f (abs_f r)) (abs_f r)) (mul binary64 (mul binary64 constant mad) (sub binary64 (abs_f r) (mul binary64 half_f (mul binary64 constant mad)))) ≡ huber_loss r constant mad
unfolding huber_loss
one r constant mad = lane_selected (le (abs_f r) (mul binary64 constant mad)) _ _

pub returns : goal.returns
returns c = rw c.pair_abs-s.ensures (ap₂ (λ (a b : Float). a ∷ b ∷ []) (one c.args.r c.args.constant c.args.mad) (one c.args.later c.args.constant c.args.mad))

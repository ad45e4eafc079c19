-- `statistics::order::midpoint` meets its contract. By the test on the sum.
use Rattle.std.proofs.Common.{sym, ap, ◌∙◌}
use lib.Ieee.{Float, binary64, add, eq}
use Rattle.value.specs.Numbers.{infinity_f}
use Rattle.statistics.specs.MedianLaws.{infinite_is, midpoint_halves, midpoint_sum}
use Rattle.statistics.proofs.order.midpoint.Goals as goal

pub returns-then-abs : goal.returns-then-abs
returns-then-abs c = midpoint_halves c.args.low c.args.high (infinite_is (add binary64 c.args.low c.args.high) ∙ ap (λ (v : Float). eq v infinity_f) (sym c.abs.ensures) ∙ c.if-abs.true)

pub returns : goal.returns
returns c = midpoint_sum c.args.low c.args.high (infinite_is (add binary64 c.args.low c.args.high) ∙ ap (λ (v : Float). eq v infinity_f) (sym c.abs.ensures) ∙ c.if-abs.false)

-- `value::ln` meets its contract.
use Rattle.std.proofs.Common.{◌∙◌}
use lib.Ieee.{of_bits}
use Rattle.value.specs.Logarithm.{ln_f}
use Rattle.value.proofs.Positive.{above, top, none, below, positive_ln}
use Rattle.value.proofs.logarithm.ln.Goals as goal

pub ln_positive-requires : goal.ln_positive-requires
unfolding of_bits
ln_positive-requires c = above _ c.if-x.true c.if-x-2.true

pub returns-then-x-2 : goal.returns-then-x-2
unfolding of_bits
returns-then-x-2 c = c.ln_positive.ensures ∙ positive_ln _ (above _ c.if-x.true c.if-x-2.true)

pub returns-then-x : goal.returns-then-x
unfolding of_bits ln_f
returns-then-x c = rw (top _ c.if-x.true c.if-x-2.false)

pub returns-then-x-3 : goal.returns-then-x-3
unfolding of_bits
returns-then-x-3 c = none _ c.if-x-3.true

pub returns : goal.returns
unfolding of_bits
returns c = below _ c.if-x.false c.if-x-3.false

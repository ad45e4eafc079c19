-- `value::sqrt` meets its contract.
use lib.Ieee.{of_bits}
use Rattle.value.specs.Root.{root_f}
use Rattle.value.proofs.Positive.{above, top, stands, beneath}
use Rattle.value.proofs.square_root.sqrt.Goals as goal

pub positive_root-requires : goal.positive_root-requires
unfolding of_bits
positive_root-requires c = above _ c.if-x.true c.if-x-2.true

pub returns-then-x : goal.returns-then-x
unfolding of_bits root_f
returns-then-x c = rw (top _ c.if-x.true c.if-x-2.false)

pub returns-then-x-is_nan : goal.returns-then-x-is_nan
unfolding of_bits
returns-then-x-is_nan c = stands _ (rw c.is_nan.ensures.value at c.if-x-is_nan.true)

pub returns : goal.returns
unfolding of_bits
returns c = beneath _ c.if-x.false (rw c.is_nan.ensures.value at c.if-x-is_nan.false)

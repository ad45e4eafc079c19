-- `value::maximum` meets its contract.
use Rattle.std.proofs.Common.{rules}
use Rattle.value.specs.Maximum.{maximum_f}
use Rattle.value.proofs.maximum.Goals as goal

pub returns-then-is_nan : goal.returns-then-is_nan
unfolding maximum_f
returns-then-is_nan c = search rules

pub returns-then-is_nan-2 : goal.returns-then-is_nan-2
unfolding maximum_f
returns-then-is_nan-2 c = search rules

pub returns-then-a-b : goal.returns-then-a-b
unfolding maximum_f
returns-then-a-b c = search rules

pub returns : goal.returns
unfolding maximum_f
returns c = search rules

-- `value::ln_sum` meets its contract, step by step.
use Rattle.std.proofs.Common.{refl}
use Rattle.value.specs.Logarithm.{ln_sum}
use Rattle.value.proofs.logarithm.ln_sum.Goals as goal

pub returns : goal.returns
unfolding ln_sum
returns c = refl

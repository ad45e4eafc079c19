-- `covariance::prunes` meets its contract.
use mathlib.Core.Path.{ap₂}
use mathlib.Core.Bool.{◌&&◌}
use lib.Ieee.{binary64, div, lt}
use Rattle.value.specs.Numbers.{epsilon}
use Rattle.covariance.specs.Pruning.{prunes}
use Rattle.covariance.proofs.prunes.Goals as goal

pub tested-requires : goal.tested-requires
tested-requires c = c.abs-size.ensures

pub returns : goal.returns
unfolding prunes
returns c = ap₂ (λ a b. lt epsilon a && lt (div binary64 b c.args.error) c.args.t) c.tested.ensures c.abs-size.ensures

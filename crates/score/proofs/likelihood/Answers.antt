-- `score::likelihood` meets its contract.
use Rattle.std.proofs.Common.{◌∙◌}
use Rattle.score.specs.Score.{likelihood_of}
use Rattle.score.proofs.likelihood.Goals as goal

pub returns : goal.returns
unfolding likelihood_of
returns c = c.maximum.ensures ∙ (rw c.nearest_u64_to_f64.ensures)

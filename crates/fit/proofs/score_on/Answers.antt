-- `fit::score_on` meets its contract.
use Rattle.std.proofs.Common.{length, ap, ◌∙◌}
use lib.Ieee.{Float}
use Rattle.score.specs.Score.{score_of}
use Rattle.fit.proofs.score_on.Goals as goal

pub returns : goal.returns
returns c = c.score.ensures ∙ ap (λ (t : Float). score_of c.args.criterion (length c.args.a.now) c.args.k.0 t) c.total_loss.ensures

-- `scores::refusals::check_scores` meets its contract.
use Rattle.scores.specs.Refusals.{scores_refusal}
use Rattle.scores.proofs.refusals.check_scores.Goals as goal

pub returns : goal.returns
unfolding scores_refusal
returns c = c.check_settings.ensures

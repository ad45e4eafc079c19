-- `settings::numbered` meets its contract.
use Rattle.settings.specs.Numbers.{settings_of}
use Rattle.settings.proofs.numbered.Goals as goal

pub returns : goal.returns
unfolding settings_of
returns c = λ i. record { bound = c.bound-bound.ensures i; criterion = c.criterion-criterion.ensures i; confidence = c.confidence-confidence.ensures i; tolerance = c.tolerance-tolerance.ensures i; pruning = c.pruning-pruning.ensures i }

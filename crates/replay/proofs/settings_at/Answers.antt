-- `replay::settings_at` meets its contract.
use Rattle.replay.specs.Records.{settings_at}
use Rattle.replay.proofs.settings_at.Goals as goal

pub returns : goal.returns
unfolding settings_at
returns c = rw (← c.pruning_by-pruning.ensures) c.numbered.ensures

-- `losses::refusals::check_losses` meets its contract.
use Rattle.losses.specs.Refusals.{loss_refusal}
use Rattle.losses.proofs.refusals.check_losses.Goals as goal

pub returns : goal.returns
unfolding loss_refusal
returns c = c.check_settings.ensures

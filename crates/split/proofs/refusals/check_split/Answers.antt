-- `split::refusals::check_split` meets its contract.
use Rattle.split.specs.Refusals.{split_refusal}
use Rattle.split.proofs.refusals.check_split.Goals as goal

pub returns : goal.returns
unfolding split_refusal
returns c = rw c.split_memories-memories.ensures at c.check_settings.ensures

-- `replay::places_at` meets its contract.
use borrow.Author.Rules.{rules}
use Rattle.replay.specs.Records.{places_at}
use Rattle.replay.proofs.places_at.Goals as goal

pub returns : goal.returns
unfolding places_at
returns c = search rules

-- `replay::fits_in` meets its contract.
use borrow.Author.Rules.{rules}
use Rattle.replay.specs.Records.{fits_in}
use Rattle.replay.proofs.fits_in.Goals as goal

pub returns : goal.returns
unfolding fits_in
returns c = search rules

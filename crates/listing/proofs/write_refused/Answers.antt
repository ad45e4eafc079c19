-- `listing::write_refused` meets its contract.
use Rattle.listing.specs.Text.{ascii}
use Rattle.listing.specs.Listing.{refused_line}
use Rattle.listing.proofs.write_refused.Goals as goal

pub returns : goal.returns
unfolding refused_line ascii
returns c = c.line.ensures

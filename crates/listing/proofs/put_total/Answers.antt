-- `listing::put_total` meets its contract.
use native.Mathlib.Omega.{arith}
use Rattle.listing.specs.Text.{ascii, fields, line}
use Rattle.listing.specs.Listing.{total_line}
use Rattle.listing.specs.WritingLaws.{then}
use Rattle.listing.proofs.put_total.Goals as goal

pub returns : goal.returns
unfolding total_line line fields ascii
returns c = then (omega arith) c.text.ensures (λ h. then h c.double.ensures (λ _. c.byte.ensures))

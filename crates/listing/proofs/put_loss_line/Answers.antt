-- `listing::put_loss_line` meets its contract.
use native.Mathlib.Omega.{arith}
use Rattle.listing.specs.Text.{ascii, fields, line}
use Rattle.listing.specs.Listing.{loss_line}
use Rattle.listing.specs.WritingLaws.{then}
use Rattle.listing.proofs.put_loss_line.Goals as goal

pub returns : goal.returns
unfolding loss_line line fields ascii
returns c = then (omega arith) c.text.ensures (λ h. then h c.number.ensures (λ k. then k c.double.ensures (λ _. c.byte.ensures)))

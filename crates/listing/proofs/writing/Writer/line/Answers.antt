-- `listing::writing::Writer::line` meets its contract.
use native.Mathlib.Omega.{arith}
use Rattle.listing.specs.Text.{fields, line}
use Rattle.listing.specs.WritingLaws.{then}
use Rattle.listing.proofs.writing.Writer.line.Goals as goal

pub returns : goal.returns
unfolding line fields
returns c = then (omega arith) c.text.ensures (λ h. then h c.number.ensures (λ _. c.byte.ensures))

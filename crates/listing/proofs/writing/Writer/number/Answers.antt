-- `listing::writing::Writer::number` meets its contract.
use native.Mathlib.Omega.{arith}
use Rattle.listing.specs.WritingLaws.{then}
use Rattle.listing.proofs.writing.Writer.number.Goals as goal

pub returns : goal.returns
returns c = then (omega arith) c.byte.ensures (λ _. c.decimal.ensures)

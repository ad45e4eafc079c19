-- `listing::writing::Writer::text` meets its contract. The loop's invariant: the bytes so far were written.
use lib.ListN.{take}
use Rattle.listing.specs.Writing.{Wrote}
use Rattle.listing.proofs.writing.Writer.text.Given as goal

abbrev pub invariant-loop-b : goal.invariant-loop-b
invariant-loop-b l = Wrote l.initial.self (take l.b-index l.text) l.self

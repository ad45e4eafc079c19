-- `listing::writing::Writer::hex` meets its contract. The loop's invariant: the first i digits were written.
use lib.ListN.{take}
use Rattle.listing.specs.Text.{hexadecimal}
use Rattle.listing.specs.Writing.{Wrote}
use Rattle.listing.proofs.writing.Writer.hex.Given as goal

abbrev pub invariant-loop-i : goal.invariant-loop-i
invariant-loop-i l = Wrote l.initial.self (take l.i (hexadecimal l.n)) l.self

-- `listing::write_listing` meets its contract. The loop's invariant: a c line was written for each pair so far.
use lib.ListN.{length}
use Rattle.listing.specs.Listing.{c_lines}
use Rattle.listing.specs.Writing.{Wrote}
use Rattle.listing.proofs.write_listing.Given as goal

abbrev pub invariant-loop-i : goal.invariant-loop-i
invariant-loop-i l = Wrote l.initial.w (c_lines (length l.yielded) l.coefficients l.errors) l.w

-- `listing::write_losses` meets its contract. The loop's invariant: the first i lines were written.
use Rattle.listing.specs.Listing.{loss_lines}
use Rattle.listing.specs.Writing.{Wrote}
use Rattle.listing.proofs.write_losses.Given as goal

abbrev pub invariant-loop-i : goal.invariant-loop-i
invariant-loop-i l = Wrote l.initial.w (loss_lines l.i l.losses) l.w

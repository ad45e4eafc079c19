-- `losses::put_losses` meets its contract. The invariant: v is the sum of the losses so far, and they are written.
use Rattle.std.proofs.Common.{◌≡◌, map, get_or, take}
use lib.Ieee.{nan}
use Rattle.loops.specs.Places.{each}
use Rattle.value.specs.Total.{total_f}
use Rattle.statistics.specs.Losses.{huber_loss}
use Rattle.losses.proofs.put_losses.Given as goal

abbrev pub invariant-loop-i : goal.invariant-loop-i
invariant-loop-i l = (l.v ≡ total_f (map (λ r. huber_loss r l.constant l.mad) (take l.i l.a))) × (l.out ≡ each (λ j _. huber_loss (get_or l.a j nan) l.constant l.mad) l.i l.initial.out)

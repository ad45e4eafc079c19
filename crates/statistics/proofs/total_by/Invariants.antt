-- `statistics::total_by` meets its contract. The invariant: v is the sum of the losses so far.
use Rattle.std.proofs.Common.{◌≡◌, ◌*◌, map, take}
use Rattle.value.specs.Total.{total_f}
use Rattle.statistics.specs.Losses.{huber_loss}
use Rattle.statistics.proofs.total_by.Given as goal

abbrev pub invariant-loop-p : goal.invariant-loop-p
invariant-loop-p l = l.v ≡ total_f (map (λ r. huber_loss r l.constant l.mad) (take (2 * l.p) l.a))

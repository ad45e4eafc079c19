-- `capi::packed_losses` meets its contract.
use mathlib.Core.Path.{refl}
use Rattle.capi.specs.Packed.{packed_losses, loss_numbers}
use Rattle.capi.proofs.Promises.{two_written}
use Rattle.capi.proofs.packed_losses.Goals as goal

pub returns-in-Ok : goal.returns-in-Ok
unfolding packed_losses loss_numbers
returns-in-Ok c = rw c.in-Ok.is (refl, two_written _ _ c.args.numbers.now c.requires)

pub returns-in-Err : goal.returns-in-Err
unfolding packed_losses loss_numbers
returns-in-Err c = rw c.in-Err.is (c.refused.ensures, refl)

-- `capi::packed_band` meets its contract.
use mathlib.Core.Path.{refl}
use native.Mathlib.Omega.{arith}
use lib.ListN.{length-set}
use Rattle.capi.specs.Packed.{packed_band, band_numbers}
use Rattle.capi.proofs.Promises.{three_written}
use Rattle.capi.proofs.packed_band.Goals as goal

pub bounds-numbers-1 : goal.bounds-numbers-1
bounds-numbers-1 c = simp length-set (omega (arith, c.requires))

pub returns-in-Ok : goal.returns-in-Ok
unfolding packed_band band_numbers
returns-in-Ok c = rw c.in-Ok.is (refl, three_written _ _ _ c.args.numbers.now c.requires)

pub returns-in-Err : goal.returns-in-Err
unfolding packed_band band_numbers
returns-in-Err c = rw c.in-Err.is (c.refused.ensures, refl)

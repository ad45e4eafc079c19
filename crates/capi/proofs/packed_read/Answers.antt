-- `capi::packed_read` meets its contract.
use mathlib.Core.Path.{refl}
use native.Mathlib.Omega.{arith}
use lib.ListN.{length-set}
use Rattle.capi.specs.Packed.{packed_read, read_numbers}
use Rattle.capi.proofs.Promises.{three_written}
use Rattle.capi.proofs.packed_read.Goals as goal

pub bounds-numbers-1 : goal.bounds-numbers-1
bounds-numbers-1 c = simp length-set (omega (arith, c.requires))

pub returns-in-Some : goal.returns-in-Some
unfolding packed_read read_numbers
returns-in-Some c = rw c.in-Some.is (refl, three_written _ _ _ c.args.numbers.now c.requires)

pub returns-in-None : goal.returns-in-None
unfolding packed_read read_numbers
returns-in-None c = rw c.in-None.is (refl, refl)

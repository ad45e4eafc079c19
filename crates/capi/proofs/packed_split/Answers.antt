-- `capi::packed_split` meets its contract.
use mathlib.Core.Path.{refl}
use native.Mathlib.Omega.{arith}
use Rattle.capi.specs.Packed.{packed_split, split_total, SplitFits}
use Rattle.capi.proofs.Promises.{one_written}
use Rattle.capi.proofs.packed_split.Goals as goal

pub fields-requires : goal.fields-requires
unfolding SplitFits
fields-requires c =
    let given = c.requires.split_fits in
    let fits = rw c.in-Ok.is at given in
    (omega (arith, fits.0), omega (arith, fits.1), omega (arith, fits.2), omega (arith, fits.3))

pub returns-in-Ok : goal.returns-in-Ok
unfolding packed_split split_total
returns-in-Ok c = rw c.in-Ok.is (c.fields.ensures, one_written _ c.args.total.now c.requires.in_bounds)

pub returns-in-Err : goal.returns-in-Err
unfolding packed_split split_total
returns-in-Err c = rw c.in-Err.is (c.refused.ensures, refl)

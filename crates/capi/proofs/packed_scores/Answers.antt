-- `capi::packed_scores` meets its contract.
use mathlib.Core.Path.{refl}
use native.Mathlib.Omega.{arith}
use Rattle.capi.specs.Packed.{packed_scores, least_number, ScoresFits}
use Rattle.capi.proofs.Promises.{one_written}
use Rattle.capi.proofs.packed_scores.Goals as goal

pub fields-requires : goal.fields-requires
unfolding ScoresFits
fields-requires c =
    let given = c.requires.scores_fits in
    let fits = rw c.in-Ok.is at given in
    (omega (arith, fits.0), omega (arith, fits.1), omega (arith, fits.2), omega (arith, fits.3))

pub returns-in-Ok : goal.returns-in-Ok
unfolding packed_scores least_number
returns-in-Ok c = rw c.in-Ok.is (c.fields.ensures, one_written _ c.args.least.now c.requires.in_bounds)

pub returns-in-Err : goal.returns-in-Err
unfolding packed_scores least_number
returns-in-Err c = rw c.in-Err.is (c.refused.ensures, refl)

-- `capi::packed_report` meets its contract.
use native.Mathlib.Omega.{arith}
use Rattle.capi.specs.Packed.{packed_report, ReportFits}
use Rattle.capi.proofs.packed_report.Goals as goal

pub fields-requires : goal.fields-requires
unfolding ReportFits
fields-requires c =
    let fits = rw c.in-Ok.is at c.requires in
    (omega (arith, fits.0), omega (arith, fits.1), omega (arith, fits.3), omega (arith, fits.2))

pub returns-in-Ok : goal.returns-in-Ok
unfolding packed_report
returns-in-Ok c = rw c.in-Ok.is c.fields.ensures

pub returns-in-Err : goal.returns-in-Err
unfolding packed_report
returns-in-Err c = rw c.in-Err.is c.refused.ensures

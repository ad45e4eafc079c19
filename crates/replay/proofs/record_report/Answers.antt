-- `replay::record_report` meets its contract.
use mathlib.Core.Path.{refl, sym, ap}
use Rattle.replay.specs.Steps.{report_record}
use Rattle.replay.proofs.record_report.Goals as goal

pub returns-in-Ok : goal.returns-in-Ok
unfolding report_record
returns-in-Ok c = sym (ap (report_record c.args.old.count) c.in-Ok.is)

pub returns-in-Err : goal.returns-in-Err
unfolding report_record
returns-in-Err c = rw (c.in-Err.is, c.from.ensures) refl

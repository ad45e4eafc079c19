-- `replay::record_change` meets its contract.
use mathlib.Core.Path.{refl, sym, ap}
use Rattle.replay.specs.Steps.{change_record}
use Rattle.replay.proofs.record_change.Goals as goal

pub returns-in-Ok : goal.returns-in-Ok
unfolding change_record
returns-in-Ok c = sym (ap (change_record c.args.old.count) c.in-Ok.is)

pub returns-in-Err : goal.returns-in-Err
unfolding change_record
returns-in-Err c = rw (c.in-Err.is, c.from.ensures) refl

-- `report::refusals::check_report` meets its contract.
use Rattle.report.specs.Refusals.{report_refusal}
use Rattle.report.proofs.refusals.check_report.Goals as goal

pub returns : goal.returns
unfolding report_refusal
returns c = rw c.report_memories-memories.ensures at c.check_settings.ensures

-- `allowance::group_report` meets its contract.
use Rattle.report.specs.Refusals.{report_refusal}
use Rattle.report.specs.Limited.{within_on}
use Rattle.allowance.specs.Refusals.{group_report_refusal}
use Rattle.allowance.specs.Charges.{group_report_on}
use Rattle.allowance.proofs.Charging.{report_refused, report_charged}
use Rattle.allowance.proofs.group_report.Goals as goal

pub returns-in_err-check_group : goal.returns-in_err-check_group
unfolding group_report_on group_report_refusal
returns-in_err-check_group c =
    report_refused c.args.group c.args.table.now _ _ (rw (c.report_short-short.ensures, c.lengths-lengths.ensures, c.places.ensures) at c.check_group.ensures) c.in_err-check_group.was c.from_residual.ensures.1 _ _

pub returns : goal.returns
unfolding group_report_on group_report_refusal within_on report_refusal
returns c =
    report_charged c.args.group c.args.table.now _ _ (rw (c.report_short-short.ensures, c.lengths-lengths.ensures, c.places.ensures) at c.check_group.ensures) c.in_ok-check_group.was _ c.report_within-done.result _ c.report_within-done.ensures

-- `allowance::group_surface_report` meets its contract.
use Rattle.surface.specs.Refusals.{surface_report_refusal}
use Rattle.surface.specs.Limited.{surface_within_on}
use Rattle.allowance.specs.Refusals.{group_surface_refusal}
use Rattle.allowance.specs.Charges.{group_surface_on}
use Rattle.allowance.proofs.Charging.{report_refused, report_charged}
use Rattle.allowance.proofs.group_surface_report.Goals as goal

pub returns-in_err-check_group : goal.returns-in_err-check_group
unfolding group_surface_on group_surface_refusal
returns-in_err-check_group c =
    report_refused c.args.group c.args.table.now _ _ (rw (c.report_short-short.ensures, c.lengths.ensures, c.places.ensures) at c.check_group.ensures) c.in_err-check_group.was c.from_residual.ensures.1 _ _

pub returns : goal.returns
unfolding group_surface_on group_surface_refusal surface_within_on surface_report_refusal
returns c =
    report_charged c.args.group c.args.table.now _ _ (rw (c.report_short-short.ensures, c.lengths.ensures, c.places.ensures) at c.check_group.ensures) c.in_ok-check_group.was _ c.surface_report_within-done.result _ c.surface_report_within-done.ensures

-- `surface::refusals::check_report` meets its contract.
use Rattle.std.proofs.Common.{refl, rules}
use Rattle.refusal.specs.NamedLaws.{first_asked, then_asked}
use Rattle.surface.specs.Refusals.{surface_report_refusal}
use Rattle.surface.proofs.refusals.check_report.Goals as goal

pub returns-in_err-check_points : goal.returns-in_err-check_points
unfolding surface_report_refusal
returns-in_err-check_points c =
    let asked = rw (c.score_finite.ensures, c.tolerance_finite.ensures, c.report_memories.ensures) at c.check_points.ensures in
    first_asked _ _ refl asked c.in_err-check_points.was c.from_residual.ensures.1

pub returns : goal.returns
unfolding surface_report_refusal
returns c =
    let asked = rw (c.score_finite.ensures, c.tolerance_finite.ensures, c.report_memories.ensures) at c.check_points.ensures in
    then_asked _ _ refl asked c.in_ok-check_points.was (search rules)

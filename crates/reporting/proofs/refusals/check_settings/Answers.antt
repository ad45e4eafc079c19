-- `reporting::refusals::check_settings` meets its contract.
use Rattle.std.proofs.Common.{refl, rules}
use Rattle.refusal.specs.NamedLaws.{first_asked, then_asked}
use Rattle.reporting.proofs.refusals.check_settings.Goals as goal

pub returns-in_err-check_samples : goal.returns-in_err-check_samples
returns-in_err-check_samples c =
    let asked = rw (c.score_finite.ensures, c.tolerance_finite.ensures) at c.check_samples.ensures in
    first_asked _ _ refl asked c.in_err-check_samples.was c.from_residual.ensures.1

pub returns : goal.returns
returns c =
    let asked = rw (c.score_finite.ensures, c.tolerance_finite.ensures) at c.check_samples.ensures in
    then_asked _ _ refl asked c.in_ok-check_samples.was (search rules)

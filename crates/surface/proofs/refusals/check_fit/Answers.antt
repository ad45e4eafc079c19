-- `surface::refusals::check_fit` meets its contract.
use Rattle.std.proofs.Common.{refl, rules}
use Rattle.refusal.specs.NamedLaws.{first_asked, then_asked}
use Rattle.surface.specs.Refusals.{surface_fit_refusal}
use Rattle.surface.proofs.refusals.check_fit.Goals as goal

pub returns-in_err-check_points : goal.returns-in_err-check_points
unfolding surface_fit_refusal
returns-in_err-check_points c = first_asked _ _ refl c.check_points.ensures c.in_err-check_points.was c.from_residual.ensures.1

pub returns : goal.returns
unfolding surface_fit_refusal
returns c = then_asked _ _ refl c.check_points.ensures c.in_ok-check_points.was (search rules)

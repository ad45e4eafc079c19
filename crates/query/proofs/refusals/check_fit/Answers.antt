-- `query::refusals::check_fit` meets its contract.
use Rattle.std.proofs.Common.{refl, rules}
use Rattle.refusal.specs.NamedLaws.{first_asked, then_asked}
use Rattle.query.specs.Refusals.{fit_refusal}
use Rattle.query.proofs.refusals.check_fit.Goals as goal

pub returns-in_err-check_samples : goal.returns-in_err-check_samples
unfolding fit_refusal
returns-in_err-check_samples c = first_asked _ _ refl c.check_samples.ensures c.in_err-check_samples.was c.from_residual.ensures.1

pub returns : goal.returns
unfolding fit_refusal
returns c = then_asked _ _ refl c.check_samples.ensures c.in_ok-check_samples.was (search rules)

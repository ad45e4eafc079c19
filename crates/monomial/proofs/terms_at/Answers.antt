-- `monomial::terms_at` meets its contract.
use Rattle.monomial.specs.Terms.{terms_at}
use Rattle.monomial.proofs.terms_at.Goals as goal

pub returns-in-Curve : goal.returns-in-Curve
unfolding terms_at
returns-in-Curve c = rw (c.powers.ensures, c.in-Curve.is)

pub returns-in-Surface : goal.returns-in-Surface
unfolding terms_at
returns-in-Surface c = rw (c.surface_terms.ensures, c.in-Surface.is)

-- `monomial::surface_at` meets its contract.
use Rattle.monomial.proofs.surface_at.Goals as goal

pub returns : goal.returns
returns c = rw (c.fitted.ensures, c.surface_terms-terms.ensures)

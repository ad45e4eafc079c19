-- `monomial::curve_at` meets its contract.
use Rattle.monomial.proofs.curve_at.Goals as goal

pub returns : goal.returns
returns c = rw (c.fitted.ensures, c.powers-terms.ensures)

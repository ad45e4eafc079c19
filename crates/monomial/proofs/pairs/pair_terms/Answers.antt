-- `monomial::pairs::pair_terms` meets its contract.
use Rattle.monomial.specs.Terms.{terms_at}
use Rattle.monomial.proofs.pairs.pair_terms.Goals as goal

pub returns-in-Curve : goal.returns-in-Curve
unfolding terms_at
returns-in-Curve c = record { first = rw (c.pair_powers.ensures.first, c.in-Curve.is); second = rw (c.pair_powers.ensures.second, c.in-Curve.is); paired = c.pair_powers.ensures.paired }

pub returns-in-Surface : goal.returns-in-Surface
unfolding terms_at
returns-in-Surface c = record { first = rw (c.pair_surface_terms.ensures.first, c.in-Surface.is); second = rw (c.pair_surface_terms.ensures.second, c.in-Surface.is); paired = c.pair_surface_terms.ensures.paired }

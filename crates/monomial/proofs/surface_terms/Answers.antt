-- `monomial::surface_terms` meets its contract.
use mathlib.Core.Path.{sym, subst}
use lib.Dec.{T}
use Rattle.monomial.proofs.Surface.{surface_is}
use Rattle.monomial.proofs.surface_terms.Goals as goal

pub returns : goal.returns
returns c = sym (surface_is c.args.x c.args.z (subst T (sym c.well_formed.0.1) tt) (subst T (sym c.well_formed.1.0.1) tt))

-- `monomial::pairs::pair_surface_terms` meets its contract.
use Rattle.std.proofs.Common.{T, sym, subst, rules}
use Rattle.value.specs.Lanes.{lane}
use Rattle.monomial.proofs.Surface.{surface_is}
use Rattle.monomial.proofs.pairs.pair_surface_terms.Goals as goal

pub returns : goal.returns
unfolding lane
returns c = record {
  first = sym (surface_is c.args.x c.args.z (subst T (sym c.well_formed.0.1) tt) (subst T (sym c.well_formed.1.0.1) tt));
  second = sym (surface_is c.args.later_x c.args.later_z (subst T (sym c.well_formed.1.1.0.1) tt) (subst T (sym c.well_formed.1.1.1.0.1) tt));
  paired = search rules;
}

-- `value::pairs::pair_powers` meets its contract.
use Rattle.std.proofs.Common.{T, sym, subst, rules}
use Rattle.value.specs.Lanes.{lane}
use Rattle.value.proofs.Products.{products_are}
use Rattle.value.proofs.pairs.pair_powers.Goals as goal

pub returns : goal.returns
unfolding lane
returns c = record { first = products_are c.args.x (subst T (sym c.well_formed.0.1) tt); second = products_are c.args.y (subst T (sym c.well_formed.1.0.1) tt); paired = search rules }

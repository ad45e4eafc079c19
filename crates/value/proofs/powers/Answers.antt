-- `value::powers` meets its contract.
use Rattle.std.proofs.Common.{T, sym, subst}
use Rattle.value.proofs.Products.{products_are}
use Rattle.value.proofs.powers.Goals as goal

pub returns : goal.returns
returns c = products_are c.args.x (subst T (sym c.well_formed.0.1) tt)

-- `statistics::order::both` meets its contract. The bits of a size are those of the number without the sign.
use Rattle.std.proofs.Common.{T, [], ◌∷◌, sym, subst, ap₂}
use lib.Ieee.{Float}
use Rattle.statistics.proofs.Deviations.{abs_some, sub_some, size_pattern}
use Rattle.statistics.proofs.Pairs.{deviation_bits, deviation_some, deviation_pattern}
use Rattle.statistics.proofs.order.both.Goals as goal

pub float_to_bits-sizes : goal.float_to_bits-sizes
float_to_bits-sizes c = (sub_some c.args.x c.args.d (abs_some _ c.requires.0), (sub_some c.args.y c.args.d (abs_some _ c.requires.1), tt))

pub float_from_bits-sizes : goal.float_from_bits-sizes
float_from_bits-sizes c = (
  size_pattern c.args.x (subst T (sym c.well_formed.0.1) tt) (sub_some c.args.x c.args.d (abs_some _ c.requires.0)),
  (size_pattern c.args.y (subst T (sym c.well_formed.1.0.1) tt) (sub_some c.args.y c.args.d (abs_some _ c.requires.1)), tt),
)

pub float_to_bits-result : goal.float_to_bits-result
float_to_bits-result c = (
  deviation_some c.args.x c.args.d (subst T (sym c.well_formed.0.1) tt) c.requires.0,
  (deviation_some c.args.y c.args.d (subst T (sym c.well_formed.1.0.1) tt) c.requires.1, tt),
)

pub float_from_bits-result : goal.float_from_bits-result
float_from_bits-result c = (
  deviation_pattern c.args.x c.args.d (subst T (sym c.well_formed.0.1) tt) c.requires.0,
  (deviation_pattern c.args.y c.args.d (subst T (sym c.well_formed.1.0.1) tt) c.requires.1, tt),
)

pub returns : goal.returns
returns c =
    ap₂ (λ (a b : Float). a ∷ b ∷ []) (deviation_bits c.args.x c.args.d (subst T (sym c.well_formed.0.1) tt) c.requires.0)
    (deviation_bits c.args.y c.args.d (subst T (sym c.well_formed.1.0.1) tt) c.requires.1)

-- `statistics::order::key` meets its contract. The bits of a size are those of the number without the sign.
use Rattle.std.proofs.Common.{T, sym, subst}
use Rattle.value.specs.Keys.{bits_le}
use Rattle.statistics.proofs.Deviations.{abs_bits, abs_some, sub_some, size_pattern, size_bits}
use Rattle.statistics.proofs.order.key.Goals as goal

pub float_to_bits-size : goal.float_to_bits-size
float_to_bits-size c = sub_some c.args.x c.args.d (abs_some _ c.requires)

pub float_from_bits-size : goal.float_from_bits-size
float_from_bits-size c = size_pattern c.args.x (subst T (sym c.well_formed.0.1) tt) (sub_some c.args.x c.args.d (abs_some _ c.requires))

pub float_to_bits-result : goal.float_to_bits-result
float_to_bits-result c = rw (size_bits c.args.x (subst T (sym c.well_formed.0.1) tt) (sub_some c.args.x c.args.d (abs_some _ c.requires))) (abs_some _ c.requires)

pub returns : goal.returns
returns c = record { is = rw (size_bits c.args.x (subst T (sym c.well_formed.0.1) tt) (sub_some c.args.x c.args.d (abs_some _ c.requires))) (abs_bits _ c.requires); small = rw (size_bits c.args.x (subst T (sym c.well_formed.0.1) tt) (sub_some c.args.x c.args.d (abs_some _ c.requires))) (rw (abs_bits _ c.requires) (bits_le _ c.requires)) }

-- `statistics::order::Deviations::key_at` meets its contract.
use Rattle.std.proofs.Common.{length, ap, arith}
use Rattle.statistics.proofs.Deviations.{length_distances, plain_at}
use Rattle.statistics.proofs.order.Deviations.key_at.Goals as goal

pub offset_bounds-sizes-i : goal.offset_bounds-sizes-i
offset_bounds-sizes-i c = record { fits = omega (arith, length_distances c.self.inside.from c.self.inside.sizes.now, ap length c.self.view_is) }

pub bounds-sizes-i : goal.bounds-sizes-i
bounds-sizes-i c = omega (arith, length_distances c.self.inside.from c.self.inside.sizes.now, ap length c.self.view_is)

pub key-requires : goal.key-requires
key-requires c = plain_at _ _ _ (omega (arith, length_distances c.self.inside.from c.self.inside.sizes.now, ap length c.self.view_is)) c.self.invariant

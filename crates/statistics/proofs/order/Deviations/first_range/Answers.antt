-- `statistics::order::Deviations::first_range` meets its contract.
use Rattle.std.proofs.Common.{sym, ◌∙◌, arith}
use Rattle.statistics.proofs.Counts.{under_zero, upto_all}
use Rattle.statistics.proofs.order.Deviations.first_range.Goals as goal

pub parted_twice-requires : goal.parted_twice-requires
parted_twice-requires c = (
  record {
    ordered = omega arith;
    small = omega arith;
    under_it = sym (under_zero c.args.self.now);
    least = omega arith;
    reached = omega arith;
    upto_it = c.len.ensures.is ∙ sym (upto_all c.args.self.now c.len.ensures.plain);
  },
  c.counts_upto-found.ensures.low,
  c.counts_upto-found.ensures.high,
)

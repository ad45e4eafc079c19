-- `statistics::order::Deviations::narrow` meets its contract. The invariant: place m lies in the range, whose counts are right.
use Rattle.std.proofs.Common.{arith}
use Rattle.statistics.proofs.Counts.{ends_moved}
use Rattle.statistics.proofs.order.Deviations.narrow.Goals as goal

pub loop-r-smaller-then-gap : goal.loop-r-smaller-then-gap
loop-r-smaller-then-gap c =
    let v = ends_moved c.args.self.now c.args.m c.loop-r.r.lo c.loop-r.r.hi c.loop-r.invariant.ordered c.loop-r.invariant.small (omega arith) (omega arith) in
    rw c.if-gap.true (omega arith)

pub loop-r-preserved-then-gap : goal.loop-r-preserved-then-gap
loop-r-preserved-then-gap c =
    let v = ends_moved c.args.self.now c.args.m c.loop-r.r.lo c.loop-r.r.hi c.loop-r.invariant.ordered c.loop-r.invariant.small (omega arith) (omega arith) in
    record {
      ordered = omega arith;
      small = omega arith;
      under_it = rw c.edges-e.ensures.high (omega arith);
      least = omega arith;
      reached = omega arith;
      upto_it = rw c.edges-e.ensures.low (omega arith);
    }

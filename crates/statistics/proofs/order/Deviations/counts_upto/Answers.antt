-- `statistics::order::Deviations::counts_upto` meets its contract. The invariant: both counts of each together are the count so far.
use Rattle.std.proofs.Common.{refl, zero-le, arith}
use Rattle.statistics.specs.Counting.{distances, count, upto}
use Rattle.statistics.proofs.Counts.{from_bool_most}
use Rattle.statistics.proofs.Deviations.{plain_at}
use Rattle.statistics.proofs.Pairs.{lanes_more, lanes_sum, count_two, count_even, count_odd}
use Rattle.statistics.proofs.order.Deviations.counts_upto.Goals as goal

pub loop-p-init : goal.loop-p-init
unfolding count distances
loop-p-init c = (record { two = refl; small = (zero-le, (zero-le, tt)); sum = refl }, record { two = refl; small = (zero-le, (zero-le, tt)); sum = refl })

pub both-v-requires : goal.both-v-requires
both-v-requires c = (plain_at _ _ _ (omega arith) c.self.invariant, plain_at _ _ _ (omega arith) c.self.invariant)

pub ones_upto-lows-requires : goal.ones_upto-lows-requires
ones_upto-lows-requires c = rw c.both-v.ensures (refl, (plain_at _ _ _ (omega arith) c.self.invariant, (plain_at _ _ _ (omega arith) c.self.invariant, tt)), c.requires.0)

pub ones_upto-highs-requires : goal.ones_upto-highs-requires
ones_upto-highs-requires c = rw c.both-v.ensures (refl, (plain_at _ _ _ (omega arith) c.self.invariant, (plain_at _ _ _ (omega arith) c.self.invariant, tt)), c.requires.1)

pub loop-p-preserved : goal.loop-p-preserved
loop-p-preserved c =
    let a = c.self.inside.sizes.now in
    let d = c.self.inside.from in
    let i = c.loop-p.p in (
      rw (c.ones_upto-lows.ensures, c.both-v.ensures, ← count_two (upto c.args.cuts.low) d a i (omega arith))
          (lanes_more _ _ _ _ _ c.loop-p.invariant.0 (omega (arith, c.self.told)) (from_bool_most _) (from_bool_most _)),
      rw (c.ones_upto-highs.ensures, c.both-v.ensures, ← count_two (upto c.args.cuts.high) d a i (omega arith))
          (lanes_more _ _ _ _ _ c.loop-p.invariant.1 (omega (arith, c.self.told)) (from_bool_most _) (from_bool_most _)),
    )

pub key-k-requires : goal.key-k-requires
key-k-requires c = plain_at _ _ _ (omega arith) c.self.invariant

pub returns-then-n-eq1 : goal.returns-then-n-eq1
returns-then-n-eq1 c =
    let a = c.self.inside.sizes.now in
    let d = c.self.inside.from in
    let i = c.loop-p.p in record {
      low = rw (lanes_sum _ _ _ c.loop-p.invariant.0, c.from.ensures, c.at_most.ensures, c.key-k.ensures.is, ← c.self.view_is) (count_odd (upto c.args.cuts.low) d a i (omega arith) c.if-n-eq1.true);
      high = rw (lanes_sum _ _ _ c.loop-p.invariant.1, c.from-then-n-eq1.ensures, c.at_most-then-n-eq1.ensures, c.key-k.ensures.is, ← c.self.view_is) (count_odd (upto c.args.cuts.high) d a i (omega arith) c.if-n-eq1.true);
    }

pub returns-else-n-eq1 : goal.returns-else-n-eq1
returns-else-n-eq1 c =
    let a = c.self.inside.sizes.now in
    let d = c.self.inside.from in
    let i = c.loop-p.p in record {
      low = rw (lanes_sum _ _ _ c.loop-p.invariant.0, ← c.self.view_is) (count_even (upto c.args.cuts.low) d a i (omega arith) c.if-n-eq1.false);
      high = rw (lanes_sum _ _ _ c.loop-p.invariant.1, ← c.self.view_is) (count_even (upto c.args.cuts.high) d a i (omega arith) c.if-n-eq1.false);
    }

-- `statistics::order::Deviations::count_upto` meets its contract. The invariant: both counts together are the count so far.
use Rattle.std.proofs.Common.{refl, zero-le, arith}
use Rattle.statistics.specs.Counting.{distances, count, upto}
use Rattle.statistics.proofs.Counts.{from_bool_most}
use Rattle.statistics.proofs.Deviations.{plain_at}
use Rattle.statistics.proofs.Pairs.{lanes_more, lanes_sum, count_two, count_even, count_odd}
use Rattle.statistics.proofs.order.Deviations.count_upto.Goals as goal

pub loop-p-init : goal.loop-p-init
unfolding count distances
loop-p-init c = record { two = refl; small = (zero-le, (zero-le, tt)); sum = refl }

pub both-requires : goal.both-requires
both-requires c = (plain_at _ _ _ (omega arith) c.self.invariant, plain_at _ _ _ (omega arith) c.self.invariant)

pub ones_upto-lanes-requires : goal.ones_upto-lanes-requires
ones_upto-lanes-requires c =
    rw c.both.ensures
    (refl, (plain_at _ _ _ (omega arith) c.self.invariant, (plain_at _ _ _ (omega arith) c.self.invariant, tt)), c.requires)

pub loop-p-preserved : goal.loop-p-preserved
loop-p-preserved c =
    let a = c.self.inside.sizes.now in
    rw (c.ones_upto-lanes.ensures, c.both.ensures, ← count_two (upto c.args.b) c.self.inside.from a c.loop-p.p (omega arith))
    (lanes_more _ _ _ _ _ c.loop-p.invariant (omega (arith, c.self.told)) (from_bool_most _) (from_bool_most _))

pub key-requires : goal.key-requires
key-requires c = plain_at _ _ _ (omega arith) c.self.invariant

pub returns-then-n-eq1 : goal.returns-then-n-eq1
returns-then-n-eq1 c =
    rw (lanes_sum _ _ _ c.loop-p.invariant, c.from-found.ensures, c.at_most.ensures, c.key.ensures.is, ← c.self.view_is)
    (count_odd (upto c.args.b) c.self.inside.from c.self.inside.sizes.now c.loop-p.p (omega arith) c.if-n-eq1.true)

pub returns-else-n-eq1 : goal.returns-else-n-eq1
returns-else-n-eq1 c =
    rw (lanes_sum _ _ _ c.loop-p.invariant, ← c.self.view_is) (count_even (upto c.args.b) c.self.inside.from c.self.inside.sizes.now c.loop-p.p (omega arith) c.if-n-eq1.false)

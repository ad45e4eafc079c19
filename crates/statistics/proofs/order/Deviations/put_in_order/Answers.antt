-- `statistics::order::Deviations::put_in_order` meets its contract. The invariant: the first places hold the bits of so many numbers.
use Rattle.std.proofs.Common.{sym, ap, ◌∙◌, refl, length}
use Rattle.std.proofs.lemmas.List.{length-set}
use Rattle.std.proofs.lemmas.List.Sorted.{IsNonDecreasingBy-from_sort}
use Rattle.statistics.specs.Counting.{distances}
use Rattle.statistics.proofs.Deviations.{length_distances, plain_at}
use Rattle.statistics.proofs.Ordered.{bits_turn}
use Rattle.statistics.proofs.order.Deviations.put_in_order.Goals as goal

pub loop-i-init : goal.loop-i-init
unfolding distances
loop-i-init c = (c.requires ∙ sym (ap length c.self.view_is) ∙ length_distances c.self.inside.from c.self.inside.sizes.now, refl)

pub key-requires : goal.key-requires
key-requires c = plain_at _ _ _ c.loop-i-test.true c.self.invariant

pub loop-i-preserved : goal.loop-i-preserved
loop-i-preserved c = (length-set _ _ _ ∙ c.loop-i.invariant.0, rw c.key.ensures.is (bits_turn _ _ _ c.loop-i-test.true _ c.loop-i.invariant.0 c.loop-i.invariant.1))

pub returns-clause-rising : goal.returns-clause-rising
returns-clause-rising c = IsNonDecreasingBy-from_sort (λ k. k) _ c.sort_unstable.ensures.sorted

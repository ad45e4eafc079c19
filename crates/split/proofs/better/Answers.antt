-- `split::better` meets its contract.
use Rattle.std.proofs.Common.{ap, not}
use Rattle.split.proofs.Breaks.{better_none_left, better_none_right, better_stays, better_new}
use Rattle.split.proofs.better.Goals as goal

pub returns-in_default : goal.returns-in_default
returns-in_default c = better_none_right _ _ _ _ c.in_default.is-1

pub returns-in_default-2 : goal.returns-in_default-2
returns-in_default-2 c = better_none_left _ _ _ _ c.in_default.is-0

pub returns-then-not-total-held : goal.returns-then-not-total-held
returns-then-not-total-held c = rw (← c.in-Some.is) (better_stays _ _ _ _ _ _ c.in-Some-Some.is-0 c.in-Some-Some.is-1 (rw c.in-Some.is (ap not c.if-not-total-held.true)))

pub returns-else-not-total-held : goal.returns-else-not-total-held
returns-else-not-total-held c = better_new _ _ _ _ _ _ c.in-Some-Some.is-0 c.in-Some-Some.is-1 (rw c.in-Some.is (ap not c.if-not-total-held.false))

pub returns-in_default-best : goal.returns-in_default-best
returns-in_default-best c = better_new _ _ _ _ _ _ c.in-Some-Some.is-0 c.in-Some-Some.is-1 (rw c.in_default-best.is)

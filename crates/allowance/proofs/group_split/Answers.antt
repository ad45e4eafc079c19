-- `allowance::group_split` meets its contract.
use Rattle.split.specs.Refusals.{split_refusal}
use Rattle.split.specs.Splits.{split_on, split_taken}
use Rattle.allowance.specs.Refusals.{group_split_refusal}
use Rattle.allowance.specs.Charges.{group_split_on}
use Rattle.allowance.proofs.Charging.{split_refused_early, split_charged}
use Rattle.allowance.proofs.group_split.Goals as goal

pub returns-in_err-check_group : goal.returns-in_err-check_group
unfolding group_split_on group_split_refusal
returns-in_err-check_group c =
    split_refused_early c.args.group c.args.table.now _ _ (rw (c.split_short-short.ensures, c.lengths-lengths.ensures, c.places.ensures) at c.check_group.ensures) c.in_err-check_group.was c.from_residual.ensures.1 _ _ _ _ _

pub returns : goal.returns
unfolding group_split_on group_split_refusal split_on split_taken split_refusal
returns c =
    split_charged c.args.group c.args.table.now _ _ (rw (c.split_short-short.ensures, c.lengths-lengths.ensures, c.places.ensures) at c.check_group.ensures) c.in_ok-check_group.was _ _ c.split_within-done.result _ c.split_within-done.ensures.does c.split_within-done.ensures.taken

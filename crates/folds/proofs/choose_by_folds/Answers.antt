-- `folds::choose_by_folds` meets its contract.
use Rattle.std.proofs.Common.{◌≡◌, arith, rules, length}
use Rattle.loops.specs.WithinLaws.{within_itself, within_then}
use Rattle.monomial.specs.Reading.{weighted_read}
use Rattle.folds.specs.TallyLaws.{tallied_none}
use Rattle.folds.proofs.Others.{begun, next_begun}
use Rattle.folds.proofs.Means.{validated_is}
use Rattle.folds.proofs.choose_by_folds.Goals as goal

pub loop-f-init : goal.loop-f-init
loop-f-init c = (search rules, within_itself _ _, tallied_none _ _ (search rules), λ h. begun _ _ _ _)

pub add_fold-requires : goal.add_fold-requires
add_fold-requires c = record { f_in_bounds = (omega (arith, c.loop-f.invariant.1.long, c.requires), search rules, search rules); in_reach = c.of-reach.ensures; same_corner = c.loop-f.invariant.3 c.loop-f-test.true; tallied_before = c.loop-f.invariant.2 }

pub pass_fold-requires : goal.pass_fold-requires
pass_fold-requires c = record { f_in_bounds = (search rules, search rules); same_corner = c.loop-f.invariant.3 c.loop-f-test.true }

pub loop-f-preserved : goal.loop-f-preserved
loop-f-preserved c = (search rules, within_then c.loop-f.invariant.1 c.add_fold.ensures.within, c.add_fold.ensures.tallied, λ h. next_begun _ (length c.args.rows.ys.now) c.args.folds c.loop-f.f (weighted_read c.args.rows) _ c.pass_fold.ensures h)

pub returns : goal.returns
returns c =
    let z : c.loop-f.f ≡ c.args.folds = omega arith in record { is = validated_is c.args.criterion (weighted_read c.args.rows) c.args.folds c.args.bound.0 _ _ (rw z at c.loop-f.invariant.2) c.choose_by_means.ensures; within = c.loop-f.invariant.1 }

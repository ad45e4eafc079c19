-- `capi::stake_reads::stakebook_season_scores` meets its contract: a stake above 31, too few places, and the season's own call.
use mathlib.Core.Path.{refl}
use Rattle.samples.specs.Columns.{columns_of}
use Rattle.stakes.specs.Season.{season_of}
use Rattle.capi.specs.StakeFitting.{stake_scores_fits}
use Rattle.capi.specs.Packed.{scores_into}
use Rattle.capi.proofs.StakePromises.{beyond, few, enough, scores_none, scores_done}
use Rattle.capi.proofs.stake_reads.stakebook_season_scores.Goals as goal

pub returns-then-stake-ge-STAKES : goal.returns-then-stake-ge-STAKES
returns-then-stake-ge-STAKES c = scores_none _ _ _ _ 18 refl (beyond _ _ _ _ _ c.if-stake-ge-STAKES.true) refl refl refl refl _ c.refused.ensures

pub returns-then-least-lt1 : goal.returns-then-least-lt1
unfolding scores_into
returns-then-least-lt1 c = scores_none _ _ _ _ 1 refl (few _ _ _ _ _ c.if-stake-ge-STAKES.false c.if-least-lt1.true) refl refl refl refl _ c.refused-then-least-lt1.ensures

pub packed_scores-requires : goal.packed_scores-requires
packed_scores-requires c = record { scores_fits = rw c.scores-answer.ensures.answer (stake_scores_fits c.args.stake (season_of c.args.counts.now (columns_of c.args.xs.now c.args.ys.now c.args.ws.now) c.args.sums.now) c.args.scratch.now _ c.args.solved.now c.args.scores.now); in_bounds = c.if-least-lt1.false }

pub returns : goal.returns
unfolding scores_into
returns c = rw (← c.listed-settings.ensures)
    (scores_done _ _ _ _ (enough _ _ _ _ _ c.if-stake-ge-STAKES.false c.if-least-lt1.false) _ _ c.scores-answer.ensures c.packed_scores.ensures.0 c.packed_scores.ensures.1)

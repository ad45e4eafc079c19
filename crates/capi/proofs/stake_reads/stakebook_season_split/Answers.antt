-- `capi::stake_reads::stakebook_season_split` meets its contract: a stake above 31, too few places, and the season's own call.
use mathlib.Core.Path.{refl}
use Rattle.samples.specs.Columns.{columns_of}
use Rattle.stakes.specs.Season.{season_of}
use Rattle.capi.specs.StakeFitting.{stake_split_fits}
use Rattle.capi.specs.Packed.{split_into}
use Rattle.capi.proofs.StakePromises.{beyond, few, enough, split_none, split_done}
use Rattle.capi.proofs.stake_reads.stakebook_season_split.Goals as goal

pub returns-then-stake-ge-STAKES : goal.returns-then-stake-ge-STAKES
returns-then-stake-ge-STAKES c = split_none _ _ 18 refl (beyond _ _ _ _ _ c.if-stake-ge-STAKES.true) refl refl refl refl _ c.refused.ensures

pub returns-then-total-lt1 : goal.returns-then-total-lt1
unfolding split_into
returns-then-total-lt1 c = split_none _ _ 1 refl (few _ _ _ _ _ c.if-stake-ge-STAKES.false c.if-total-lt1.true) refl refl refl refl _ c.refused-then-total-lt1.ensures

pub packed_split-requires : goal.packed_split-requires
packed_split-requires c = record { split_fits = rw c.split-answer.ensures.answer (stake_split_fits c.args.stake (season_of c.args.counts.now (columns_of c.args.xs.now c.args.ys.now c.args.ws.now) c.args.sums.now) c.args.scratch.now _ c.args.limit c.args.earlier.now c.args.later.now); in_bounds = c.if-total-lt1.false }

pub returns : goal.returns
unfolding split_into
returns c = rw (← c.listed-settings.ensures)
    (split_done _ _ (enough _ _ _ _ _ c.if-stake-ge-STAKES.false c.if-total-lt1.false) _ _ c.split-answer.ensures c.packed_split.ensures.0 c.packed_split.ensures.1)

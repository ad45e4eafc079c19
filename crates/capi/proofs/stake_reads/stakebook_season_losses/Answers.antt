-- `capi::stake_reads::stakebook_season_losses` meets its contract: a stake above 31, too few places, and the season's own call.
use mathlib.Core.Path.{refl}
use Rattle.capi.specs.Packed.{loss_into}
use Rattle.capi.proofs.StakePromises.{beyond, few, enough, loss_none, loss_done}
use Rattle.capi.proofs.stake_reads.stakebook_season_losses.Goals as goal

pub returns-then-stake-ge-STAKES : goal.returns-then-stake-ge-STAKES
returns-then-stake-ge-STAKES c = loss_none _ _ _ 18 refl (beyond _ _ _ _ _ c.if-stake-ge-STAKES.true) refl refl refl _ c.refused.ensures

pub returns-then-numbers-lt-TOLD : goal.returns-then-numbers-lt-TOLD
unfolding loss_into
returns-then-numbers-lt-TOLD c = loss_none _ _ _ 1 refl (few _ _ _ _ _ c.if-stake-ge-STAKES.false c.if-numbers-lt-TOLD.true) refl refl refl _ c.refused-then-numbers-lt-TOLD.ensures

pub returns : goal.returns
unfolding loss_into
returns c = rw (← c.listed-settings.ensures)
    (loss_done _ _ _ (enough _ _ _ _ _ c.if-stake-ge-STAKES.false c.if-numbers-lt-TOLD.false) _ _ c.losses-answer.ensures c.packed_losses.ensures.0 c.packed_losses.ensures.1)

-- `capi::stake_reads::stakebook_season_band` meets its contract: a stake above 31, too few places, and the season's own call.
use mathlib.Core.Path.{refl}
use Rattle.capi.specs.Packed.{band_into}
use Rattle.capi.proofs.StakePromises.{beyond, few, enough, band_none, band_done}
use Rattle.capi.proofs.stake_reads.stakebook_season_band.Goals as goal

pub returns-then-stake-ge-STAKES : goal.returns-then-stake-ge-STAKES
returns-then-stake-ge-STAKES c = band_none _ _ 18 refl (beyond _ _ _ _ _ c.if-stake-ge-STAKES.true) refl refl _ c.refused.ensures

pub returns-then-numbers-lt-BAND : goal.returns-then-numbers-lt-BAND
unfolding band_into
returns-then-numbers-lt-BAND c = band_none _ _ 1 refl (few _ _ _ _ _ c.if-stake-ge-STAKES.false c.if-numbers-lt-BAND.true) refl refl _ c.refused-then-numbers-lt-BAND.ensures

pub returns : goal.returns
unfolding band_into
returns c = rw (← c.confidence-with.ensures, ← c.tolerance-allowed.ensures)
    (band_done _ _ (enough _ _ _ _ _ c.if-stake-ge-STAKES.false c.if-numbers-lt-BAND.false) _ _ c.band-answer.ensures c.packed_band.ensures.0 c.packed_band.ensures.1)

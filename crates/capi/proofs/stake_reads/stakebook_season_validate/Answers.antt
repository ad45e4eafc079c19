-- `capi::stake_reads::stakebook_season_validate` meets its contract.
use Rattle.capi.proofs.StakePromises.{stake_fit_packed}
use Rattle.capi.proofs.stake_reads.stakebook_season_validate.Goals as goal

pub returns : goal.returns
returns c = rw (← c.bound-by.ensures, ← c.criterion-scored.ensures) (stake_fit_packed _ _ c.validate.ensures c.fit.ensures)

-- `capi::stake_reads::stakebook_season_fit` meets its contract.
use Rattle.capi.proofs.StakePromises.{stake_fit_packed}
use Rattle.capi.proofs.stake_reads.stakebook_season_fit.Goals as goal

pub returns : goal.returns
returns c = stake_fit_packed _ _ c.fit.ensures c.fit-2.ensures

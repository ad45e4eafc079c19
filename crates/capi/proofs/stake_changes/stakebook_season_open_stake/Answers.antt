-- `capi::stake_changes::stakebook_season_open_stake` meets its contract.
use Rattle.capi.proofs.SeasonPromises.{season_packed}
use Rattle.capi.proofs.stake_changes.stakebook_season_open_stake.Goals as goal

pub returns : goal.returns
returns c = season_packed c.open_stake.ensures c.book.ensures

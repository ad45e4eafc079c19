-- `capi::stake_changes::stakebook_season_carry` meets its contract.
use Rattle.capi.proofs.SeasonPromises.{season_packed}
use Rattle.capi.proofs.stake_changes.stakebook_season_carry.Goals as goal

pub returns : goal.returns
returns c = season_packed c.carry.ensures c.book.ensures

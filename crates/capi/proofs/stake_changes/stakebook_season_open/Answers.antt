-- `capi::stake_changes::stakebook_season_open` meets its contract.
use Rattle.capi.proofs.SeasonPromises.{season_packed}
use Rattle.capi.proofs.stake_changes.stakebook_season_open.Goals as goal

pub returns : goal.returns
returns c = season_packed c.season_open.ensures c.book.ensures

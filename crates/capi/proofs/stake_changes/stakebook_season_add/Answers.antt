-- `capi::stake_changes::stakebook_season_add` meets its contract.
use Rattle.capi.proofs.SeasonPromises.{season_packed}
use Rattle.capi.proofs.stake_changes.stakebook_season_add.Goals as goal

pub returns : goal.returns
returns c = season_packed c.add.ensures c.book.ensures

-- `capi::stake_changes::stakebook_season_add_window` meets its contract.
use Rattle.capi.proofs.SeasonPromises.{season_packed}
use Rattle.capi.proofs.stake_changes.stakebook_season_add_window.Goals as goal

pub returns : goal.returns
returns c = season_packed c.add_window.ensures c.book.ensures

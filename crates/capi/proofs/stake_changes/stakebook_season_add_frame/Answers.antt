-- `capi::stake_changes::stakebook_season_add_frame` meets its contract.
use Rattle.capi.proofs.SeasonPromises.{season_packed}
use Rattle.capi.proofs.stake_changes.stakebook_season_add_frame.Goals as goal

pub returns : goal.returns
returns c = season_packed c.add_frame.ensures c.book.ensures

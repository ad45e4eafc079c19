-- `capi::stake_changes::stakebook_season_withdraw` meets its contract.
use Rattle.capi.proofs.SeasonPromises.{season_packed}
use Rattle.capi.proofs.stake_changes.stakebook_season_withdraw.Goals as goal

pub returns : goal.returns
returns c = season_packed c.withdraw.ensures c.book.ensures

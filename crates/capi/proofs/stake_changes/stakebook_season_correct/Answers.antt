-- `capi::stake_changes::stakebook_season_correct` meets its contract.
use Rattle.capi.proofs.SeasonPromises.{season_packed}
use Rattle.capi.proofs.stake_changes.stakebook_season_correct.Goals as goal

pub returns : goal.returns
returns c = season_packed c.correct.ensures c.book.ensures

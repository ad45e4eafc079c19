-- `capi::stake_changes::stakebook_season_add_lines` meets its contract.
use Rattle.capi.proofs.SeasonPromises.{season_packed}
use Rattle.capi.proofs.stake_changes.stakebook_season_add_lines.Goals as goal

pub returns : goal.returns
returns c = season_packed c.add_lines.ensures c.book.ensures

-- `capi::stake_reports::stakebook_season_report_stake` meets its contract.
use Rattle.samples.specs.Columns.{columns_of}
use Rattle.stakes.specs.Season.{season_of}
use Rattle.capi.specs.SeasonFitting.{stake_report_fits}
use Rattle.capi.proofs.SeasonPromises.{stake_report_packed}
use Rattle.capi.proofs.stake_reports.stakebook_season_report_stake.Goals as goal

pub packed_report-requires : goal.packed_report-requires
packed_report-requires c = rw c.report.ensures.answer (stake_report_fits _ (season_of c.args.counts.now (columns_of c.args.xs.now c.args.ys.now c.args.ws.now) c.args.sums.now) c.args.stake _)

pub returns : goal.returns
returns c = rw (← c.listed-settings.ensures) (stake_report_packed c.report.ensures c.packed_report.ensures)

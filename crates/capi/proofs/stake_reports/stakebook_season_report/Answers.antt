-- `capi::stake_reports::stakebook_season_report` meets its contract: too few places for the answers, nothing is written; else the season report is, and its answers.
use mathlib.Core.Path.{refl, sym, subst}
use Rattle.samples.specs.Columns.{columns_of}
use Rattle.stakes.specs.Season.{season_of}
use Rattle.capi.specs.SeasonPacked.{StakesFit}
use Rattle.capi.specs.SeasonFitting.{stakes_fit}
use Rattle.capi.proofs.SeasonPromises.{season_report_short, season_report_packed}
use Rattle.capi.proofs.stake_reports.stakebook_season_report.Goals as goal

pub returns-then-answers-lt-STAKES : goal.returns-then-answers-lt-STAKES
returns-then-answers-lt-STAKES c = season_report_short _ _ _ c.if-answers-lt-STAKES.true refl refl _ c.refused.ensures

pub put_stakes-requires : goal.put_stakes-requires
put_stakes-requires c = record { stakes_fit = subst StakesFit (sym c.season_report-told.ensures.reports) (stakes_fit _ (season_of c.args.counts.now (columns_of c.args.xs.now c.args.ys.now c.args.ws.now) c.args.sums.now) _); stakes_in_bounds = c.if-answers-lt-STAKES.false }

pub returns : goal.returns
returns c = rw (← c.listed-settings.ensures) (season_report_packed _ _ _ c.if-answers-lt-STAKES.false _ _ c.season_report-told.ensures refl c.put_stakes.ensures)

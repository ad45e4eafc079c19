-- The calls that read a book, as calls of a list: what each answers and writes. Definitions only.
use Rattle.std.specs.Prelude.{ℕ, Float}
use Rattle.statistics.specs.declared.Confidence.{Confidence}
use Rattle.statistics.specs.declared.DegreeBound.{DegreeBound}
use Rattle.statistics.specs.declared.Tolerance.{Tolerance}
use Rattle.score.specs.declared.Criterion.{Criterion}
use Rattle.measure.specs.Fits.{FitOut}
use Rattle.query.specs.Fits.{fit_on, validate_on}
use Rattle.measure.specs.Bands.{BandOut}
use Rattle.query.specs.Bands.{band_for}
use Rattle.settings.specs.declared.Settings.{Settings}
use Rattle.reporting.specs.declared.Places.{Places}
use Rattle.reporting.specs.Reports.{ReportOut}
use Rattle.report.specs.Reports.{report_on}
use Rattle.split.specs.declared.Places.{Places as SplitPlaces}
use Rattle.split.specs.Splits.{SplitOut, split_on}
use Rattle.losses.specs.Losses.{LossOut, loss_on}
use Rattle.scores.specs.Scores.{ScoresOut, scores_on}
use Rattle.ledger.specs.Ledger.{Reading}

-- a call that reads, with its arguments, then the lengths of the memory lent to it alone: of scratch and coefficients, of scratch, of all that a
-- report or a split writes, of scratch and losses, or of scratch, solved bytes and scores
pub data ReadCall : Type 0 where
  fits : ℕ → ℕ → ℕ → ReadCall
  validates : ℕ → DegreeBound → Criterion → ℕ → ℕ → ReadCall
  bands : Float → ℕ → Confidence → Tolerance → ℕ → ReadCall
  reports : Settings → Places → ReadCall
  splits : Settings → ℕ → SplitPlaces → ReadCall
  losses : Settings → ℕ → ℕ → ReadCall
  scores : Settings → ℕ → ℕ → ℕ → ReadCall

-- the answer and every value written
pub data Told : Type 0 where
  fit_reply : FitOut → Told
  band_reply : BandOut → Told
  report_reply : ReportOut → Told
  split_reply : SplitOut → Told
  loss_reply : LossOut → Told
  scores_reply : ScoresOut → Told

-- what each answers and writes, from the count, the samples, the 272 sums, and the lengths of the columns and of the sums: the definitions that the
-- contracts of `fit`, `validate`, `band`, `report`, `split`, `losses` and `scores` promise
unfoldable pub read_on : Reading ReadCall Told
read_on (fits degree scratch coefficients) n samples sums columns places = fit_reply (fit_on n degree samples sums columns places scratch coefficients)
read_on (validates folds bound criterion scratch coefficients) n samples sums columns places =
    fit_reply (validate_on n folds bound criterion samples sums columns places scratch coefficients)
read_on (bands x degree confidence tolerance scratch) n samples sums columns places =
    band_reply (band_for n x degree confidence tolerance samples sums columns places scratch)
read_on (reports settings lent) n samples sums columns places = report_reply (report_on n settings samples sums columns places lent)
read_on (splits settings limit lent) n samples sums columns places = split_reply (split_on n settings limit samples columns places lent)
read_on (losses settings scratch told) n samples sums columns places = loss_reply (loss_on n settings samples sums columns places scratch told)
read_on (scores settings scratch solved told) n samples sums columns places = scores_reply (scores_on n settings samples sums columns places scratch solved told)

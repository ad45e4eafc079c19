-- What the calls that read answer and write, of samples alike but for the sign of every y: what is equal, bit for bit, and what changes sign. Losses
-- and scores are equal whole. Definitions only.
use Rattle.std.specs.Prelude.{◌≡◌, ℕ, Ok, Err}
use Rattle.refusal.specs.declared.refusals.Refusal.{Refusal}
use Rattle.basis.specs.declared.Degree.{Degree}
use Rattle.covariance.specs.declared.Band.{Band}
use Rattle.covariance.specs.declared.PruningRule.TheVariants as rules
use Rattle.settings.specs.declared.Settings.{Settings}
use Rattle.measure.specs.Fits.{FitOut}
use Rattle.measure.specs.Bands.{BandAnswer, BandOut}
use Rattle.reporting.specs.Outputs.{Outputs}
use Rattle.reporting.specs.Reports.{ReportAnswer, ReportOut}
use Rattle.split.specs.Splits.{SplitOut}
use Rattle.losses.specs.Losses.{LossOut}
use Rattle.scores.specs.Scores.{ScoresOut}
use Rattle.ledger.specs.ReadCalls.{ReadCall, fits, validates, bands, reports, splits, losses, scores, Told, fit_reply, band_reply, report_reply, split_reply, loss_reply, scores_reply}
use Rattle.mirror.specs.Mirror.{Opposites, MirrorBand}

-- a fit or a validation: the degree, or the refusal's number, is equal, and the coefficients change sign
pub record MirrorFit (a b : FitOut) : Type 0 where
  pub answer : a.answer ≡ b.answer
  pub scratch : a.scratch ≡ b.scratch
  pub coefficients : Opposites a.coefficients b.coefficients

-- a band: value, lower and upper change sign, lower and upper change places; refusals agree
pub data MirrorBandAnswer : BandAnswer → BandAnswer → Type 0 where
  band : {a b : Band} → MirrorBand a b → MirrorBandAnswer (Ok a) (Ok b)
  refused : (e : Refusal) → MirrorBandAnswer (Err e) (Err e)

pub record MirrorBandOut (a b : BandOut) : Type 0 where
  pub answer : MirrorBandAnswer a.answer b.answer
  pub scratch : a.scratch ≡ b.scratch

-- What a report answers: the degree, the number of solved degrees and that of outliers are equal, and refusals agree. The number of pruned
-- terms is equal where pruning is by size, which is `sized`.
pub data MirrorAnswer (sized : Type 0) : ReportAnswer → ReportAnswer → Type 0 where
  report : (d : Degree) (solved outliers : ℕ) {p q : ℕ} → (sized → p ≡ q) → MirrorAnswer sized (Ok (record { degree = d; solved = solved; outliers = outliers; pruned = p })) (Ok (record { degree = d; solved = solved; outliers = outliers; pruned = q }))
  refused : (e : Refusal) → MirrorAnswer sized (Err e) (Err e)

-- what it writes: coefficients change sign, errors are equal, lower and upper change places and sign, the outlier marks are equal, and so are the
-- pruning bytes where pruning is by size
pub record MirrorOutputs (sized : Type 0) (a b : Outputs) : Type 0 where
  pub scratch : a.scratch ≡ b.scratch
  pub coefficients : Opposites a.coefficients b.coefficients
  pub errors : a.errors ≡ b.errors
  pub pruned : sized → a.pruned ≡ b.pruned
  pub lower : Opposites a.lower b.upper
  pub upper : Opposites a.upper b.lower
  pub outliers : a.outliers ≡ b.outliers

pub record MirrorReport (sized : Type 0) (a b : ReportOut) : Type 0 where
  pub answer : MirrorAnswer sized a.answer b.answer
  pub written : MirrorOutputs sized a.written b.written

-- a split: the total, the break, the number of pivot tests and both degrees are equal, or the refusal's number is; both fits change sign
pub record MirrorSplit (a b : SplitOut) : Type 0 where
  pub answer : a.answer ≡ b.answer
  pub scratch : a.scratch ≡ b.scratch
  pub before : Opposites a.before b.before
  pub after : Opposites a.after b.after

-- any of them
pub data MirrorTold (sized : Type 0) : Told → Told → Type 0 where
  fit : {a b : FitOut} → MirrorFit a b → MirrorTold sized (fit_reply a) (fit_reply b)
  band : {a b : BandOut} → MirrorBandOut a b → MirrorTold sized (band_reply a) (band_reply b)
  report : {a b : ReportOut} → MirrorReport sized a b → MirrorTold sized (report_reply a) (report_reply b)
  split : {a b : SplitOut} → MirrorSplit a b → MirrorTold sized (split_reply a) (split_reply b)
  loss : {a b : LossOut} → a ≡ b → MirrorTold sized (loss_reply a) (loss_reply b)
  score : {a b : ScoresOut} → a ≡ b → MirrorTold sized (scores_reply a) (scores_reply b)

-- the settings prune by size
abbrev pub BySize : Settings → Type 0
BySize settings = settings.pruning ≡ rules.Size

-- where a call prunes, it prunes by size
abbrev pub PrunesBySize : ReadCall → Type 0
PrunesBySize (fits degree scratch coefficients) = Unit {0}
PrunesBySize (validates folds bound criterion scratch coefficients) = Unit {0}
PrunesBySize (bands x degree confidence tolerance scratch) = Unit {0}
PrunesBySize (reports settings lent) = BySize settings
PrunesBySize (splits settings limit lent) = Unit {0}
PrunesBySize (losses settings scratch told) = Unit {0}
PrunesBySize (scores settings scratch solved told) = Unit {0}

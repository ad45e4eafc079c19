-- Each call that reads a book, asked alike of samples alike but for the sign of every y, with sums to match: one law a call, and `read_on_mirror` for
-- any.
use Rattle.std.specs.Prelude.{◌≡◌, refl, List, [], ℕ, Float, Option, Some, None}
use Rattle.basis.specs.declared.Degree.{Degree}
use Rattle.basis.specs.Counts.{count_of}
use Rattle.basis.specs.declared.Basis.TheVariants.{Curve}
use Rattle.statistics.specs.Degrees.{max_degree}
use Rattle.statistics.specs.declared.Confidence.{Confidence}
use Rattle.statistics.specs.declared.DegreeBound.{DegreeBound}
use Rattle.statistics.specs.declared.Tolerance.{Tolerance}
use Rattle.samples.specs.declared.Sample.{Sample}
use Rattle.monomial.specs.Rows.{rows_of, weighted_rows}
use Rattle.score.specs.declared.Criterion.{Criterion}
use Rattle.fit.specs.Chosen.{counts_of}
use Rattle.folds.specs.Folds.{validated_choice}
use Rattle.settings.specs.declared.Settings.{Settings}
use Rattle.query.specs.Refusals.{fit_refusal, validate_refusal, band_refusal}
use Rattle.query.specs.Fits.{fit_on, validate_past, validate_on}
use Rattle.query.specs.Bands.{band_for}
use Rattle.reporting.specs.declared.Places.{Places}
use Rattle.report.specs.Refusals.{report_refusal}
use Rattle.report.specs.Reports.{report_choice, report_past, report_on}
use Rattle.split.specs.declared.Places.{Places as SplitPlaces}
use Rattle.split.specs.Refusals.{split_refusal}
use Rattle.split.specs.Splits.{split_on}
use Rattle.losses.specs.Refusals.{loss_refusal}
use Rattle.losses.specs.Losses.{LossOut, loss_late, losses_at, losses_by, loss_of, loss_past, loss_on}
use Rattle.scores.specs.Refusals.{scores_refusal}
use Rattle.scores.specs.Scores.{ScoresOut, scores_late, scores_by, scores_of, scores_past, scores_on}
use Rattle.ledger.specs.ReadCalls.{ReadCall, fits, validates, bands, reports, splits, losses, scores, read_on}
use Rattle.mirror.specs.Pairs.{none}
use Rattle.mirror.specs.Mirror.{MirrorSums}
use Rattle.mirror.specs.FitLaws.{loss_list_mirror, choice_mirror}
use Rattle.mirror.specs.FoldLaws.{validation_mirror}
use Rattle.mirrored.specs.Samples.{MirrorSamples}
use Rattle.mirrored.specs.SampleLaws.{rows_mirror, weights_mirror, xs_mirror, all_finite_mirror}
use Rattle.mirrored.specs.Replies.{MirrorFit, MirrorBandOut, MirrorReport, MirrorSplit, MirrorTold, fit, band, report, split, loss, score, BySize, PrunesBySize}
use Rattle.mirrored.proofs.ReplyLaws.{settle_mirror, fit_refused_lem, band_refused_lem, report_refused, split_refused_lem, chosen_mirror, fit_past_mirror, band_past_mirror, report_of_mirror, split_past_mirror}

module _ {s t : List Float} (h : MirrorSums s t) {ps qs : List Sample} (p : MirrorSamples ps qs) (n : ℕ) (columns : List ℕ) (places : ℕ) where
  -- ---- the asked degree

  pub fit_mirror : (degree scratch coefficients : ℕ)
      → MirrorFit (fit_on n degree ps s columns places scratch coefficients) (fit_on n degree qs t columns places scratch coefficients)
  unfolding fit_on fit_refusal
  fit_mirror degree scratch coefficients =
      rw (all_finite_mirror p)
      (settle_mirror MirrorFit (fit_refusal n degree qs columns places scratch coefficients) (fit_past_mirror Curve h (rows_mirror p) n degree) (fit_refused_lem (fit_refusal n degree qs columns places scratch coefficients)))

  -- 9 is judged by the x's alone
  pub band_for_mirror : (x : Float) (degree : ℕ) (confidence : Confidence) (tolerance : Tolerance) (scratch : ℕ)
      → MirrorBandOut (band_for n x degree confidence tolerance ps s columns places scratch) (band_for n x degree confidence tolerance qs t columns places scratch)
  unfolding band_for band_refusal
  band_for_mirror x degree confidence tolerance scratch =
      rw (all_finite_mirror p, xs_mirror p)
      (settle_mirror MirrorBandOut (band_refusal n x degree confidence tolerance qs columns places scratch)
      (band_past_mirror Curve h (rows_mirror p) n x x degree confidence tolerance) (band_refused_lem (band_refusal n x degree confidence tolerance qs columns places scratch)))

  -- ---- the degree that validation chooses

  validate_past_mirror : (o : Option Degree) → MirrorFit (validate_past n o (rows_of ps) s) (validate_past n o (rows_of qs) t)
  unfolding validate_past
  validate_past_mirror None = record { answer = refl; scratch = refl; coefficients = none }
  validate_past_mirror (Some d) = fit_past_mirror Curve h (rows_mirror p) n d.0

  pub validate_mirror : (folds : ℕ) (bound : DegreeBound) (criterion : Criterion) (scratch coefficients : ℕ)
      → MirrorFit (validate_on n folds bound criterion ps s columns places scratch coefficients)
      (validate_on n folds bound criterion qs t columns places scratch coefficients)
  unfolding validate_on validate_refusal
  validate_mirror folds bound criterion scratch coefficients =
      rw (all_finite_mirror p, validation_mirror criterion (weights_mirror p) folds (max_degree bound n))
      (settle_mirror MirrorFit (validate_refusal n folds bound qs columns places scratch coefficients)
      (validate_past_mirror (validated_choice criterion (weighted_rows qs) folds (max_degree bound n))) (fit_refused_lem (validate_refusal n folds bound qs columns places scratch coefficients)))

  -- ---- the degree that a report chooses

  pub report_choice_mirror : (settings : Settings) → report_choice n settings (rows_of ps) s ≡ report_choice n settings (rows_of qs) t
  unfolding report_choice
  report_choice_mirror settings = choice_mirror settings.criterion h (rows_mirror p) (counts_of Curve (max_degree settings.bound n))

  report_past_mirror : (settings : Settings) → MirrorReport (BySize settings) (report_past n settings (rows_of ps) s) (report_past n settings (rows_of qs) t)
  unfolding report_past
  report_past_mirror settings =
      let c = report_choice n settings (rows_of qs) t in
      rw (report_choice_mirror settings) (report_of_mirror Curve h (rows_mirror p) n settings c.solved c.chosen)

  pub report_mirror : (settings : Settings) (lent : Places)
      → MirrorReport (BySize settings) (report_on n settings ps s columns places lent) (report_on n settings qs t columns places lent)
  unfolding report_on report_refusal
  report_mirror settings lent =
      rw (all_finite_mirror p)
      (settle_mirror (MirrorReport (BySize settings)) (report_refusal n settings qs columns places lent) (report_past_mirror settings)
      (report_refused (BySize settings) (report_refusal n settings qs columns places lent)))

  losses_by_mirror : (settings : Settings) (degree : ℕ) → losses_by n settings (rows_of ps) s degree ≡ losses_by n settings (rows_of qs) t degree
  unfolding losses_by losses_at
  losses_by_mirror settings degree = rw (loss_list_mirror h (rows_mirror p) (count_of Curve degree))

  loss_past_mirror : (settings : Settings) → loss_past n settings (rows_of ps) s ≡ loss_past n settings (rows_of qs) t
  unfolding loss_past loss_of
  loss_past_mirror settings =
      rw (report_choice_mirror settings)
      (chosen_mirror Curve h (λ (a b : LossOut). a ≡ b) {late = loss_late n} {late' = loss_late n} (λ r. refl) (λ d. losses_by_mirror settings d.0)
      (report_choice n settings (rows_of qs) t).chosen)

  -- each loss, their total, the degree and the score are equal
  pub loss_mirror : (settings : Settings) (scratch told : ℕ) → loss_on n settings ps s columns places scratch told ≡ loss_on n settings qs t columns places scratch told
  unfolding loss_on loss_refusal
  loss_mirror settings scratch told = rw (all_finite_mirror p, loss_past_mirror settings)

  scores_past_mirror : (settings : Settings) → scores_past n settings (rows_of ps) s ≡ scores_past n settings (rows_of qs) t
  unfolding scores_past scores_of
  scores_past_mirror settings =
      let c = report_choice n settings (rows_of qs) t in
      rw (report_choice_mirror settings)
      (chosen_mirror Curve h (λ (a b : ScoresOut). a ≡ b) {late = scores_late n} {late' = scores_late n} {told = scores_by n (max_degree settings.bound n) c}
      {told' = scores_by n (max_degree settings.bound n) c} (λ r. refl) (λ d. refl) c.chosen)

  -- of every degree whether it is solved and its score, the least, the chosen degree and the pivot tests are equal
  pub scores_mirror : (settings : Settings) (scratch solved told : ℕ)
      → scores_on n settings ps s columns places scratch solved told ≡ scores_on n settings qs t columns places scratch solved told
  unfolding scores_on scores_refusal
  scores_mirror settings scratch solved told = rw (all_finite_mirror p, scores_past_mirror settings)

  -- ---- the break

  pub split_mirror : (settings : Settings) (limit : ℕ) (lent : SplitPlaces)
      → MirrorSplit (split_on n settings limit ps columns places lent) (split_on n settings limit qs columns places lent)
  unfolding split_on split_refusal
  split_mirror settings limit lent =
      rw (all_finite_mirror p)
      (settle_mirror MirrorSplit (split_refusal n settings qs columns places lent)
      (split_past_mirror (weights_mirror p) n settings.bound settings.criterion limit) (split_refused_lem (split_refusal n settings qs columns places lent) []))

  -- ---- any of them

  pub read_on_mirror : (q : ReadCall) → MirrorTold (PrunesBySize q) (read_on q n ps s columns places) (read_on q n qs t columns places)
  unfolding read_on
  read_on_mirror (fits degree scratch coefficients) = fit (fit_mirror degree scratch coefficients)
  read_on_mirror (validates folds bound criterion scratch coefficients) = fit (validate_mirror folds bound criterion scratch coefficients)
  read_on_mirror (bands x degree confidence tolerance scratch) = band (band_for_mirror x degree confidence tolerance scratch)
  read_on_mirror (reports settings lent) = report (report_mirror settings lent)
  read_on_mirror (splits settings limit lent) = split (split_mirror settings limit lent)
  read_on_mirror (losses settings scratch told) = loss (loss_mirror settings scratch told)
  read_on_mirror (scores settings scratch solved told) = score (scores_mirror settings scratch solved told)

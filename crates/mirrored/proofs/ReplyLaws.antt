-- Laws of Replies.antt over rows and sums of any basis: fits, bands, reports and splits past refusals 1 to 9.
use Rattle.std.specs.Prelude.{◌≡◌, Bool, true, false, cond, List, ℕ, zero, suc, ltb, Float, Option, Some, None, Result, Ok, Err}
use Rattle.std.proofs.Math.Path.{refl, ap}
use Rattle.refusal.specs.declared.refusals.Refusal.{Refusal}
use Rattle.refusal.specs.Named.{named}
use Rattle.basis.specs.Counts.{count_of}
use Rattle.basis.specs.declared.Basis.{Basis}
use Rattle.basis.specs.declared.Degree.{Degree}
use Rattle.statistics.specs.Scores.{z_score, t_score, degrees_of_freedom}
use Rattle.statistics.specs.Variances.{stddev_and_mean}
use Rattle.statistics.specs.declared.Confidence.{Confidence}
use Rattle.statistics.specs.declared.DegreeBound.{DegreeBound}
use Rattle.statistics.specs.declared.Tolerance.{Tolerance}
use Rattle.monomial.specs.Terms.{terms_at}
use Rattle.monomial.specs.Rows.{Row, ys_in, WeightedRow}
use Rattle.score.specs.declared.Criterion.{Criterion}
use Rattle.fit.specs.declared.Choice.{Choice}
use Rattle.fit.specs.Solved.{is_solved}
use Rattle.covariance.specs.Covariance.{errors_of}
use Rattle.covariance.specs.Marks.{ones}
use Rattle.covariance.specs.Pruning.{pruned_bytes}
use Rattle.refusal.specs.Refusals.{settle}
use Rattle.settings.specs.declared.Settings.{Settings}
use Rattle.measure.specs.Places.{term_places}
use Rattle.measure.specs.Measures.{inverse_fails, measure_refusal, covariance_at}
use Rattle.measure.specs.Fits.{fit_refused, fit_past}
use Rattle.measure.specs.Bands.{band_refused, band_on, band_past}
use Rattle.reporting.specs.Chosen.{of_chosen}
use Rattle.reporting.specs.Limited.{Limited, limited_of}
use Rattle.reporting.specs.Reports.{refused_early, refused_late, written_by, report_of}
use Rattle.split.specs.declared.Best.{Best}
use Rattle.split.specs.Refusals.{searched}
use Rattle.split.specs.Search.{best_break, search_tests}
use Rattle.split.specs.Splits.{split_refused, split_at, split_by, split_past}
use Rattle.mirror.specs.Pairs.{none}
use Rattle.mirror.specs.PairLaws.{pairs_take, pairs_drop}
use Rattle.mirror.specs.Mirror.{MirrorRows, MirrorWeights, Opposites, MirrorSums, MirrorBand}
use Rattle.mirror.specs.SolveLaws.{coefficients_mirror}
use Rattle.mirror.specs.FitLaws.{solved_mirror}
use Rattle.mirror.specs.CovarianceLaws.{fails_mirror, measure_mirror, covariance_mirror}
use Rattle.mirror.proofs.BandLaws.{rows_deviation_mirror, band_mirror, lowers_mirror, uppers_mirror, outliers_mirror}
use Rattle.mirror.specs.PruningLaws.{pruned_mirror}
use Rattle.mirror.specs.SplitLaws.{side_fit_mirror, best_mirror, search_mirror}
use Rattle.mirrored.specs.Replies.{MirrorFit, MirrorBandAnswer, band, refused, MirrorBandOut, MirrorReport, MirrorAnswer, report, MirrorSplit, BySize}

-- ---- the same number refuses both, or neither

pub settle_mirror : {A B : Type 0} (R : A → B → Type 0) (r : ℕ) {a c : A} {b d : B} → R a b → R c d → R (settle r a c) (settle r b d)
settle_mirror R zero p q = p
settle_mirror R (suc r) p q = q

either_mirror : {A B : Type 0} (R : A → B → Type 0) (t : Bool) {a c : A} {b d : B} → R a b → R c d → R (cond t a c) (cond t b d)
either_mirror R true p q = p
either_mirror R false p q = q

-- refused by 1 to 9: nothing is written
pub fit_refused_lem : (r : ℕ) → MirrorFit (fit_refused r) (fit_refused r)
fit_refused_lem r = record { answer = refl; scratch = refl; coefficients = none }

pub band_refused_lem : (r : ℕ) → MirrorBandOut (band_refused r) (band_refused r)
band_refused_lem r = record { answer = refused (named r); scratch = refl }

pub report_refused : (sized : Type 0) (r : ℕ) → MirrorReport sized (refused_early r) (refused_early r)
report_refused sized r =
    record {
      answer = MirrorAnswer.refused (named r);
      written = record { scratch = refl; coefficients = none; errors = refl; pruned = λ _. refl; lower = none; upper = none; outliers = refl };
    }

report_late : (sized : Type 0) (n r : ℕ) → MirrorReport sized (refused_late n r) (refused_late n r)
report_late sized n r =
    record {
      answer = MirrorAnswer.refused (named r);
      written = record { scratch = refl; coefficients = none; errors = refl; pruned = λ _. refl; lower = none; upper = none; outliers = refl };
    }

pub split_refused_lem : (r : ℕ) (scratch : List Float) → MirrorSplit (split_refused r scratch) (split_refused r scratch)
split_refused_lem r scratch = record { answer = refl; scratch = refl; before = none; after = none }

-- ---- of one basis

module _ (basis : Basis) {s t : List Float} (h : MirrorSums s t) where
  -- what a call makes of the chosen degree or none
  pub chosen_mirror : {A B : Type 0} (R : A → B → Type 0) {late : ℕ → A} {late' : ℕ → B} {told : Degree → A} {told' : Degree → B}
      → ((r : ℕ) → R (late r) (late' r)) → ((d : Degree) → R (told d) (told' d)) → (o : Option Degree) → R (of_chosen basis s late told o) (of_chosen basis t late' told' o)
  chosen_mirror R p q None = p 11
  chosen_mirror R p q (Some d) = rw (fails_mirror h (count_of basis d.0)) (either_mirror R (inverse_fails t (count_of basis d.0)) (p 12) (q d))

  module _ {rs qs : List Row} (p : MirrorRows rs qs) where
    pub fit_past_mirror : (n degree : ℕ) → MirrorFit (fit_past basis n degree rs s) (fit_past basis n degree qs t)
    unfolding fit_past
    fit_past_mirror n degree =
        let k = count_of basis degree in
        rw (solved_mirror h p k)
        (either_mirror MirrorFit (is_solved t qs k)
        (record { answer = refl; scratch = refl; coefficients = pairs_take (term_places basis) (coefficients_mirror h k) })
        (record { answer = refl; scratch = refl; coefficients = none }))

    band_on_mirror : (x z : Float) (degree : ℕ) (confidence : Confidence) (tolerance : Tolerance)
        → MirrorBand (band_on basis x z degree confidence tolerance rs s) (band_on basis x z degree confidence tolerance qs t)
    unfolding band_on
    band_on_mirror x z degree confidence tolerance =
        let k = count_of basis degree in
        rw (rows_deviation_mirror p, covariance_mirror h p k)
        (band_mirror k (coefficients_mirror h k) (covariance_at t qs k) tolerance (z_score confidence) (stddev_and_mean (ys_in qs)).stddev (terms_at basis x z))

    pub band_past_mirror : (n : ℕ) (x z : Float) (degree : ℕ) (confidence : Confidence) (tolerance : Tolerance)
        → MirrorBandOut (band_past basis n x z degree confidence tolerance rs s) (band_past basis n x z degree confidence tolerance qs t)
    unfolding band_past
    band_past_mirror n x z degree confidence tolerance =
        let r = measure_refusal t qs (count_of basis degree) in
        rw (measure_mirror h p (count_of basis degree))
        (record { answer = settle_mirror MirrorBandAnswer r (band (band_on_mirror x z degree confidence tolerance)) (refused (named r)); scratch = refl })

    -- of k opposite coefficients with one covariance
    written_mirror : (n : ℕ) (settings : Settings) (degree solved : ℕ) {c d : List Float} (v : List Float) → Opposites c d
        → MirrorReport (BySize settings) (written_by basis n settings rs degree solved c v) (written_by basis n settings qs degree solved d v)
    unfolding written_by
    written_mirror n settings degree solved {c} {d} v o =
        let k = count_of basis degree in
        let m = term_places basis in
        let z = z_score settings.confidence in
        let sd = (stddev_and_mean (ys_in qs)).stddev in
        let marks = outliers_mirror k o v settings.tolerance z sd p in
        let score = t_score settings.confidence (degrees_of_freedom n k) in
        let e = errors_of k v in
        let pruned : BySize settings → pruned_bytes m settings.pruning k c e score ≡ pruned_bytes m settings.pruning k d e score =
        λ sized. pruned_mirror settings.pruning sized m k e score o in
        rw (rows_deviation_mirror p, marks)
        (record {
          answer = report _ _ _ (λ sized. ap ones (pruned sized));
          written =
              record {
                scratch = refl;
                coefficients = pairs_take m o;
                errors = refl;
                pruned = pruned;
                lower = lowers_mirror k o v settings.tolerance z sd p;
                upper = uppers_mirror k o v settings.tolerance z sd p;
                outliers = refl;
              };
        })

    -- a report of the same chosen degree or none
    pub report_of_mirror : (n : ℕ) (settings : Settings) (solved : ℕ) (o : Option Degree)
        → MirrorReport (BySize settings) (report_of basis n settings rs s solved o) (report_of basis n settings qs t solved o)
    unfolding report_of
    report_of_mirror n settings solved o =
        chosen_mirror (MirrorReport (BySize settings)) (report_late (BySize settings) n)
        (λ d.
        let k = count_of basis d.0 in
        rw (covariance_mirror h p k) (written_mirror n settings d.0 solved (covariance_at t qs k) (coefficients_mirror h k))) o

    -- and within a limit of pivot tests, where too few left is 16
    pub limited_mirror : (n : ℕ) (settings : Settings) (limit : ℕ) (c : Choice)
        → MirrorReport (BySize settings) (limited_of basis n settings limit rs s c).does (limited_of basis n settings limit qs t c).does
    unfolding limited_of
    limited_mirror n settings limit c =
        either_mirror (λ (a b : Limited). MirrorReport (BySize settings) a.does b.does) (ltb limit c.tests) (report_late (BySize settings) n 16)
        (report_of_mirror n settings c.solved c.chosen)

-- ---- a split

module _ {rs qs : List WeightedRow} (p : MirrorWeights rs qs) where
  split_at_mirror : (n tests : ℕ) (best : Best) → MirrorSplit (split_at n tests rs best) (split_at n tests qs best)
  unfolding split_at
  split_at_mirror n tests best =
      record {
        answer = refl;
        scratch = refl;
        before = side_fit_mirror (pairs_take best.at p) best.before;
        after = side_fit_mirror (pairs_drop best.at p) best.after;
      }

  split_by_mirror : (n tests : ℕ) (found : Result Best Refusal) → MirrorSplit (split_by n tests rs found) (split_by n tests qs found)
  split_by_mirror n tests (Ok best) = split_at_mirror n tests best
  split_by_mirror n tests (Err e) = record { answer = refl; scratch = refl; before = none; after = none }

  pub split_past_mirror : (n : ℕ) (bound : DegreeBound) (criterion : Criterion) (limit : ℕ)
      → MirrorSplit (split_past n bound criterion limit rs) (split_past n bound criterion limit qs)
  unfolding split_past
  split_past_mirror n bound criterion limit =
      rw (best_mirror bound criterion p, search_mirror bound criterion p)
      (split_by_mirror n (search_tests bound criterion qs) (searched limit (search_tests bound criterion qs) (best_break bound criterion qs)))

-- What the calls can answer fits the fields that it is packed into: a count of at most 4,096, a degree of at most 15, at most 16 solved degrees and
-- pruned terms, at most 4,096 outliers, and refusals 1 to 18.
use Rattle.std.specs.Prelude.{◌≡◌, Bool, true, false, cond, not, ◌&&◌, List, [], ◌∷◌, map, ℕ, zero, suc, ◌+◌, ◌-◌, ◌≤◌, ltb, eqb, length, get_or, take, Float, Option, Some, None, Ok, Err, is_some}
use Rattle.std.proofs.Math.Path.{refl}
use Rattle.std.proofs.Common.{ap, ◌∙◌, add-one}
use native.Mathlib.Omega.{arith}
use Rattle.std.proofs.lemmas.List.{length-map}
use Rattle.std.specs.Float.{nan}
use Rattle.refusal.specs.Named.{refused_by}
use Rattle.loops.specs.Fold.{fold}
use Rattle.loops.specs.Loop.{from, turns}
use Rattle.loops.specs.Places.{table}
use Rattle.loops.specs.PlaceLaws.{length_table}
use Rattle.basis.specs.declared.Degree.{Degree}
use Rattle.basis.specs.Sizes.{max_samples}
use Rattle.statistics.specs.Degrees.{max_degree}
use Rattle.statistics.specs.Scores.{t_score, degrees_of_freedom}
use Rattle.statistics.specs.declared.DegreeBound.{DegreeBound}
use Rattle.statistics.specs.declared.Confidence.{Confidence}
use Rattle.statistics.specs.declared.Tolerance.{Tolerance}
use Rattle.samples.specs.declared.Sample.{Sample}
use Rattle.samples.specs.Columns.{samples_of, Columns, lengths, no_columns}
use Rattle.samples.specs.ColumnLaws.{length_samples}
use Rattle.monomial.specs.Rows.{Row, row_of, rows_of, weighted_rows}
use Rattle.score.specs.declared.Criterion.{Criterion}
use Rattle.choice.specs.Choice.{solved_count}
use Rattle.choice.specs.Laws.{chosen}
use Rattle.basis.specs.Counts.{count_of}
use Rattle.basis.specs.declared.Basis.{Basis}
use Rattle.basis.specs.declared.Basis.TheVariants.{Curve, Surface}
use Rattle.fit.specs.Solved.{is_solved}
use Rattle.fit.specs.Chosen.{tried, choice_of, counts_of}
use Rattle.folds.specs.Folds.{validated, validated_choice}
use Rattle.covariance.specs.declared.Band.{Band}
use Rattle.covariance.specs.declared.PruningRule.{PruningRule}
use Rattle.covariance.specs.Covariance.{errors_of}
use Rattle.covariance.specs.Marks.{mark, ones}
use Rattle.covariance.specs.MarkLaws.{ones_again}
use Rattle.covariance.specs.Pruning.{prunes, pruned_at, pruned_bytes}
use Rattle.covariance.specs.Bands.{band_at, outlies, outlier_of, outliers_of}
use Rattle.frame.specs.Frame.{decode}
use Rattle.decimal.specs.Lines.{read_lines}
use Rattle.book.specs.Refusals.{open_refusal, add_refusal, correct_refusal, withdraw_refusal, frame_add_refusal, lines_add_refusal}
use Rattle.refusal.specs.NamedLaws.{number_fits}
use Rattle.refusal.specs.Named.{named}
use Rattle.refusal.specs.Refusals.{by, settle, most_number}
use Rattle.refusal.specs.Laws.{among, numbered}
use Rattle.refusal.specs.Tests.{capacity}
use Rattle.book.specs.RefusalLaws.{add_room, correct_room, withdraw_room, frame_room, lines_room}
use Rattle.book.specs.Calls.{Answer, Out, State, state_of, state_after, book_after, refused, add_next, add_many, open_out, add_out, correct_out, withdraw_out, add_frame_out, add_lines_out}
use Rattle.book.specs.Window.{window_refusal, with_place, window_out}
use Rattle.book.specs.WindowLaws.{window_room}
use Rattle.measure.specs.Places.{term_places}
use Rattle.measure.specs.Measures.{inverse_fails, measure_refusal}
use Rattle.query.specs.Refusals.{fit_refusal, validate_refusal, band_refusal}
use Rattle.query.specs.RefusalLaws.{fit_room, validate_room}
use Rattle.measure.specs.Fits.{FitOut, fit_refused, fit_past}
use Rattle.query.specs.Fits.{fit_on, fit_out, validate_past, validate_on, validate_out}
use Rattle.measure.specs.Bands.{BandOut, band_refused, band_past}
use Rattle.query.specs.Bands.{band_for, band_out}
use Rattle.settings.specs.declared.Settings.{Settings}
use Rattle.reporting.specs.declared.Places.{Places}
use Rattle.report.specs.Refusals.{report_refusal}
use Rattle.report.specs.RefusalLaws.{report_room}
use Rattle.report.specs.Reports.{report_choice}
use Rattle.reporting.specs.ChosenLaws.{last_solved, of_either}
use Rattle.reporting.specs.Reports.{ReportOut, refused_early, refused_late, report_of, written_by}
use Rattle.report.specs.Reports.{report_past, report_on, report_out}
use Rattle.capi.specs.Packed.{BookFits, FitFits, BandFits, ReportFits, band_into}

-- ---- counts

mark_most : (b : Bool) → mark b ≤ 1
mark_most true = omega arith
mark_most false = omega arith

-- marks are at most as many as the places of the list
ones_map : {A : Type 0} (f : A → ℕ) → ((a : A) → f a ≤ 1) → (l : List A) → ones (map f l) ≤ length l
unfolding ones fold
ones_map {A} f h l =
    let w : fold ◌+◌ 0 (map f l) ≤ 0 + length l = go 0 l in
    omega arith
  where
    go : (m : ℕ) (l : List A) → fold ◌+◌ m (map f l) ≤ m + length l
    go m [] = omega arith
    go m (a ∷ l) = omega (arith, go (m + f a) l, h a)

none_marked : (f : ℕ → ℕ) → ones (table f 0) ≡ 0
unfolding ones fold table
none_marked f = refl

ones_table : (f : ℕ → ℕ) → ((i : ℕ) → f i ≤ 1) → (n : ℕ) → ones (table f n) ≤ n
ones_table f h zero = omega (arith, none_marked f)
ones_table f h (suc n) = omega (arith, ones_again f n, ones_table f h n, h n, ap (λ m. ones (table f m)) (add-one n))

-- the solved degrees are at most the degrees tried
solved_most : (S : ℕ → Option Float) (b : ℕ) → solved_count S b ≤ b
unfolding solved_count from turns
solved_most S b =
    let w : solved_count S b ≤ 0 + (b - 0) = go 0 (b - 0) 0 in
    omega arith
  where
    one : (t : Bool) (m : ℕ) → cond t (m + 1) m ≤ m + 1
    one true m = omega arith
    one false m = omega arith

    go : (i n m : ℕ) → turns (λ d m. cond (is_some (S d)) (m + 1) m) i n m ≤ m + n
    go i zero m = omega arith
    go i (suc n) m = omega (arith, go (i + 1) n (cond (is_some (S i)) (m + 1) m), one (is_some (S i)) m)

-- ---- the calls that change a book, with weights or without

-- O is what such a call leaves: k refuses it, or else its answer fits
pub settled_fits : {O : Type 0} (answer : O → Answer) (k : ℕ) (good bad : O) → answer bad ≡ refused_by k → (k ≡ 0 → BookFits (answer good))
    → BookFits (answer (settle k good bad))
unfolding BookFits
settled_fits answer zero good bad e g = g refl
settled_fits answer (suc k) good bad e g = rw e (number_fits (named (suc k)))

-- the book after an answer that fits
pub after_fits : (n : ℕ) (a : Answer) → n ≤ max_samples → BookFits a → book_after n a ≤ max_samples
unfolding BookFits
after_fits n (Ok b) h f = f
after_fits n (Err k) h f = h

-- and after many steps, each of which leaves one that does
pub many_fit : {A S : Type 0} (count : S → ℕ) (step : S → A → S) → ((s : S) (a : A) → count s ≤ max_samples → count (step s a) ≤ max_samples)
    → (l : List A) (s : S) → count s ≤ max_samples → count (fold step s l) ≤ max_samples
unfolding fold
many_fit count step each [] s h = h
many_fit count step each (a ∷ l) s h = many_fit count step each l (step s a) (each s a h)

pub open_fits : (sums : List Float) → BookFits (open_out sums).answer
unfolding open_out BookFits
open_fits sums =
    let r = open_refusal (length sums) in
    settled_fits (λ (o : Out). o.answer) r _ (refused r no_columns sums) refl (λ e. omega arith)

module _ (n : ℕ) (columns : Columns) (sums : List Float) where
  pub add_fits : (p : Sample) → BookFits (add_out n p columns sums).answer
  unfolding add_out BookFits
  add_fits p =
      let r = add_refusal n p (lengths columns) (length sums) in
      settled_fits (λ (o : Out). o.answer) r _ (refused r columns sums) refl
      (λ e. (add_room n (lengths columns) (length sums) p e).0.most)

  pub correct_fits : (i : ℕ) (y : Float) → BookFits (correct_out n i y columns sums).answer
  unfolding correct_out BookFits
  correct_fits i y =
      let r = correct_refusal n i y (lengths columns) (length sums) in
      settled_fits (λ (o : Out). o.answer) r _ (refused r columns sums) refl
      (λ e. (correct_room n (lengths columns) (length sums) i y e).0.most)

  pub withdraw_fits : (i : ℕ) → BookFits (withdraw_out n i columns sums).answer
  unfolding withdraw_out BookFits
  withdraw_fits i =
      let r = withdraw_refusal n i (lengths columns) (length sums) in
      settled_fits (λ (o : Out). o.answer) r _ (refused r columns sums) refl
      (λ e. omega (arith, (withdraw_room n (lengths columns) (length sums) i e).0.most))

pub add_next_fits : (s : State) (p : Sample) → s.count ≤ max_samples → (add_next s p).count ≤ max_samples
add_next_fits s p h = after_fits s.count _ h (add_fits s.count s.columns s.sums p)

adds_fit : (ps : List Sample) (s : State) → s.count ≤ max_samples → (add_many ps s).count ≤ max_samples
unfolding add_many
adds_fit ps s h = many_fit (λ (s : State). s.count) add_next add_next_fits ps s h

module _ (n : ℕ) (columns : Columns) (sums : List Float) where
  pub frame_fits : (f : List ℕ) → BookFits (add_frame_out n f columns sums).answer
  unfolding add_frame_out BookFits
  frame_fits f =
      let r = frame_add_refusal n f (lengths columns) (length sums) in
      settled_fits (λ (o : Out). o.answer) r _ (refused r columns sums) refl
      (λ e. adds_fit (decode f) (state_of n columns sums) (omega (arith, (frame_room n (lengths columns) (length sums) f e).0.most)))

  pub lines_fits : (t : List ℕ) → BookFits (add_lines_out n t columns sums).answer
  unfolding add_lines_out BookFits
  lines_fits t =
      let r = lines_add_refusal n t (lengths columns) (length sums) in
      settled_fits (λ (o : Out). o.answer) r _ (refused r columns sums) refl
      (λ e. adds_fit (read_lines t) (state_of n columns sums) (omega (arith, (lines_room n (lengths columns) (length sums) t e).0.most)))

-- a full window book is one sample shorter
place_fits : (s : State) → s.count ≤ max_samples → (with_place s).count ≤ max_samples
unfolding with_place
place_fits s h = go (eqb s.count (capacity (lengths s.columns)))
  where
    go : (t : Bool) → (cond t (state_after s.count (withdraw_out s.count 0 s.columns s.sums)) s).count ≤ max_samples
    go true = after_fits s.count _ h (withdraw_fits s.count s.columns s.sums 0)
    go false = h

pub window_fits : (n : ℕ) (columns : Columns) (sums : List Float) (p : Sample) → BookFits (window_out n p columns sums).answer
unfolding window_out BookFits
window_fits n columns sums p =
    let r = window_refusal n p (lengths columns) (length sums) in
    let s = state_of n columns sums in
    settled_fits (λ (o : Out). o.answer) r _ (refused r columns sums) refl
    (λ e. add_next_fits (with_place s) p (place_fits s (window_room n p (lengths columns) (length sums) e).0.most))

-- ---- fit and validation

pub past_fits : (basis : Basis) (n degree : ℕ) (rows : List Row) (sums : List Float) → degree ≤ 15 → FitFits (fit_past basis n degree rows sums).answer
unfolding fit_past FitFits
past_fits basis n degree rows sums h = go (is_solved sums rows (count_of basis degree)) refl
  where
    go : (t : Bool) → is_solved sums rows (count_of basis degree) ≡ t → FitFits (fit_past basis n degree rows sums).answer
    go true e = rw e h
    go false e = rw e (omega arith, omega arith)

pub fit_settles : (k : ℕ) (good : FitOut) → (k ≡ 0 → FitFits good.answer) → FitFits (settle k good (fit_refused k)).answer
unfolding FitFits
fit_settles zero good g = g refl
fit_settles (suc k) good g = number_fits (named (suc k))

module _ (n : ℕ) (columns : Columns) (sums scratch coefficients : List Float) where
  pub fit_fits : (degree : ℕ) → FitFits (fit_out n columns sums scratch coefficients degree).answer
  unfolding fit_on
  fit_fits degree =
      fit_settles (fit_refusal n degree (samples_of n columns) (lengths columns) (length sums) (length scratch) (length coefficients)) _
      (λ e.
      past_fits Curve n degree _ _ (fit_room n (samples_of n columns) (lengths columns) (length sums) (length scratch) degree (length coefficients) e).1)

  pub validate_fits : (folds : ℕ) (bound : DegreeBound) (criterion : Criterion)
      → FitFits (validate_out n columns sums scratch coefficients folds bound criterion).answer
  unfolding validate_on validate_past validated_choice FitFits
  validate_fits folds bound criterion =
      let samples = samples_of n columns in
      fit_settles (validate_refusal n folds bound samples (lengths columns) (length sums) (length scratch) (length coefficients)) _
      (λ e.
      chosen_fits (validate_room n samples (lengths columns) (length sums) (length scratch) folds bound (length coefficients) e).1
      (validated_choice criterion (weighted_rows samples) folds (max_degree bound n)) refl)
    where
      chosen_fits : max_degree bound n ≤ 15 → (o : Option Degree) → validated_choice criterion (weighted_rows (samples_of n columns)) folds (max_degree bound n) ≡ o
          → FitFits (validate_past n o (rows_of (samples_of n columns)) (take 272 sums)).answer
      chosen_fits h None e = (omega arith, omega arith)
      chosen_fits h (Some d) e =
          let w = chosen (λ d. validated criterion (weighted_rows (samples_of n columns)) folds (count_of Curve d)) (max_degree bound n + 1) d.0 e in
          past_fits Curve n d.0 _ _ (omega (arith, w.within))

-- ---- the band

pub measure_most : (sums : List Float) (rows : List Row) (k : ℕ) → measure_refusal sums rows k ≤ most_number
unfolding measure_refusal
measure_most sums rows k = omega (arith, among _ (numbered (by (not (is_solved sums rows k)) 10 ∷ by (inverse_fails sums k) 12 ∷ [])))

pub band_settles : (k : ℕ) (b : Band) → BandFits (settle k (Ok b) (refused_by k))
unfolding BandFits
band_settles zero b = tt
band_settles (suc k) b = number_fits (named (suc k))

pub out_settles : (k : ℕ) (good : BandOut) → BandFits good.answer → BandFits (settle k good (band_refused k)).answer
unfolding BandFits
out_settles zero good g = g
out_settles (suc k) good g = number_fits (named (suc k))

pub into_fits : (places : ℕ) (o : BandOut) → BandFits o.answer → BandFits (band_into places o).answer
unfolding band_into BandFits
into_fits places o h = go (ltb places 3)
  where
    go : (t : Bool) → BandFits (cond t (band_refused 1) o).answer
    go true = (omega arith, omega arith)
    go false = h

pub band_out_fits : (n : ℕ) (x : Float) (degree : ℕ) (confidence : Confidence) (tolerance : Tolerance) (columns : Columns) (sums scratch : List Float)
    → BandFits (band_out n x degree confidence tolerance columns sums scratch).answer
unfolding band_for band_past
band_out_fits n x degree confidence tolerance columns sums scratch =
    let samples = samples_of n columns in
    out_settles (band_refusal n x degree confidence tolerance samples (lengths columns) (length sums) (length scratch)) _
    (band_settles (measure_refusal (take 272 sums) (rows_of samples) (count_of Curve degree)) _)

pub band_fits : (n : ℕ) (x : Float) (degree : ℕ) (confidence : Confidence) (tolerance : Tolerance) (columns : Columns) (sums scratch : List Float) (places : ℕ)
    → BandFits (band_into places (band_out n x degree confidence tolerance columns sums scratch)).answer
band_fits n x degree confidence tolerance columns sums scratch places =
    into_fits places _ (band_out_fits n x degree confidence tolerance columns sums scratch)

-- ---- the report

module _ (k : ℕ) (c v : List Float) where
  outliers_most : (t : Tolerance) (z sd : Float) (rows : List Row) → length rows ≤ 4096 → ones (outliers_of k c v t z sd rows) ≤ 4096
  unfolding outlier_of
  outliers_most t z sd rows h = omega (arith, ones_map (outlier_of k c v t z sd) (λ r. mark_most (outlies (band_at k c v t z sd r.terms) r.y)) rows)

  pruned_most : (m : ℕ) (rule : PruningRule) (t : Float) → ones (pruned_bytes m rule k c v t) ≤ m
  unfolding pruned_at
  pruned_most m rule t = ones_table (pruned_at rule k c v t) (λ i. mark_most (ltb i k && prunes rule t (get_or c i nan) (get_or v i nan))) m

pub choice_solved : (n : ℕ) (settings : Settings) (rows : List Row) (sums : List Float) → max_degree settings.bound n ≤ 15 → (report_choice n settings rows sums).solved ≤ 16
unfolding report_choice choice_of
choice_solved n settings rows sums most =
    let counts = counts_of Curve (max_degree settings.bound n) in
    omega (arith, solved_most (tried settings.criterion sums rows counts) (length counts), length_table (count_of Curve) (max_degree settings.bound n + 1))

places_most : (basis : Basis) → term_places basis ≤ 16
places_most Curve = omega arith
places_most Surface = omega arith

-- of a curve or a surface, whose choice is among the degrees 0 to the last
module _ (basis : Basis) (n : ℕ) (settings : Settings) (rows : List Row) (sums : List Float) (last : ℕ)
    (few : length rows ≤ 4096) (most : last ≤ 15) where
  written_fits : (degree solved : ℕ) (c v : List Float) → degree ≤ 15 → solved ≤ 16 → ReportFits (written_by basis n settings rows degree solved c v).answer
  unfolding ReportFits written_by
  written_fits degree solved c v h k =
      let e = errors_of (count_of basis degree) v in (
        h,
        k,
        outliers_most (count_of basis degree) c v settings.tolerance _ _ rows few,
        omega (arith, places_most basis, pruned_most (count_of basis degree) c e (term_places basis) settings.pruning (t_score settings.confidence (degrees_of_freedom n (count_of basis degree)))),
      )

  last_count : (choice_of settings.criterion sums rows (counts_of basis last)).solved ≤ 16
  unfolding choice_of
  last_count =
      omega (arith, solved_most (tried settings.criterion sums rows (counts_of basis last)) (length (counts_of basis last)), length_table (count_of basis) (last + 1))

  pub chosen_fits : (o : Option Degree) → (choice_of settings.criterion sums rows (counts_of basis last)).chosen ≡ o
      → ReportFits (report_of basis n settings rows sums (choice_of settings.criterion sums rows (counts_of basis last)).solved o).answer
  unfolding report_of ReportFits
  chosen_fits o q =
      of_either basis sums (refused_late n) _ (λ (r : ReportOut). ReportFits r.answer) o (omega arith, omega arith) (omega arith, omega arith)
      (λ d e. written_fits d.0 _ _ _ (omega (arith, (last_solved basis settings.criterion rows sums last d (q ∙ e)).0)) last_count)

pub report_settles : (k : ℕ) (good : ReportOut) → (k ≡ 0 → ReportFits good.answer)
    → ReportFits (settle k good (refused_early k)).answer
unfolding ReportFits
report_settles zero good g = g refl
report_settles (suc k) good g = number_fits (named (suc k))

pub report_fits : (n : ℕ) (settings : Settings) (columns : Columns) (sums : List Float) (places : Places) → ReportFits (report_out n settings columns sums places).answer
unfolding report_on report_past report_choice
report_fits n settings columns sums places =
    let samples = samples_of n columns in
    report_settles (report_refusal n settings samples (lengths columns) (length sums) places) _
    (λ e.
    let w = report_room n settings samples (lengths columns) (length sums) places e in
    chosen_fits Curve n settings (rows_of samples) (take 272 sums) (max_degree settings.bound n)
    (omega (arith, w.room.most, length_samples n columns, length-map samples row_of)) w.most _ refl)

-- What a call that reads writes has room in the stake's parts: so it writes no place of another's, nor past the 32.
use Rattle.std.specs.Prelude.{Option, Some, None, Result, Ok, Err}
use mathlib.Core.Path.{◌≡◌, refl, sym, ap, ◌∙◌}
use mathlib.Core.List.{List, [], map}
use Prim.Native.Nat.{ℕ, zero, suc, ◌*◌, ◌/◌, ◌≤◌, ◌<◌}
use native.Mathlib.Omega.{arith}
use lib.ListN.{length, take, drop, length-take, length-map, length-replicate}
use lib.Ieee.{Float}
use Rattle.basis.specs.Counts.{count_of}
use Rattle.basis.specs.declared.Basis.{Basis}
use Rattle.basis.specs.declared.Basis.TheVariants.{Curve}
use Rattle.basis.specs.declared.Degree.{Degree}
use Rattle.value.specs.Numbers.{zero_f}
use Rattle.statistics.specs.Degrees.{max_degree}
use Rattle.statistics.specs.declared.Confidence.{Confidence}
use Rattle.statistics.specs.declared.DegreeBound.{DegreeBound}
use Rattle.statistics.specs.declared.Tolerance.{Tolerance}
use Rattle.score.specs.declared.Criterion.{Criterion}
use Rattle.loops.specs.Cases.{choose}
use Rattle.loops.specs.Places.{table}
use Rattle.loops.specs.PlaceLaws.{length_table}
use Rattle.samples.specs.declared.Sample.{Sample}
use Rattle.samples.specs.Columns.{lengths, samples_of}
use Rattle.samples.specs.ColumnLaws.{length_samples}
use Rattle.monomial.specs.Rows.{Row, WeightedRow, row_of, rows_of}
use Rattle.solve.specs.Solve.{solve}
use Rattle.fit.specs.Solved.{is_solved}
use Rattle.covariance.specs.Covariance.{errors_of}
use Rattle.lent.specs.Written.{zeros}
use Rattle.settings.specs.declared.Settings.{Settings}
use Rattle.refusal.specs.declared.refusals.Refusal.{Refusal}
use Rattle.refusal.specs.Refusals.{settle}
use Rattle.book.specs.Calls.{State}
use Rattle.measure.specs.Measures.{inverse_fails, covariance_at}
use Rattle.measure.specs.Fits.{FitOut, fit_refused, fit_past}
use Rattle.measure.specs.Bands.{BandOut, band_refused, band_past}
use Rattle.query.specs.Refusals.{fit_refusal, validate_refusal, band_refusal}
use Rattle.query.specs.RefusalLaws.{fit_room, validate_room, band_room}
use Rattle.query.specs.Fits.{fit_on, validate_past, validate_on}
use Rattle.query.specs.Bands.{band_for}
use Rattle.reporting.specs.declared.Places.{Places}
use Rattle.reporting.specs.Chosen.{of_chosen}
use Rattle.reporting.specs.Outputs.{Outputs, places_of}
use Rattle.reporting.specs.Reports.{ReportOut, refused_early, refused_late, written_by, report_of}
use Rattle.report.specs.Refusals.{report_refusal}
use Rattle.report.specs.RefusalLaws.{report_room}
use Rattle.report.specs.Rooms.{ReportRoom}
use Rattle.report.specs.Reports.{report_choice, report_past, report_on}
use Rattle.losses.specs.Refusals.{loss_refusal}
use Rattle.losses.specs.RefusalLaws.{loss_room}
use Rattle.losses.specs.Losses.{LossOut, loss_refused, loss_late, losses_by, loss_of, loss_past, loss_on}
use Rattle.scores.specs.Refusals.{scores_refusal}
use Rattle.scores.specs.RefusalLaws.{scores_room}
use Rattle.scores.specs.Scores.{ScoresOut, scores_refused, scores_late, scores_by, scores_of, scores_past, scores_on}
use Rattle.split.specs.declared.Places.{Places as SplitPlaces}
use Rattle.split.specs.declared.Best.{Best}
use Rattle.split.specs.Refusals.{split_refusal, searched}
use Rattle.split.specs.Search.{best_break, search_tests}
use Rattle.split.specs.RefusalLaws.{split_room}
use Rattle.split.specs.Splits.{SplitOut, split_refused, split_at, split_by, split_past, split_on}
use Rattle.stakes.specs.Parts.{stakes, part_of, over_part}
use Rattle.stakes.specs.PartLaws.{length_over, over_other, over_rest}
use Rattle.stakes.specs.Season.{SeasonState, stake_state, stake_refusal, read_stake}
use Rattle.stakes.specs.SeasonLaws.{stake_below, none_over}
use Rattle.season_query.specs.Reads.{fit_from, validate_from, band_from, loss_from, scores_from, split_from}
use Rattle.season_report.specs.Reports.{parts_of, over_parts, stake_report_out, report_from}
use Rattle.seasons.specs.Claims.{rest, seen_of, ReadsLeave, ReadsLeaveOthers, ReadsLeaveRest}

-- ---- lengths

-- by the refusal's number
either_way : {O : Type 0} (P : O → Type 0) (k : ℕ) (good bad : O) → (k ≡ 0 → P good) → P bad → P (settle k good bad)
either_way P zero good bad f g = f refl
either_way P (suc k) good bad f g = g

-- by the chosen degree
any_chosen : {O : Type 0} (P : O → Type 0) (basis : Basis) (sums : List Float) (late : ℕ → O) (told : Degree → O) → ((k : ℕ) → P (late k)) → ((d : Degree) → P (told d))
    → (o : Option Degree) → P (of_chosen basis sums late told o)
any_chosen P basis sums late told f g None = f 11
any_chosen P basis sums late told f g (Some d) = choose P (inverse_fails sums (count_of basis d.0)) (late 12) (told d) (λ e. f 12) (λ e. g d)

-- n zeros where there is room for n; at most 16 terms
zeros_fit : (n m : ℕ) → n ≤ m → length (zeros n) ≤ m
zeros_fit n m h = omega (arith, length-replicate n zero_f, h)

terms_fit : (l : List Float) (m : ℕ) → 16 ≤ m → length (take 16 l) ≤ m
terms_fit l m h = rw length-take (omega arith)

table_fits : {A : Type 0} (f : ℕ → A) (m : ℕ) → 16 ≤ m → length (table f 16) ≤ m
table_fits f m h = omega (arith, length_table f 16, h)

none_fit : (m : ℕ) → 0 ≤ m
none_fit m = omega arith

module _ (n : ℕ) (samples : List Sample) (sums : List Float) (columns : List ℕ) (places scratch : ℕ) where
  abbrev FitFits : ℕ → FitOut → Type 0
  FitFits c o = (length o.scratch ≤ scratch) × (length o.coefficients ≤ c)

  past_fits : (d : ℕ) (rows : List Row) (c : ℕ) → n ≤ scratch → 16 ≤ c → FitFits c (fit_past Curve n d rows sums)
  unfolding fit_past
  past_fits d rows c h m =
      choose (FitFits c) (is_solved sums rows (count_of Curve d)) _ _ (λ e. (zeros_fit n scratch h, terms_fit (solve sums (count_of Curve d)).c c m)) (λ e. (zeros_fit n scratch h, none_fit c))

  pub fit_fits : (d c : ℕ) → FitFits c (fit_on n d samples sums columns places scratch c)
  unfolding fit_on
  fit_fits d c =
      either_way (FitFits c) (fit_refusal n d samples columns places scratch c) _ _
      (λ z.
      let r = (fit_room n samples columns places scratch d c z).0 in
      past_fits d (rows_of samples) c r.enough.1.0 r.enough.1.1.0)
      (none_fit scratch, none_fit c)

  validated_fits : (o : Option Degree) (rows : List Row) (c : ℕ) → n ≤ scratch → 16 ≤ c → FitFits c (validate_past n o rows sums)
  unfolding validate_past
  validated_fits None rows c h m = (zeros_fit n scratch h, none_fit c)
  validated_fits (Some d) rows c h m = past_fits d.0 rows c h m

  pub validate_fits : (folds : ℕ) (bound : DegreeBound) (criterion : Criterion) (c : ℕ)
      → FitFits c (validate_on n folds bound criterion samples sums columns places scratch c)
  unfolding validate_on
  validate_fits folds bound criterion c =
      either_way (FitFits c) (validate_refusal n folds bound samples columns places scratch c) _ _
      (λ z.
      let r = (validate_room n samples columns places scratch folds bound c z).0 in
      validated_fits _ (rows_of samples) c r.enough.1.0 r.enough.1.1.0)
      (none_fit scratch, none_fit c)

  pub band_fits : (x : Float) (d : ℕ) (confidence : Confidence) (tolerance : Tolerance)
      → length (band_for n x d confidence tolerance samples sums columns places scratch).scratch ≤ scratch
  unfolding band_for band_past
  band_fits x d confidence tolerance =
      either_way (λ (o : BandOut). length o.scratch ≤ scratch) (band_refusal n x d confidence tolerance samples columns places scratch) _ _
      (λ z. zeros_fit n scratch (band_room n samples columns places scratch x d confidence tolerance z).0.enough.1.0)
      (none_fit scratch)

  pub loss_fits : (settings : Settings) (l : ℕ) → length (loss_on n settings samples sums columns places scratch l).scratch ≤ scratch
  unfolding loss_on loss_past loss_of losses_by
  loss_fits settings l =
      either_way (λ (o : LossOut). length o.scratch ≤ scratch) (loss_refusal n settings samples columns places scratch l) _ _
      (λ z.
      let h = zeros_fit n scratch (loss_room n settings samples columns places scratch l z).0.enough.1.0 in
      any_chosen (λ (o : LossOut). length o.scratch ≤ scratch) Curve sums (loss_late n) (λ d. losses_by n settings (rows_of samples) sums d.0) (λ k. h) (λ d. h)
      (report_choice n settings (rows_of samples) sums).chosen)
      (none_fit scratch)

  pub scores_fits : (settings : Settings) (d l : ℕ) → length (scores_on n settings samples sums columns places scratch d l).scratch ≤ scratch
  unfolding scores_on scores_past scores_of scores_by
  scores_fits settings d l =
      either_way (λ (o : ScoresOut). length o.scratch ≤ scratch) (scores_refusal n settings samples columns places scratch d l) _ _
      (λ z.
      let h = zeros_fit n scratch (scores_room n settings samples columns places scratch d l z).0.enough.1.0 in
      any_chosen (λ (o : ScoresOut). length o.scratch ≤ scratch) Curve sums (scores_late n)
      (scores_by n (max_degree settings.bound n) (report_choice n settings (rows_of samples) sums)) (λ k. h) (λ e. h)
      (report_choice n settings (rows_of samples) sums).chosen)
      (none_fit scratch)

searched_fits : (n : ℕ) (bound : DegreeBound) (criterion : Criterion) (limit : ℕ) (rows : List WeightedRow) (m : ℕ) → n ≤ m
    → length (split_past n bound criterion limit rows).scratch ≤ m
unfolding split_past split_at
searched_fits n bound criterion limit rows m h = go (searched limit (search_tests bound criterion rows) (best_break bound criterion rows))
  where
    go : (found : Result Best Refusal) → length (split_by n (search_tests bound criterion rows) rows found).scratch ≤ m
    go (Ok best) = zeros_fit n m h
    go (Err e) = zeros_fit n m h

split_fits : (n : ℕ) (settings : Settings) (limit : ℕ) (samples : List Sample) (columns : List ℕ) (sums : ℕ) (places : SplitPlaces)
    → length (split_on n settings limit samples columns sums places).scratch ≤ places.scratch
unfolding split_on
split_fits n settings limit samples columns sums places =
    either_way (λ (o : SplitOut). length o.scratch ≤ places.scratch) (split_refusal n settings samples columns sums places) _ _
    (λ z. searched_fits n _ _ limit _ places.scratch (split_room n settings samples columns sums places z).room.enough.1.0)
    (none_fit places.scratch)

-- ---- a report

pub record Fits (v : Outputs) (p : Places) : Type 0 where
  pub scratch : length v.scratch ≤ p.scratch
  pub coefficients : length v.coefficients ≤ p.coefficients
  pub errors : length v.errors ≤ p.errors
  pub pruned : length v.pruned ≤ p.pruned
  pub lower : length v.lower ≤ p.lower
  pub upper : length v.upper ≤ p.upper
  pub outliers : length v.outliers ≤ p.outliers

none_fits : (p : Places) (r : ℕ) → Fits (refused_early r).written p
none_fits p r =
    record {
      scratch = none_fit _;
      coefficients = none_fit _;
      errors = none_fit _;
      pruned = none_fit _;
      lower = none_fit _;
      upper = none_fit _;
      outliers = none_fit _;
    }

module _ (n : ℕ) (settings : Settings) (samples : List Sample) (sums : List Float) (columns : List ℕ) (places : ℕ) (p : Places) (long : length samples ≡ n) where
  late_fits : ReportRoom n settings columns places p → (k : ℕ) → Fits (refused_late n k).written p
  late_fits r k =
      record {
        scratch = zeros_fit n p.scratch r.room.enough.1.0;
        coefficients = none_fit _;
        errors = none_fit _;
        pruned = none_fit _;
        lower = none_fit _;
        upper = none_fit _;
        outliers = none_fit _;
      }

  rows_fit : {B : Type 0} (f : Row → B) (m : ℕ) → n ≤ m → length (map f (rows_of samples)) ≤ m
  rows_fit f m h = omega (arith, length-map (rows_of samples) f, length-map samples row_of, long, h)

  written_fits : ReportRoom n settings columns places p → (d solved : ℕ) (c v : List Float) → Fits (written_by Curve n settings (rows_of samples) d solved c v).written p
  unfolding written_by
  written_fits r d solved c v =
      let e = r.room.enough.1 in
      record {
        scratch = zeros_fit n p.scratch e.0;
        coefficients = terms_fit c _ e.1.0;
        errors = terms_fit (errors_of (count_of Curve d) v) _ e.1.1.0;
        pruned = table_fits _ _ e.1.1.1.0;
        lower = rows_fit _ _ e.1.1.1.1.0;
        upper = rows_fit _ _ e.1.1.1.1.1.0;
        outliers = rows_fit _ _ e.1.1.1.1.1.1.0;
      }

  pub report_fits : Fits (report_on n settings samples sums columns places p).written p
  unfolding report_on report_past report_of
  report_fits =
      either_way (λ (o : ReportOut). Fits o.written p) (report_refusal n settings samples columns places p) _ _
      (λ z.
      let r = report_room n settings samples columns places p z in
      let rows = rows_of samples in
      let choice = report_choice n settings rows sums in
      any_chosen (λ (o : ReportOut). Fits o.written p) Curve sums (refused_late n)
      (λ d.
      let k = count_of Curve d.0 in
      written_by Curve n settings rows d.0 choice.solved (solve sums k).c (covariance_at sums rows k))
      (late_fits r)
      (λ d.
      let k = count_of Curve d.0 in
      written_fits r d.0 choice.solved (solve sums k).c (covariance_at sums rows k))
      choice.chosen)
      (none_fits p (report_refusal n settings samples columns places p))

-- of a stake's report, refused or not
pub stake_fits : (settings : Settings) (s : ℕ) (S : SeasonState) (w : Outputs) → Fits (stake_report_out settings s S w).written (places_of (parts_of s w))
unfolding read_stake
stake_fits settings s S w =
    let b = stake_state s S in
    let p = places_of (parts_of s w) in
    let r = stake_refusal s (length S.counts) in
    either_way (λ (o : ReportOut). Fits o.written p) r (report_from settings b (parts_of s w)) (refused_early r)
    (λ z.
    report_fits b.count settings (samples_of b.count b.columns) (take 272 b.sums) (lengths b.columns) (length b.sums) p
    (length_samples b.count b.columns))
    (none_fits p r)

-- ---- what is seen of a memory where no written place lies

module _ (seen : (A : Type 0) → List A → List A) (s : ℕ) (S : SeasonState)
    (stands : (A : Type 0) (l v : List A) → s < stakes → length v ≤ length (part_of s l) → seen A (over_part s v l) ≡ seen A l) where
  -- one written list f of what a call makes
  untouched : {A O : Type 0} (f : O → List A) (l : List A) (call : State → O) (refused : ℕ → O)
      → length (f (call (stake_state s S))) ≤ length (part_of s l) → ((r : ℕ) → f (refused r) ≡ []) → seen A (over_part s (f (read_stake s S call refused)) l) ≡ seen A l
  unfolding read_stake
  untouched {A} {O} f l call refused fit none = go (stake_refusal s (length S.counts)) refl
    where
      go : (r : ℕ) → stake_refusal s (length S.counts) ≡ r → seen A (over_part s (f (settle r (call (stake_state s S)) (refused r))) l) ≡ seen A l
      go zero z = stands A l (f (call (stake_state s S))) (stake_below s (length S.counts) z) fit
      go (suc r) z = ap (λ (v : List A). seen A (over_part s v l)) (none (suc r)) ∙ ap (seen A) (sym (none_over s l))

  report_own : (settings : Settings) (w : Outputs) → seen_of seen (over_parts s (stake_report_out settings s S w).written w) ≡ seen_of seen w
  report_own settings w =
      let b = stake_state s S in
      let call : State → ReportOut = λ c. report_from settings c (parts_of s w) in
      let fits = report_fits b.count settings (samples_of b.count b.columns) (take 272 b.sums) (lengths b.columns) (length b.sums) (places_of (parts_of s w))
      (length_samples b.count b.columns) in
      λ j. record {
        scratch = untouched (λ (o : ReportOut). o.written.scratch) w.scratch call refused_early fits.scratch (λ r. refl) j;
        coefficients = untouched (λ (o : ReportOut). o.written.coefficients) w.coefficients call refused_early fits.coefficients (λ r. refl) j;
        errors = untouched (λ (o : ReportOut). o.written.errors) w.errors call refused_early fits.errors (λ r. refl) j;
        pruned = untouched (λ (o : ReportOut). o.written.pruned) w.pruned call refused_early fits.pruned (λ r. refl) j;
        lower = untouched (λ (o : ReportOut). o.written.lower) w.lower call refused_early fits.lower (λ r. refl) j;
        upper = untouched (λ (o : ReportOut). o.written.upper) w.upper call refused_early fits.upper (λ r. refl) j;
        outliers = untouched (λ (o : ReportOut). o.written.outliers) w.outliers call refused_early fits.outliers (λ r. refl) j;
      }

  reads_leave : ReadsLeave seen s S
  reads_leave =
      let b = stake_state s S in
      let n = b.count in
      let ps = samples_of n b.columns in
      let sums = take 272 b.sums in
      let columns = lengths b.columns in
      let places = length b.sums in
      record {
        report = report_own;
        fit = λ d l c.
            let k = fit_fits n ps sums columns places (length (part_of s l)) d (length (part_of s c)) in
            let call : State → FitOut = λ a. fit_from d a (part_of s l) (part_of s c) in (
              untouched (λ (o : FitOut). o.scratch) l call fit_refused k.0 (λ r. refl),
              untouched (λ (o : FitOut). o.coefficients) c call fit_refused k.1 (λ r. refl),
            );
        validate = λ folds bound criterion l c.
            let k = validate_fits n ps sums columns places (length (part_of s l)) folds bound criterion (length (part_of s c)) in
            let call : State → FitOut = λ a. validate_from folds bound criterion a (part_of s l) (part_of s c) in (
              untouched (λ (o : FitOut). o.scratch) l call fit_refused k.0 (λ r. refl),
              untouched (λ (o : FitOut). o.coefficients) c call fit_refused k.1 (λ r. refl),
            );
        band = λ x d confidence tolerance l.
            untouched (λ (o : BandOut). o.scratch) l (λ a. band_from x d confidence tolerance a (part_of s l)) band_refused
            (band_fits n ps sums columns places (length (part_of s l)) x d confidence tolerance) (λ r. refl);
        losses = λ settings d l.
            untouched (λ (o : LossOut). o.scratch) l (λ a. loss_from settings d a (part_of s l)) loss_refused
            (loss_fits n ps sums columns places (length (part_of s l)) settings (length d)) (λ r. refl);
        scores = λ settings e d l.
            untouched (λ (o : ScoresOut). o.scratch) l (λ a. scores_from settings e d a (part_of s l)) scores_refused
            (scores_fits n ps sums columns places (length (part_of s l)) settings (length e) (length d)) (λ r. refl);
        split = λ settings limit f g l.
            untouched (λ (o : SplitOut). o.scratch) l (λ a. split_from settings limit f g a (part_of s l)) (λ r. split_refused r [])
            (split_fits n settings limit ps columns places (record { scratch = length (part_of s l); before = length f; after = length g })) (λ r. refl);
      }

-- another stake's part
pub reads_leave_others : ReadsLeaveOthers
reads_leave_others s t S h ne = reads_leave (λ A l. part_of t l) s S (λ A l v own fit. over_other s l own v fit t h ne)

-- what is past the 32 parts
pub rest_over : {A : Type 0} (s : ℕ) (l v : List A) → s < stakes → length v ≤ length (part_of s l) → rest (over_part s v l) ≡ rest l
rest_over s l v h fit = ap (λ (n : ℕ). drop (stakes * (n / stakes)) (over_part s v l)) (length_over s l h v fit) ∙ over_rest s l h v fit

pub reads_leave_rest : ReadsLeaveRest
reads_leave_rest s S = reads_leave (λ A l. rest l) s S (λ A l v own fit. rest_over s l v own fit)

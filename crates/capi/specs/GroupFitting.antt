-- What a group's calls answer fits its fields, as that of the same call without a group does, and reading it gives the answer back.
use Rattle.std.specs.Prelude.{◌≡◌, Bool, true, false, cond, List, [], ◌∷◌, ltb, Float, take, Ok, Err}
use Rattle.std.proofs.Math.Path.{refl}
use Rattle.std.proofs.Common.{◌∙◌}
use Prim.Native.Nat.{ℕ, zero, suc}
use native.Mathlib.Omega.{arith}
use Rattle.std.proofs.Math.ListN.{length, length-map}
use Rattle.refusal.specs.Named.{number}
use Rattle.loops.specs.Cases.{or_false}
use Rattle.basis.specs.declared.Basis.{Basis}
use Rattle.basis.specs.declared.Basis.TheVariants.{Curve, Surface}
use Rattle.statistics.specs.Degrees.{max_degree}
use Rattle.samples.specs.declared.Sample.{Sample}
use Rattle.samples.specs.Columns.{Columns, samples_of, lengths}
use Rattle.samples.specs.ColumnLaws.{length_samples}
use Rattle.monomial.specs.Rows.{Row, row_of, rows_of, weighted_of, weighted_rows}
use Rattle.fit.specs.declared.Choice.{Choice}
use Rattle.refusal.specs.Refusals.{Test, by, first_of}
use Rattle.refusal.specs.Laws.{first_none}
use Rattle.refusal.specs.NamedLaws.{number_fits}
use Rattle.refusal.specs.Named.{named}
use Rattle.settings.specs.declared.Settings.{Settings}
use Rattle.reporting.specs.declared.Places.{Places}
use Rattle.reporting.specs.Limited.{Limited, limited_of}
use Rattle.reporting.specs.Reports.{ReportOut, refused_early, refused_late, report_of}
use Rattle.report.specs.Limited.{within_past}
use Rattle.report.specs.Refusals.{report_refusal}
use Rattle.report.specs.RefusalLaws.{report_room}
use Rattle.report.specs.Reports.{report_choice}
use Rattle.surface.specs.Limited.{surface_within_past}
use Rattle.surface.specs.Points.{Point, PointColumns, point_lengths, points_of, row_of_point, rows_of_points, surface_sums}
use Rattle.surface.specs.PointLaws.{length_points}
use Rattle.surface.specs.Refusals.{surface_report_refusal}
use Rattle.surface.specs.RefusalLaws.{surface_report_room}
use Rattle.surface.specs.Surfaces.{last_tried}
use Rattle.surface.specs.TriedLaws.{last_within, surface_choice_is}
use Rattle.split.specs.declared.Places.{Places as SplitPlaces}
use Rattle.split.specs.Refusals.{split_refusal}
use Rattle.split.specs.RefusalLaws.{split_room}
use Rattle.split.specs.Splits.{SplitOut, split_refused}
use Rattle.allowance.specs.Table.{TableAnswer, table_places, counter_of, start_out, renew_out}
use Rattle.allowance.specs.Refusals.{with_group, group_report_refusal, group_surface_refusal, group_split_refusal}
use Rattle.allowance.specs.Charges.{Charged, charged, group_report_on, group_surface_on, group_split_on}
use Rattle.capi.specs.Packed.{packed_report, packed_split, packed_table, ReportFits, SplitFits, charged_into, group_report_out, group_surface_out, group_split_out}
use Rattle.capi.specs.Fitting.{chosen_fits}
use Rattle.capi.specs.SplitFitting.{past_fits as split-past-fits, split_read}
use Rattle.capi.specs.Reading.{ReportRead, SplitRead, TableRead}
use Rattle.capi.specs.ReadingLaws.{refusal_read, report_read}

-- ---- a call that its group's tests let through is let through by its own

falls : (short : Bool) (later : List Test) → short ≡ false → first_of later ≡ 0 → first_of (by short 1 ∷ later) ≡ 0
unfolding first_of
falls short later q e = rw q e

passed : (group table : ℕ) (short : Bool) (later : List Test) → first_of (with_group group table (by short 1 ∷ later)) ≡ 0 → first_of (by short 1 ∷ later) ≡ 0
passed group table short later e =
    let p1 = first_none _ 0 _ e in
    let p17 = first_none _ 16 _ p1.1 in
    falls short later (or_false (ltb table table_places) short p1.0).1 p17.1

module _ (group table n : ℕ) (settings : Settings) (columns : List ℕ) where
  report_passed : (samples : List Sample) (sums : ℕ) (places : Places) → group_report_refusal group table n settings samples columns sums places ≡ 0
      → report_refusal n settings samples columns sums places ≡ 0
  unfolding group_report_refusal report_refusal
  report_passed samples sums places e = passed group table _ _ e

  surface_passed : (points : List Point) (places : Places) → group_surface_refusal group table n settings points columns places ≡ 0
      → surface_report_refusal n points columns settings places ≡ 0
  unfolding group_surface_refusal surface_report_refusal
  surface_passed points places e = passed group table _ _ e

  split_passed : (samples : List Sample) (sums : ℕ) (places : SplitPlaces) → group_split_refusal group table n settings samples columns sums places ≡ 0
      → split_refusal n settings samples columns sums places ≡ 0
  unfolding group_split_refusal split_refusal
  split_passed samples sums places e = passed group table _ _ e

-- ---- what they answer fits

-- within a limit it is 16, or the report
limited_fits : (basis : Basis) (n : ℕ) (settings : Settings) (limit : ℕ) (rows : List Row) (sums : List Float) (choice : Choice)
    → ReportFits (report_of basis n settings rows sums choice.solved choice.chosen).answer
    → ReportFits (limited_of basis n settings limit rows sums choice).does.answer
unfolding limited_of ReportFits
limited_fits basis n settings limit rows sums choice h = go (ltb limit choice.tests)
  where
    go : (t : Bool)
        → ReportFits (cond {A = Limited} t (record { does = refused_late n 16; taken = 0 }) (record { does = report_of basis n settings rows sums choice.solved choice.chosen; taken = choice.tests })).does.answer
    go true = (omega arith, omega arith)
    go false = h

module _ (group : ℕ) (table : List ℕ) where
  report_charges : (k : ℕ) (past : ReportOut) (taken : ℕ) → (k ≡ 0 → ReportFits past.answer)
      → ReportFits (charged group table k (refused_early k) past taken).does.answer
  unfolding ReportFits
  report_charges zero past taken g = g refl
  report_charges (suc k) past taken g = number_fits (named (suc k))

  split_charges : (k : ℕ) (past : SplitOut) (taken : ℕ) → (k ≡ 0 → SplitFits past.answer)
      → SplitFits (charged group table k (split_refused k []) past taken).does.answer
  unfolding SplitFits
  split_charges zero past taken g = g refl
  split_charges (suc k) past taken g = number_fits (named (suc k))

  pub group_report_fits : (n : ℕ) (settings : Settings) (columns : Columns) (sums : List Float) (places : Places)
      → ReportFits (group_report_out group table n settings columns sums places).does.answer
  unfolding group_report_on within_past report_choice
  group_report_fits n settings columns sums places =
      let samples = samples_of n columns in
      report_charges (group_report_refusal group (length table) n settings samples (lengths columns) (length sums) places) _ _
      (λ e.
      let w = report_room n settings samples (lengths columns) (length sums) places (report_passed group (length table) n settings (lengths columns) samples (length sums) places e) in
      limited_fits Curve n settings (counter_of table group) (rows_of samples) (take 272 sums) _
      (chosen_fits Curve n settings (rows_of samples) (take 272 sums) (max_degree settings.bound n)
      (omega (arith, w.room.most, length_samples n columns, length-map samples row_of)) w.most _ refl))

  pub group_surface_fits : (n : ℕ) (settings : Settings) (columns : PointColumns) (places : Places)
      → ReportFits (group_surface_out group table n settings columns places).does.answer
  unfolding group_surface_on surface_within_past
  group_surface_fits n settings columns places =
      let points = points_of n columns in
      let bound = max_degree settings.bound n in
      report_charges (group_surface_refusal group (length table) n settings points (point_lengths columns) places) _ _
      (λ e.
      let w = surface_report_room n points (point_lengths columns) settings places (surface_passed group (length table) n settings (point_lengths columns) points places e) in
      rw (surface_choice_is n settings (rows_of_points points) (surface_sums points) w.1.0)
      (limited_fits Surface n settings (counter_of table group) (rows_of_points points) (surface_sums points) _
      (chosen_fits Surface n settings (rows_of_points points) (surface_sums points) (last_tried n bound)
      (omega (arith, w.0.most, length_points n columns, length-map points row_of_point)) (omega (arith, w.1.1, last_within n bound w.1.0)) _ refl)))

  pub group_split_fits : (n : ℕ) (settings : Settings) (columns : Columns) (sums : ℕ) (places : SplitPlaces)
      → SplitFits (group_split_out group table n settings columns sums places).does.answer
  unfolding group_split_on
  group_split_fits n settings columns sums places =
      let samples = samples_of n columns in
      let long : length (weighted_rows samples) ≡ n = length-map samples weighted_of ∙ length_samples n columns in
      split_charges (group_split_refusal group (length table) n settings samples (lengths columns) sums places) _ _
      (λ e.
      let w = split_room n settings samples (lengths columns) sums places (split_passed group (length table) n settings (lengths columns) samples sums places e) in
      split-past-fits n settings (counter_of table group) (weighted_rows samples) (omega (arith, long, w.four)) (omega (arith, long, w.room.most)) (rw long w.most))

charged_into_lem : (places : ℕ) (table : List ℕ) (o : Charged SplitOut) → SplitFits o.does.answer → SplitFits (charged_into places table o).does.answer
unfolding charged_into SplitFits
charged_into_lem places table o h = go (ltb places 1)
  where
    go : (t : Bool) → SplitFits (cond {A = Charged SplitOut} t (record { does = split_refused 1 []; table = table }) o).does.answer
    go true = (omega arith, omega arith)
    go false = h

-- ---- so the packed answer is read as the answer

table_read : (a : TableAnswer) → TableRead (packed_table a) a
unfolding TableRead packed_table
table_read (Ok tt) = refl
table_read (Err k) = refusal_read (number k)

pub start_back : (quota : ℕ) (table : List ℕ) → (let a = (start_out quota table).answer in TableRead (packed_table a) a)
start_back quota table = table_read _

pub renew_back : (table : List ℕ) → (let a = (renew_out table).answer in TableRead (packed_table a) a)
renew_back table = table_read _

module _ (group : ℕ) (table : List ℕ) (n : ℕ) (settings : Settings) where
  pub group_report_back : (columns : Columns) (sums : List Float) (places : Places)
      → (let a = (group_report_out group table n settings columns sums places).does.answer in ReportRead (packed_report a) a)
  group_report_back columns sums places = report_read _ (group_report_fits group table n settings columns sums places)

  pub group_surface_back : (columns : PointColumns) (places : Places)
      → (let a = (group_surface_out group table n settings columns places).does.answer in ReportRead (packed_report a) a)
  group_surface_back columns places = report_read _ (group_surface_fits group table n settings columns places)

  pub group_split_back : (columns : Columns) (sums : ℕ) (places : SplitPlaces) (into : ℕ)
      → (let a = (charged_into into table (group_split_out group table n settings columns sums places)).does.answer in SplitRead (packed_split a) a)
  group_split_back columns sums places into = split_read _ (charged_into_lem into table _ (group_split_fits group table n settings columns sums places))

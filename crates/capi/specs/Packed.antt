-- How the C interface packs an answer into one number of 64 bits, and what each of its calls promises. Definitions only.
use Rattle.std.specs.Prelude.{◌≡◌, true, false, cond, List, [], ◌∷◌, ℕ, ◌+◌, ◌*◌, ◌≤◌, ◌<◌, ltb, Float, length, take, Option, Some, None, Ok, Err}
use Rattle.refusal.specs.Named.{number}
use Rattle.refusal.specs.Refusals.{most_number}
use Rattle.basis.specs.Sizes.{max_samples, max_terms, sum_places}
use Rattle.frame.specs.Handed.{Read, Opened}
use Rattle.book.specs.Calls.{Answer, Out}
use Rattle.two_column.specs.Pairs.{Columns as PairColumns}
use Rattle.two_column.specs.Calls.{Out as PairOut}
use Rattle.measure.specs.Fits.{FitAnswer, FitOut, FitIs}
use Rattle.measure.specs.Bands.{BandAnswer, BandOut, BandIs, band_refused}
use Rattle.reporting.specs.declared.Places.{Places}
use Rattle.reporting.specs.Reports.{ReportAnswer, ReportOut, Does}
use Rattle.report.specs.Reports.{report_out}
use Rattle.reporting.specs.Outputs.{LentOutputs, places_of}
use Rattle.surface.specs.Points.{PointColumns, points_of, point_lengths}
use Rattle.surface.specs.Surfaces.{surface_report_out}
use Rattle.split.specs.declared.Places.{Places as SplitPlaces}
use Rattle.split.specs.Rooms.{most_tests}
use Rattle.split.specs.Splits.{SplitAnswer, SplitOut, LentSplit, split_refused, split_out, places_of as split_places, Does as SplitDoes}
use Rattle.allowance.specs.Table.{TableAnswer, TableOut}
use Rattle.allowance.specs.Charges.{Charged, group_report_on, group_surface_on, group_split_on}
use Rattle.losses.specs.Losses.{LossAnswer, LossOut, LossIs, loss_refused}
use Rattle.scores.specs.Scores.{ScoresAnswer, ScoresOut, ScoresIs, scores_refused}
use Rattle.settings.specs.declared.Settings.{Settings}
use Rattle.book.specs.declared.Book.{Book}
use Rattle.replay.specs.Records.{calls_of, well_formed}
use Rattle.replay.specs.Replay.{LentMemory, buffers_in, Ran}
use Rattle.lent.specs.Slices.{Slice, before, after, contents}
use Rattle.lent.specs.Written.{over}
use Rattle.samples.specs.Columns.{Columns, samples_of, lengths}

-- ---- packed answers

-- a refusal's number, in the top byte: bits 56 to 63
abbrev pub packed_refusal : ℕ → ℕ
packed_refusal number = number * 0x100_0000_0000_0000

-- a book: its count
unfoldable pub packed_book : Answer → ℕ
packed_book (Ok b) = b.count
packed_book (Err r) = packed_refusal (number r)

-- a fit or a validation: its degree
unfoldable pub packed_fit : FitAnswer → ℕ
packed_fit (Ok d) = d.0
packed_fit (Err r) = packed_refusal (number r)

-- four numbers: in bits 0 to 7, 8 to 15, 16 to 31 and 32 to 55
abbrev pub packed_fields : ℕ → ℕ → ℕ → ℕ → ℕ
packed_fields a b c d = a + b * 0x100 + c * 0x1_0000 + d * 0x1_0000_0000

-- a report: the degree, the solved degrees, the pruned terms, the outliers
unfoldable pub packed_report : ReportAnswer → ℕ
packed_report (Ok r) = packed_fields r.degree.0 r.solved r.pruned r.outliers
packed_report (Err r) = packed_refusal (number r)

-- a band: 0, its three numbers are written
unfoldable pub packed_band : BandAnswer → ℕ
packed_band (Ok b) = 0
packed_band (Err r) = packed_refusal (number r)

-- value, lower and upper; a refused call writes none
unfoldable pub band_numbers : BandAnswer → List Float
band_numbers (Ok b) = b.value ∷ b.lower ∷ b.upper ∷ []
band_numbers (Err r) = []

-- a band into so many places: 1 judges them with the other lengths, before all else
unfoldable pub band_into : ℕ → BandOut → BandOut
band_into places o = cond (ltb places 3) (band_refused 1) o

-- a split: the degree before the break, the one after it, the number of samples before it, the pivot tests
unfoldable pub packed_split : SplitAnswer → ℕ
packed_split (Ok r) = packed_fields r.before.0 r.after.0 r.at r.tests
packed_split (Err r) = packed_refusal (number r)

-- its total; a refused call writes none
unfoldable pub split_total : SplitAnswer → List Float
split_total (Ok r) = r.total ∷ []
split_total (Err r) = []

-- a split whose total has so many places: 1 judges them with the other lengths, before all else
unfoldable pub split_into : ℕ → SplitOut → SplitOut
split_into places o = cond (ltb places 1) (split_refused 1 []) o

-- the same of a group's split, refused before the table is touched
unfoldable pub charged_into : ℕ → List ℕ → Charged SplitOut → Charged SplitOut
charged_into places table o = cond (ltb places 1) (record { does = split_refused 1 []; table = table }) o

-- a table that was started or renewed: 0
unfoldable pub packed_table : TableAnswer → ℕ
packed_table (Ok tt) = 0
packed_table (Err r) = packed_refusal (number r)

-- the losses: the degree, as a fit's; total and score are written
unfoldable pub packed_losses : LossAnswer → ℕ
packed_losses (Ok r) = r.degree.0
packed_losses (Err r) = packed_refusal (number r)

-- the total and the score; a refused call writes none
unfoldable pub loss_numbers : LossAnswer → List Float
loss_numbers (Ok r) = r.total ∷ r.score ∷ []
loss_numbers (Err r) = []

-- the losses, their numbers into so many places: 1 judges them with the other lengths, before all else
unfoldable pub loss_into : ℕ → LossOut → LossOut
loss_into places o = cond (ltb places 2) (loss_refused 1) o

-- the scores: the chosen degree, the solved degrees, the bound, the pivot tests
unfoldable pub packed_scores : ScoresAnswer → ℕ
packed_scores (Ok r) = packed_fields r.degree.0 r.solved r.bound.0 r.tests
packed_scores (Err r) = packed_refusal (number r)

-- the least score; a refused call writes none
unfoldable pub least_number : ScoresAnswer → List Float
least_number (Ok r) = r.least ∷ []
least_number (Err r) = []

-- the scores, the least one into so many places: 1 judges them with the other lengths, before all else
unfoldable pub scores_into : ℕ → ScoresOut → ScoresOut
scores_into places o = cond (ltb places 1) (scores_refused 1) o

-- a reader: the offset of its next sample
unfoldable pub packed_opened : Opened → ℕ
packed_opened (Ok c) = c.at
packed_opened (Err r) = packed_refusal (number r)

-- what it finds: the offset behind the sample; 0, which is behind no sample, at the end
unfoldable pub packed_read : Read → ℕ
packed_read (Some p) = p.1.at
packed_read None = 0

-- x, y and the weight; at the end none is written
unfoldable pub read_numbers : Read → List Float
read_numbers (Some p) = p.0.x ∷ p.0.y ∷ p.0.w ∷ []
read_numbers None = []

-- a replay: the book's count; 255, which is no refusal's number, where the buffers hold no list of calls
abbrev pub packed_malformed : ℕ
packed_malformed = packed_refusal 255

unfoldable pub packed_replay : Option Book → ℕ
packed_replay (Some b) = b.count
packed_replay None = packed_malformed

-- ---- what fits its field: 01's numbers, and what the calls can answer

abbrev pub RefusalFits : ℕ → Type 0
RefusalFits k = (1 ≤ k) × (k ≤ most_number)

unfoldable pub BookFits : Answer → Type 0
BookFits (Ok b) = b.count ≤ max_samples
BookFits (Err r) = RefusalFits (number r)

unfoldable pub FitFits : FitAnswer → Type 0
FitFits (Ok d) = d.0 ≤ 15
FitFits (Err r) = RefusalFits (number r)

unfoldable pub BandFits : BandAnswer → Type 0
BandFits (Ok b) = Unit {0}
BandFits (Err r) = RefusalFits (number r)

unfoldable pub ReportFits : ReportAnswer → Type 0
ReportFits (Ok r) = (r.degree.0 ≤ 15) × (r.solved ≤ max_terms) × (r.outliers ≤ max_samples) × (r.pruned ≤ max_terms)
ReportFits (Err r) = RefusalFits (number r)

unfoldable pub SplitFits : SplitAnswer → Type 0
SplitFits (Ok r) = (r.before.0 ≤ 15) × (r.after.0 ≤ 15) × (r.at ≤ max_samples) × (r.tests ≤ most_tests)
SplitFits (Err r) = RefusalFits (number r)

unfoldable pub LossFits : LossAnswer → Type 0
LossFits (Ok r) = r.degree.0 ≤ 15
LossFits (Err r) = RefusalFits (number r)

-- 16 degrees have at most 1 + 2 + .. + 16 pivot tests
unfoldable pub ScoresFits : ScoresAnswer → Type 0
ScoresFits (Ok r) = (r.degree.0 ≤ 15) × (r.solved ≤ max_terms) × (r.bound.0 ≤ 15) × (r.tests ≤ 136)
ScoresFits (Err r) = RefusalFits (number r)

-- ---- what each call promises: the packed answer of the book's own call, and every lent list as that call leaves it

-- of a call that changes a book, with weights or without: a, c and s are its answer, the columns and the sums that it leaves
pub record ChangePacked {C : Type 0} (a : Answer) (c : C) (s : List Float) (r : ℕ) (left : C) (left_sums : List Float) : Type 0 where
  pub answer : r ≡ packed_book a
  pub columns : left ≡ c
  pub sums : left_sums ≡ s

abbrev pub BookPacked : Out → ℕ → Columns → List Float → Type 0
BookPacked o r columns sums = ChangePacked o.answer o.columns o.sums r columns sums

-- the same of a two-column book
abbrev pub PairPacked : PairOut → ℕ → PairColumns → List Float → Type 0
PairPacked o r columns sums = ChangePacked o.answer o.columns o.sums r columns sums

-- s and c: scratch and the coefficients
pub record FitPacked (o : FitOut) (r : ℕ) (s c : Slice Float) : Type 0 where
  pub answer : r ≡ packed_fit o.answer
  pub lent : FitIs o o.answer (contents s) (contents c)

-- s and v: scratch, and the lent places for the band's three numbers
pub record BandPacked (o : BandOut) (r : ℕ) (s v : Slice Float) : Type 0 where
  pub answer : r ≡ packed_band o.answer
  pub lent : BandIs o o.answer (contents s)
  pub numbers : after v ≡ over (band_numbers o.answer) (before v)

pub record ReportPacked (o : ReportOut) (r : ℕ) (w : LentOutputs) : Type 0 where
  pub answer : r ≡ packed_report o.answer
  pub lent : Does o o.answer w

-- of a report of these columns and sums
abbrev pub ReportPackedIs : ℕ → Settings → Columns → List Float → ℕ → LentOutputs → Type 0
ReportPackedIs n settings columns sums r w = ReportPacked (report_out n settings columns sums (places_of w.found)) r w

-- of a surface's report of these columns
abbrev pub SurfacePackedIs : ℕ → Settings → PointColumns → ℕ → LentOutputs → Type 0
SurfacePackedIs n settings columns r w = ReportPacked (surface_report_out n settings columns (places_of w.found)) r w

-- v: the lent place for the total
pub record SplitPacked (o : SplitOut) (r : ℕ) (w : LentSplit) (v : Slice Float) : Type 0 where
  pub answer : r ≡ packed_split o.answer
  pub lent : SplitDoes o o.answer w
  pub total : after v ≡ over (split_total o.answer) (before v)

-- of a split of these columns
abbrev pub SplitPackedIs : ℕ → Settings → ℕ → Columns → List Float → ℕ → LentSplit → Slice Float → Type 0
SplitPackedIs n settings limit columns sums r w v =
    SplitPacked (split_into (length (before v)) (split_out n settings limit columns (length sums) (split_places w))) r w v

-- t: the table
pub record TablePacked (o : TableOut) (r : ℕ) (t : Slice ℕ) : Type 0 where
  pub answer : r ≡ packed_table o.answer
  pub table : after t ≡ o.table

-- of a call that is charged to a group: o is what it does, and the table after it
pub record ReportChargedPacked (o : Charged ReportOut) (r : ℕ) (w : LentOutputs) (t : Slice ℕ) : Type 0 where
  pub does : ReportPacked o.does r w
  pub table : after t ≡ o.table

pub record SplitChargedPacked (o : Charged SplitOut) (r : ℕ) (w : LentSplit) (v : Slice Float) (t : Slice ℕ) : Type 0 where
  pub does : SplitPacked o.does r w v
  pub table : after t ≡ o.table

-- a report of these columns and sums, of a group and the table
abbrev pub group_report_out : ℕ → List ℕ → ℕ → Settings → Columns → List Float → Places → Charged ReportOut
group_report_out group table n settings columns sums places =
    group_report_on group table n settings (samples_of n columns) (take sum_places sums) (lengths columns) (length sums) places

abbrev pub GroupReportPackedIs : ℕ → ℕ → Settings → Columns → List Float → ℕ → LentOutputs → Slice ℕ → Type 0
GroupReportPackedIs group n settings columns sums r w t =
    ReportChargedPacked (group_report_out group (before t) n settings columns sums (places_of w.found)) r w t

-- of a surface's report
abbrev pub group_surface_out : ℕ → List ℕ → ℕ → Settings → PointColumns → Places → Charged ReportOut
group_surface_out group table n settings columns places = group_surface_on group table n settings (points_of n columns) (point_lengths columns) places

abbrev pub GroupSurfacePackedIs : ℕ → ℕ → Settings → PointColumns → ℕ → LentOutputs → Slice ℕ → Type 0
GroupSurfacePackedIs group n settings columns r w t =
    ReportChargedPacked (group_surface_out group (before t) n settings columns (places_of w.found)) r w t

-- of a split
abbrev pub group_split_out : ℕ → List ℕ → ℕ → Settings → Columns → ℕ → SplitPlaces → Charged SplitOut
group_split_out group table n settings columns sums places = group_split_on group table n settings (samples_of n columns) (lengths columns) sums places

abbrev pub GroupSplitPackedIs : ℕ → ℕ → Settings → Columns → List Float → ℕ → LentSplit → Slice Float → Slice ℕ → Type 0
GroupSplitPackedIs group n settings columns sums r w v t =
    SplitChargedPacked
    (charged_into (length (before v)) (before t) (group_split_out group (before t) n settings columns (length sums) (split_places w))) r w v t

-- s, l and v: scratch, the losses, and the lent places for their total and score
pub record LossPacked (o : LossOut) (r : ℕ) (s l v : Slice Float) : Type 0 where
  pub answer : r ≡ packed_losses o.answer
  pub lent : LossIs o o.answer (contents s) (contents l)
  pub numbers : after v ≡ over (loss_numbers o.answer) (before v)

-- s, b, l and v: scratch, the solved bytes, the scores, and the lent place for the least
pub record ScoresPacked (o : ScoresOut) (r : ℕ) (s : Slice Float) (b : Slice ℕ) (l v : Slice Float) : Type 0 where
  pub answer : r ≡ packed_scores o.answer
  pub lent : ScoresIs o o.answer (contents s) (contents b) (contents l)
  pub least : after v ≡ over (least_number o.answer) (before v)

-- v: the lent places for x, y and the weight
pub record ReadPacked (a : Read) (r : ℕ) (v : Slice Float) : Type 0 where
  -- fewer than three are refused by 1, and none is written
  pub short : length (before v) < 3 → (r ≡ packed_refusal 1) × (after v ≡ before v)
  pub read : 3 ≤ length (before v) → (r ≡ packed_read a) × (after v ≡ over (read_numbers a) (before v))

-- r is the answer, m the memory
pub record ReplayPacked (kinds words : List ℕ) (numbers : List Float) (width : ℕ) (m : LentMemory) (r : ℕ) : Type 0 where
  -- buffers that hold no list of calls: they say so, and no place is written
  pub malformed : well_formed kinds words numbers width (buffers_in m.found) ≡ false → (r ≡ packed_malformed) × (m.left ≡ m.found)
  -- any other: all its calls were run, and the answer is the book
  pub ran : well_formed kinds words numbers width (buffers_in m.found) ≡ true → Ran (calls_of kinds words numbers) width r m.found m.left

-- What each of the season's calls promises at the C interface: the packed answer of the season's own call, and every lent place as that call leaves it.
-- Definitions only.
use Rattle.std.specs.Prelude.{◌≡◌, cond, List, map, ℕ, ◌≤◌, ◌<◌, leb, length, get_or, Float}
use Rattle.lent.specs.Slices.{Slice, before, after, contents}
use Rattle.lent.specs.Written.{over}
use Rattle.measure.specs.Fits.{FitOut}
use Rattle.measure.specs.Bands.{BandOut}
use Rattle.reporting.specs.Reports.{ReportAnswer, ReportOut}
use Rattle.reporting.specs.Outputs.{LentOutputs}
use Rattle.settings.specs.declared.Settings.{Settings}
use Rattle.losses.specs.Losses.{LossOut}
use Rattle.scores.specs.Scores.{ScoresOut}
use Rattle.split.specs.Splits.{SplitOut, LentSplit}
use Rattle.book.specs.Calls.{State}
use Rattle.stakes.specs.Parts.{stakes}
use Rattle.stakes.specs.Season.{SeasonState}
use Rattle.season.specs.Changes.{SeasonOut}
use Rattle.season_query.specs.Reads.{StakeFitIs, stake_band_out, StakeBandIs, stake_loss_out, StakeLossIs, stake_scores_out, StakeScoresIs, stake_split_out, StakeSplitIs}
use Rattle.season_report.specs.Reports.{StakeReportIs, stake_report_out, Reported, season_report}
use Rattle.capi.specs.Packed.{packed_refusal, packed_book, packed_fit, packed_band, band_numbers, band_into, packed_losses, loss_numbers, loss_into, packed_scores, least_number, scores_into, packed_split, split_total, split_into, packed_report, ReportFits}

-- ---- calls that change a season

pub record SeasonPacked (o : SeasonOut) (r : ℕ) (left : SeasonState) : Type 0 where
  pub answer : r ≡ packed_book o.answer
  pub season : left ≡ o.season

-- ---- calls that read a stake

-- Places that a call has here alone are judged by `into`, with 1; a stake's number comes before that too.
abbrev pub stake_into : {O : Type 0} → ℕ → (O → O) → O → O
stake_into s into o = cond (leb stakes s) o (into o)

-- t and c: scratch and the coefficients
pub record StakeFitPacked (s : ℕ) (o : FitOut) (r : ℕ) (t c : Slice Float) : Type 0 where
  pub answer : r ≡ packed_fit o.answer
  pub lent : StakeFitIs s o o.answer (contents t) (contents c)

-- t and v: scratch, and the lent places for the band's three numbers
pub record StakeBandPacked (s : ℕ) (o : BandOut) (r : ℕ) (t v : Slice Float) : Type 0 where
  pub answer : r ≡ packed_band o.answer
  pub lent : StakeBandIs s o o.answer (contents t)
  pub numbers : after v ≡ over (band_numbers o.answer) (before v)

-- of the band that `call` makes of the book of stake s and its scratch
abbrev pub StakeBandPackedIs : (State → List Float → BandOut) → ℕ → SeasonState → ℕ → Slice Float → Slice Float → Type 0
StakeBandPackedIs call s S r t v = StakeBandPacked s (stake_into s (band_into (length (before v))) (stake_band_out call s S (before t))) r t v

-- t, l and v: scratch, the losses, and the lent places for their total and score
pub record StakeLossPacked (s : ℕ) (o : LossOut) (r : ℕ) (t l v : Slice Float) : Type 0 where
  pub answer : r ≡ packed_losses o.answer
  pub lent : StakeLossIs s o o.answer (contents t) (contents l)
  pub numbers : after v ≡ over (loss_numbers o.answer) (before v)

abbrev pub StakeLossPackedIs : (State → List Float → LossOut) → ℕ → SeasonState → ℕ → Slice Float → Slice Float → Slice Float → Type 0
StakeLossPackedIs call s S r t l v = StakeLossPacked s (stake_into s (loss_into (length (before v))) (stake_loss_out call s S (before t))) r t l v

-- t, b, l and v: scratch, the solved bytes, the scores, and the lent place for the least
pub record StakeScoresPacked (s : ℕ) (o : ScoresOut) (r : ℕ) (t : Slice Float) (b : Slice ℕ) (l v : Slice Float) : Type 0 where
  pub answer : r ≡ packed_scores o.answer
  pub lent : StakeScoresIs s o o.answer (contents t) (contents b) (contents l)
  pub least : after v ≡ over (least_number o.answer) (before v)

abbrev pub StakeScoresPackedIs : (State → List Float → ScoresOut) → ℕ → SeasonState → ℕ → Slice Float → Slice ℕ → Slice Float → Slice Float → Type 0
StakeScoresPackedIs call s S r t b l v = StakeScoresPacked s (stake_into s (scores_into (length (before v))) (stake_scores_out call s S (before t))) r t b l v

-- v: the lent place for the total
pub record StakeSplitPacked (s : ℕ) (o : SplitOut) (r : ℕ) (w : LentSplit) (v : Slice Float) : Type 0 where
  pub answer : r ≡ packed_split o.answer
  pub lent : StakeSplitIs s o o.answer w
  pub total : after v ≡ over (split_total o.answer) (before v)

abbrev pub StakeSplitPackedIs : (State → List Float → SplitOut) → ℕ → SeasonState → ℕ → LentSplit → Slice Float → Type 0
StakeSplitPackedIs call s S r w v = StakeSplitPacked s (stake_into s (split_into (length (before v))) (stake_split_out call s S w.scratch.found)) r w v

-- ---- reports

pub record StakeReportPacked (s : ℕ) (o : ReportOut) (r : ℕ) (w : LentOutputs) : Type 0 where
  pub answer : r ≡ packed_report o.answer
  pub lent : StakeReportIs s o o.answer w

-- of a report of stake s of this season
abbrev pub StakeReportPackedIs : Settings → ℕ → SeasonState → ℕ → LentOutputs → Type 0
StakeReportPackedIs settings s S r w = StakeReportPacked s (stake_report_out settings s S w.found) r w

-- the stakes' packed answers, in stake order
abbrev pub packed_stakes : List ReportAnswer → List ℕ
packed_stakes told = map packed_report told

-- every stake's answer fits its fields
pub record StakesFit (told : List ReportAnswer) : Type 0 where
  pub long : length told ≡ stakes
  pub fits : (i : ℕ) → i < stakes → (d : ReportAnswer) → ReportFits (get_or told i d)

-- a: the lent places for the stakes' answers
pub record SeasonReportPacked (o : Reported) (r : ℕ) (w : LentOutputs) (a : Slice ℕ) : Type 0 where
  -- fewer than 32 are refused by 1, and nothing is written
  pub short : length (before a) < stakes → (r ≡ packed_refusal 1) × (w.left ≡ w.found) × (after a ≡ before a)
  -- else the number of stakes not refused is the answer, and every memory is as the season report leaves it
  pub reported : stakes ≤ length (before a) → (r ≡ o.passed) × (w.left ≡ o.lent) × (after a ≡ over (packed_stakes o.reports) (before a))

-- of a report of this season
abbrev pub SeasonReportPackedIs : Settings → SeasonState → ℕ → LentOutputs → Slice ℕ → Type 0
SeasonReportPackedIs settings S r w a = SeasonReportPacked (season_report settings S w.found) r w a

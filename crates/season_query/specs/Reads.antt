-- The calls that read a stake's book: what each answers and writes is what the book's own call does on the stake's parts. Of memory that is cut only that
-- part is written; the rest of it, and what a call was not lent, is left. Definitions only.
use Rattle.std.specs.Prelude.{◌≡◌, List, [], ℕ, length, Float}
use Rattle.statistics.specs.declared.Confidence.{Confidence}
use Rattle.statistics.specs.declared.DegreeBound.{DegreeBound}
use Rattle.statistics.specs.declared.Tolerance.{Tolerance}
use Rattle.score.specs.declared.Criterion.{Criterion}
use Rattle.lent.specs.Slices.{Contents}
use Rattle.lent.specs.Written.{over}
use Rattle.book.specs.Calls.{State}
use Rattle.measure.specs.Fits.{FitAnswer, FitOut, fit_refused}
use Rattle.measure.specs.Bands.{BandAnswer, BandOut, band_refused}
use Rattle.query.specs.Fits.{fit_out, validate_out}
use Rattle.query.specs.Bands.{band_out}
use Rattle.settings.specs.declared.Settings.{Settings}
use Rattle.losses.specs.Losses.{LossAnswer, LossOut, loss_refused, loss_out}
use Rattle.scores.specs.Scores.{ScoresAnswer, ScoresOut, scores_refused, scores_out}
use Rattle.split.specs.Splits.{SplitAnswer, SplitOut, LentSplit, split_refused, split_out}
use Rattle.stakes.specs.Parts.{part_of, over_part}
use Rattle.stakes.specs.Season.{SeasonState, read_stake}

-- ---- fit and validation: scratch and coefficients are cut

-- of a book, scratch and coefficients
abbrev pub fit_from : ℕ → State → List Float → List Float → FitOut
fit_from degree b scratch coefficients = fit_out b.count b.columns b.sums scratch coefficients degree

abbrev pub validate_from : ℕ → DegreeBound → Criterion → State → List Float → List Float → FitOut
validate_from folds bound criterion b scratch coefficients = validate_out b.count b.columns b.sums scratch coefficients folds bound criterion

abbrev pub stake_fit_out : (State → List Float → List Float → FitOut) → ℕ → SeasonState → List Float → List Float → FitOut
stake_fit_out call s S scratch coefficients = read_stake s S (λ b. call b (part_of s scratch) (part_of s coefficients)) fit_refused

-- the promise: the answer, and every place of the scratch and of the coefficients
pub record StakeFitIs (s : ℕ) (o : FitOut) (r : FitAnswer) (t c : Contents Float) : Type 0 where
  pub answer : r ≡ o.answer
  pub scratch : t.left ≡ over_part s o.scratch t.found
  pub coefficients : c.left ≡ over_part s o.coefficients c.found

-- ---- band: scratch is cut

abbrev pub band_from : Float → ℕ → Confidence → Tolerance → State → List Float → BandOut
band_from x degree confidence tolerance b scratch = band_out b.count x degree confidence tolerance b.columns b.sums scratch

abbrev pub stake_band_out : (State → List Float → BandOut) → ℕ → SeasonState → List Float → BandOut
stake_band_out call s S scratch = read_stake s S (λ b. call b (part_of s scratch)) band_refused

pub record StakeBandIs (s : ℕ) (o : BandOut) (r : BandAnswer) (t : Contents Float) : Type 0 where
  pub answer : r ≡ o.answer
  pub scratch : t.left ≡ over_part s o.scratch t.found

-- ---- losses: scratch is cut; the losses are lent for this call alone, as in the book's

abbrev pub loss_from : Settings → List Float → State → List Float → LossOut
loss_from settings losses b scratch = loss_out b.count settings b.columns b.sums scratch losses

abbrev pub stake_loss_out : (State → List Float → LossOut) → ℕ → SeasonState → List Float → LossOut
stake_loss_out call s S scratch = read_stake s S (λ b. call b (part_of s scratch)) loss_refused

pub record StakeLossIs (s : ℕ) (o : LossOut) (r : LossAnswer) (t l : Contents Float) : Type 0 where
  pub answer : r ≡ o.answer
  pub scratch : t.left ≡ over_part s o.scratch t.found
  pub losses : l.left ≡ over o.losses l.found

-- ---- scores: scratch is cut; the solved bytes and the scores are lent for this call alone

abbrev pub scores_from : Settings → List ℕ → List Float → State → List Float → ScoresOut
scores_from settings solved scores b scratch = scores_out b.count settings b.columns b.sums scratch solved scores

abbrev pub stake_scores_out : (State → List Float → ScoresOut) → ℕ → SeasonState → List Float → ScoresOut
stake_scores_out call s S scratch = read_stake s S (λ b. call b (part_of s scratch)) scores_refused

pub record StakeScoresIs (s : ℕ) (o : ScoresOut) (r : ScoresAnswer) (t : Contents Float) (d : Contents ℕ) (l : Contents Float) : Type 0 where
  pub answer : r ≡ o.answer
  pub scratch : t.left ≡ over_part s o.scratch t.found
  pub solved : d.left ≡ over o.solved d.found
  pub scores : l.left ≡ over o.scores l.found

-- ---- split: scratch is cut; the two fits are lent for this call alone

abbrev pub split_from : Settings → ℕ → List Float → List Float → State → List Float → SplitOut
split_from settings limit earlier later b scratch =
    split_out b.count settings limit b.columns (length b.sums) (record { scratch = length scratch; before = length earlier; after = length later })

abbrev pub stake_split_out : (State → List Float → SplitOut) → ℕ → SeasonState → List Float → SplitOut
stake_split_out call s S scratch = read_stake s S (λ b. call b (part_of s scratch)) (λ r. split_refused r [])

pub record StakeSplitIs (s : ℕ) (o : SplitOut) (r : SplitAnswer) (w : LentSplit) : Type 0 where
  pub answer : r ≡ o.answer
  pub scratch : w.scratch.left ≡ over_part s o.scratch w.scratch.found
  pub before : w.before.left ≡ over o.before w.before.found
  pub after : w.after.left ≡ over o.after w.after.found

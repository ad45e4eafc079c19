-- Reading a packed answer, as include/stakebook.h does, gives the answer back: no bit is lost. Definitions only.
use Rattle.std.specs.Prelude.{◌≡◌, ℕ, ◌/◌, ◌%◌, ◌<◌, Some, None, Ok, Err}
use Rattle.refusal.specs.Named.{number}
use Rattle.allowance.specs.Table.{TableAnswer}
use Rattle.book.specs.Calls.{Answer}
use Rattle.losses.specs.Losses.{LossAnswer}
use Rattle.measure.specs.Bands.{BandAnswer}
use Rattle.measure.specs.Fits.{FitAnswer}
use Rattle.reporting.specs.Reports.{ReportAnswer}
use Rattle.scores.specs.Scores.{ScoresAnswer}
use Rattle.split.specs.Splits.{SplitAnswer}
use Rattle.frame.specs.Handed.{Read, Opened}

-- the number of the refusal, 0 if there is none
abbrev pub number_in : ℕ → ℕ
number_in p = p / 0x100_0000_0000_0000

-- the count of a book, the offset of a reader
abbrev pub count_in : ℕ → ℕ
count_in p = p % 0x100_0000_0000_0000

-- the degree of a fit, a validation, a report, its losses or its scores
abbrev pub degree_in : ℕ → ℕ
degree_in p = p % 0x100

-- a report's solved degrees, which the scores have too, pruned terms and outliers
abbrev pub solved_in : ℕ → ℕ
solved_in p = p / 0x100 % 0x100

abbrev pub pruned_in : ℕ → ℕ
pruned_in p = p / 0x1_0000 % 0x100

abbrev pub outliers_in : ℕ → ℕ
outliers_in p = p / 0x1_0000_0000 % 0x1_0000

-- a split's degree after the break, the samples before it, and the pivot tests, which the scores have too
abbrev pub after_in : ℕ → ℕ
after_in p = p / 0x100 % 0x100

abbrev pub break_in : ℕ → ℕ
break_in p = p / 0x1_0000 % 0x1_0000

abbrev pub tests_in : ℕ → ℕ
tests_in p = p / 0x1_0000_0000 % 0x100_0000

-- the bound of the scores
abbrev pub bound_in : ℕ → ℕ
bound_in p = p / 0x1_0000 % 0x1_0000

-- ---- what is read of a number p is the answer

unfoldable pub BookRead : ℕ → Answer → Type 0
BookRead p (Ok b) = (number_in p ≡ 0) × (count_in p ≡ b.count)
BookRead p (Err r) = number_in p ≡ number r

unfoldable pub FitRead : ℕ → FitAnswer → Type 0
FitRead p (Ok d) = (number_in p ≡ 0) × (degree_in p ≡ d.0)
FitRead p (Err r) = number_in p ≡ number r

unfoldable pub BandRead : ℕ → BandAnswer → Type 0
BandRead p (Ok b) = number_in p ≡ 0
BandRead p (Err r) = number_in p ≡ number r

unfoldable pub ReportRead : ℕ → ReportAnswer → Type 0
ReportRead p (Ok r) =
    (number_in p ≡ 0) × (degree_in p ≡ r.degree.0) × (solved_in p ≡ r.solved) × (pruned_in p ≡ r.pruned) × (outliers_in p ≡ r.outliers)
ReportRead p (Err r) = number_in p ≡ number r

unfoldable pub SplitRead : ℕ → SplitAnswer → Type 0
SplitRead p (Ok r) =
    (number_in p ≡ 0) × (degree_in p ≡ r.before.0) × (after_in p ≡ r.after.0) × (break_in p ≡ r.at) × (tests_in p ≡ r.tests)
SplitRead p (Err r) = number_in p ≡ number r

unfoldable pub TableRead : ℕ → TableAnswer → Type 0
TableRead p (Ok tt) = number_in p ≡ 0
TableRead p (Err r) = number_in p ≡ number r

unfoldable pub LossRead : ℕ → LossAnswer → Type 0
LossRead p (Ok r) = (number_in p ≡ 0) × (degree_in p ≡ r.degree.0)
LossRead p (Err r) = number_in p ≡ number r

unfoldable pub ScoresRead : ℕ → ScoresAnswer → Type 0
ScoresRead p (Ok r) =
    (number_in p ≡ 0) × (degree_in p ≡ r.degree.0) × (solved_in p ≡ r.solved) × (bound_in p ≡ r.bound.0) × (tests_in p ≡ r.tests)
ScoresRead p (Err r) = number_in p ≡ number r

unfoldable pub OpenedRead : ℕ → Opened → Type 0
OpenedRead p (Ok c) = (number_in p ≡ 0) × (count_in p ≡ c.at)
OpenedRead p (Err r) = number_in p ≡ number r

-- 0 is the end and no sample
unfoldable pub ReadRead : ℕ → Read → Type 0
ReadRead p (Some r) = (0 < p) × (number_in p ≡ 0) × (count_in p ≡ r.1.at)
ReadRead p None = p ≡ 0

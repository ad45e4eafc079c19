-- Laws of `stakebook_report_by`. Lent the numbers that `stakebook_report` is given, and for the rule of pruning 0 or no place, it answers and writes what
-- that call does.
use Rattle.std.specs.Prelude.{◌≡◌, List, [], ◌∷◌, ℕ, Float}
use Rattle.std.proofs.Common.{ap}
use Rattle.samples.specs.Columns.{Columns}
use Rattle.settings.specs.Numbers.{settings_of, settings_in}
use Rattle.settings.specs.NumberLaws.{listed_all, listed_first}
use Rattle.reporting.specs.declared.Places.{Places}
use Rattle.report.specs.Reports.{report_out}
use Rattle.capi.specs.Packed.{packed_report}
use Rattle.capi.specs.Reading.{ReportRead}
use Rattle.capi.specs.ReadingLaws.{report_back}

module _ (n : ℕ) (columns : Columns) (sums : List Float) (places : Places) where
  module _ (bound most criterion confidence : ℕ) (score : Float) (tolerance : ℕ) (value : Float) where
    pub by_zero : report_out n (settings_in (bound ∷ most ∷ criterion ∷ confidence ∷ tolerance ∷ 0 ∷ []) (score ∷ value ∷ [])) columns sums places
        ≡ report_out n (settings_of bound most criterion confidence score tolerance value 0) columns sums places
    by_zero = ap (λ s. report_out n s columns sums places) (listed_all bound most criterion confidence score tolerance value 0)

    pub by_five : report_out n (settings_in (bound ∷ most ∷ criterion ∷ confidence ∷ tolerance ∷ []) (score ∷ value ∷ [])) columns sums places
        ≡ report_out n (settings_of bound most criterion confidence score tolerance value 0) columns sums places
    by_five = ap (λ s. report_out n s columns sums places) (listed_first bound most criterion confidence score tolerance value)

  -- its packed answer is read as the answer
  pub report_by_back : (words : List ℕ) (values : List Float)
      → (let a = (report_out n (settings_in words values) columns sums places).answer in ReportRead (packed_report a) a)
  report_by_back words values = report_back n columns sums (settings_in words values) places

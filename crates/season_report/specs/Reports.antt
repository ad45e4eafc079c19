-- A report of one stake, and the season report: the stakes in order, each one's report or refusal, with the number of stakes not refused. Definitions only.
use Rattle.std.specs.Prelude.{◌≡◌, List, ℕ, ◌+◌, set, replicate, Ok, Err}
use Rattle.loops.specs.Loop.{from}
use Rattle.book.specs.Calls.{State}
use Rattle.refusal.specs.Named.{refused_by}
use Rattle.settings.specs.declared.Settings.{Settings}
use Rattle.reporting.specs.Outputs.{Outputs, LentOutputs, places_of}
use Rattle.reporting.specs.Reports.{ReportAnswer, ReportOut, refused_early}
use Rattle.report.specs.Reports.{report_out}
use Rattle.season_report.specs.declared.SeasonReport.{SeasonReport}
use Rattle.stakes.specs.Parts.{stakes, part_of, over_part}
use Rattle.stakes.specs.Season.{SeasonState, read_stake}

-- ---- the memory that a season report writes

-- the parts of stake s
abbrev pub parts_of : ℕ → Outputs → Outputs
parts_of s w =
    record {
      scratch = part_of s w.scratch;
      coefficients = part_of s w.coefficients;
      errors = part_of s w.errors;
      pruned = part_of s w.pruned;
      lower = part_of s w.lower;
      upper = part_of s w.upper;
      outliers = part_of s w.outliers;
    }

-- values are written from the first place of each of these parts on; all else is left
abbrev pub over_parts : ℕ → Outputs → Outputs → Outputs
over_parts s v w =
    record {
      scratch = over_part s v.scratch w.scratch;
      coefficients = over_part s v.coefficients w.coefficients;
      errors = over_part s v.errors w.errors;
      pruned = over_part s v.pruned w.pruned;
      lower = over_part s v.lower w.lower;
      upper = over_part s v.upper w.upper;
      outliers = over_part s v.outliers w.outliers;
    }

-- ---- one stake

-- of a book and the memory that it is lent
abbrev pub report_from : Settings → State → Outputs → ReportOut
report_from settings b w = report_out b.count settings b.columns b.sums (places_of w)

abbrev pub stake_report_out : Settings → ℕ → SeasonState → Outputs → ReportOut
stake_report_out settings s S w = read_stake s S (λ b. report_from settings b (parts_of s w)) refused_early

-- the promise: the answer, and every place of every memory
pub record StakeReportIs (s : ℕ) (o : ReportOut) (r : ReportAnswer) (w : LentOutputs) : Type 0 where
  pub answer : r ≡ o.answer
  pub outputs : w.left ≡ over_parts s o.written w.found

abbrev pub StakeReports : Settings → ℕ → SeasonState → ReportAnswer → LentOutputs → Type 0
StakeReports settings s S r w = StakeReportIs s (stake_report_out settings s S w.found) r w

-- ---- all stakes

-- 1 where a report is not refused, else 0
abbrev pub passes : ReportAnswer → ℕ
passes (Ok r) = 1
passes (Err k) = 0

-- what is told, and the written memory
pub record Reported : Type 0 where
  pub reports : List ReportAnswer
  pub passed : ℕ
  pub lent : Outputs

-- the report of stake s, on the memory as the stakes before it left it and whatever they gave
unfoldable pub report_turn : Settings → SeasonState → ℕ → Reported → Reported
report_turn settings S s t =
    let o = stake_report_out settings s S t.lent in
    record { reports = set t.reports s o.answer; passed = t.passed + passes o.answer; lent = over_parts s o.written t.lent }

-- before the first
abbrev pub unreported : Outputs → Reported
unreported w = record { reports = replicate stakes (refused_by 1); passed = 0; lent = w }

unfoldable pub season_report : Settings → SeasonState → Outputs → Reported
season_report settings S w = from (report_turn settings S) 0 stakes (unreported w)

-- the promise
pub record SeasonReportIs (o : Reported) (r : SeasonReport) (w : LentOutputs) : Type 0 where
  pub reports : r.reports ≡ o.reports
  pub passed : r.passed ≡ o.passed
  pub outputs : w.left ≡ o.lent

abbrev pub SeasonReports : Settings → SeasonState → SeasonReport → LentOutputs → Type 0
SeasonReports settings S r w = SeasonReportIs (season_report settings S w.found) r w

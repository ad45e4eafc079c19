-- From what the season's own call promises to what the C interface promises.
use mathlib.Core.Path.{◌≡◌, refl, ap, ◌∙◌}
use mathlib.Core.List.{List}
use Prim.Native.Nat.{ℕ, ◌≤◌, ◌<◌}
use native.Mathlib.Omega.{arith}
use lib.ListN.{length}
use Rattle.book.specs.Calls.{Answer}
use Rattle.lent.specs.Slices.{Slice, before, after}
use Rattle.lent.specs.Written.{over}
use Rattle.reporting.specs.Reports.{ReportAnswer, ReportOut}
use Rattle.reporting.specs.Outputs.{LentOutputs}
use Rattle.stakes.specs.Parts.{stakes}
use Rattle.stakes.specs.Season.{SeasonState}
use Rattle.season.specs.Changes.{SeasonOut, SeasonIs}
use Rattle.season_report.specs.declared.SeasonReport.{SeasonReport}
use Rattle.season_report.specs.Reports.{StakeReportIs, Reported, SeasonReportIs}
use Rattle.capi.specs.Packed.{packed_refusal, packed_book, packed_report}
use Rattle.capi.specs.SeasonPacked.{SeasonPacked, StakeReportPacked, packed_stakes, SeasonReportPacked}

pub season_packed : {o : SeasonOut} {a : Answer} {r : ℕ} {left : SeasonState} → SeasonIs o a left → r ≡ packed_book a → SeasonPacked o r left
season_packed i e = record { answer = e ∙ ap packed_book i.answer; season = i.season }

pub stake_report_packed : {s : ℕ} {o : ReportOut} {a : ReportAnswer} {r : ℕ} {w : LentOutputs} → StakeReportIs s o a w → r ≡ packed_report a → StakeReportPacked s o r w
stake_report_packed i q = record { answer = q ∙ ap packed_report i.answer; lent = record { answer = refl; outputs = i.outputs } }

-- a season report whose answers have too few places, and enough
module _ (o : Reported) (w : LentOutputs) (a : Slice ℕ) where
  pub season_report_short : length (before a) < stakes → w.left ≡ w.found → after a ≡ before a → (r : ℕ) → r ≡ packed_refusal 1 → SeasonReportPacked o r w a
  season_report_short h ew ea r e = record { short = λ _. (e, ew, ea); reported = λ k. absurd (omega arith) }

  pub season_report_packed : stakes ≤ length (before a) → (t : SeasonReport) (r : ℕ) → SeasonReportIs o t w → r ≡ t.passed
      → after a ≡ over (packed_stakes t.reports) (before a) → SeasonReportPacked o r w a
  season_report_packed h t r i e q =
      record {
        short = λ k. absurd (omega arith);
        reported = λ _. (e ∙ i.passed, i.outputs, q ∙ ap (λ (told : List ReportAnswer). over (packed_stakes told) (before a)) i.reports);
      }

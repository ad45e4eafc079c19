-- What a report may refuse by of 1 to 9, in the checking order, and what it may count on past them.
use Rattle.std.specs.Prelude.{◌≡◌, ℕ}
use Rattle.std.proofs.Math.Path.{refl}
use mathlib.Core.List.{List, [], ◌∷◌, Memᴰ}
use Rattle.samples.specs.declared.Sample.{Sample}
use Rattle.refusal.specs.Refusals.{numbers_of, InOrder, those, is_among}
use Rattle.refusal.specs.Laws.{numbered}
use Rattle.settings.specs.declared.Settings.{Settings}
use Rattle.reporting.specs.declared.Places.{Places}
use Rattle.reporting.specs.RefusalLaws.{choosing_room}
use Rattle.report.specs.Refusals.{report_tests, report_refusal}
use Rattle.report.specs.Rooms.{ReportRoom}

module _ (n : ℕ) (settings : Settings) (samples : List Sample) (columns : List ℕ) (sums : ℕ) (places : Places) where
  pub report_numbers : Memᴰ (report_refusal n settings samples columns sums places) (0 ∷ 1 ∷ 4 ∷ 7 ∷ 8 ∷ [])
  unfolding report_refusal
  report_numbers = numbered _

  pub report_in_order : InOrder (numbers_of (report_tests n settings samples columns sums places))
  unfolding those is_among
  report_in_order = refl

pub report_room : (n : ℕ) (settings : Settings) (samples : List Sample) (columns : List ℕ) (sums : ℕ) (places : Places)
    → report_refusal n settings samples columns sums places ≡ 0 → ReportRoom n settings columns sums places
unfolding report_refusal
report_room n settings samples columns sums places e =
    let r = choosing_room n settings samples columns _ e in
    record { room = r.0; some = r.1; most = r.2 }

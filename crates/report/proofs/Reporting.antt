-- What a report within a limit comes to: refused by 1 to 9, or past them.
use Rattle.std.specs.Prelude.{Result, Ok, Err, ⊤}
use mathlib.Core.Path.{◌≡◌, refl, ap, subst}
use mathlib.Core.List.{List}
use Prim.Native.Nat.{ℕ, zero, suc}
use lib.ListN.{length, take}
use lib.Ieee.{Float}
use Rattle.basis.specs.declared.Basis.TheVariants.{Curve}
use Rattle.samples.specs.declared.Sample.{Sample}
use Rattle.samples.specs.Columns.{samples_of, Columns, lengths}
use Rattle.monomial.specs.Rows.{Row, rows_of}
use Rattle.refusal.specs.declared.refusals.Refusal.{Refusal}
use Rattle.refusal.specs.Refusals.{settle}
use Rattle.refusal.specs.Named.{named, judged}
use Rattle.refusal.specs.NamedLaws.{passed, stopped}
use Rattle.settings.specs.declared.Settings.{Settings}
use Rattle.reporting.specs.declared.Counted.{Counted}
use Rattle.reporting.specs.Limited.{limited_of, limited_early, DoesWithin}
use Rattle.reporting.specs.Outputs.{Outputs, places_of, LentOutputs}
use Rattle.reporting.specs.Reports.{ReportOut, Does}
use Rattle.report.specs.Refusals.{report_refusal}
use Rattle.report.specs.RefusalLaws.{report_room}
use Rattle.report.specs.LimitedLaws.{no_limit}
use Rattle.report.specs.Reports.{report_choice, ReportIs}
use Rattle.report.specs.Limited.{within_past, within_on, WithinIs}
use Rattle.report.specs.Rooms.{ReportRoom}

-- a report of n samples, over the columns, the sums, and the memory w that it writes
module _ (n : ℕ) (settings : Settings) (limit : ℕ) (columns : Columns) (sums : List Float) (w : Outputs) where
  abbrev samples : List Sample
  samples = samples_of n columns

  abbrev refusal : ℕ
  refusal = report_refusal n settings samples (lengths columns) (length sums) (places_of w)

  -- r is what its tests came to
  module _ {r : Result ⊤ Refusal} (is : r ≡ judged refusal) where
    -- one of 1 to 9 holds
    pub within_refused : {e : Refusal} → r ≡ Err e → WithinIs n settings limit columns sums (record { answer = Err e; tests = 0 }) (record { found = w; left = w })
    unfolding within_on
    within_refused h = let s = stopped is h in go refusal s.0 s.1
      where
        go : (k : ℕ) {e : Refusal} → (k ≡ 0 → ⊥) → e ≡ named k → DoesWithin (settle k (within_past n settings limit (rows_of samples) (take 272 sums)) (limited_early k)) (record { answer = Err e; tests = 0 }) (record { found = w; left = w })
        go zero n q = absurd (n refl)
        go (suc k) n q = record { does = record { answer = ap (λ d. Err d) q; outputs = refl }; taken = refl }

    -- none of them holds
    module _ {u : ⊤} (none : r ≡ Ok u) where
      past : refusal ≡ 0
      past = passed is none

      pub has_room : ReportRoom n settings (lengths columns) (length sums) (places_of w)
      has_room = report_room n settings samples (lengths columns) (length sums) (places_of w) past

      pub within_past_lem : (rows : List Row) → rows ≡ rows_of samples → (a : Counted) (w' : Outputs)
          → DoesWithin (limited_of Curve n settings limit rows (take 272 sums) (report_choice n settings rows (take 272 sums))) a (record { found = w; left = w' })
          → WithinIs n settings limit columns sums a (record { found = w; left = w' })
      unfolding within_on within_past
      within_past_lem rows same a w' d = rw (past, ← same) d

-- within a limit that no report's tests pass
pub unlimited : (n : ℕ) (settings : Settings) (columns : Columns) (sums : List Float) (a : Counted) (w : LentOutputs)
    → WithinIs n settings 256 columns sums a w → ReportIs n settings columns sums a.answer w
unlimited n settings columns sums a w d =
    subst (λ (o : ReportOut). Does o a.answer w)
    (no_limit n settings (samples_of n columns) (take 272 sums) (lengths columns) (length sums) (places_of w.found)) d.does

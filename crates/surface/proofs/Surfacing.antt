-- What a surface's report within a limit comes to: refused by 1 to 9, or past them.
use mathlib.Core.Path.{◌≡◌, refl, ap, subst}
use mathlib.Core.List.{List}
use Rattle.std.specs.Prelude.{Result, Ok, Err, ⊤}
use Prim.Native.Nat.{ℕ, zero, suc}
use lib.Ieee.{Float}
use Rattle.basis.specs.declared.Basis.TheVariants.{Surface}
use Rattle.statistics.specs.Degrees.{max_degree}
use Rattle.monomial.specs.Rows.{Row}
use Rattle.refusal.specs.declared.refusals.Refusal.{Refusal}
use Rattle.refusal.specs.Refusals.{settle}
use Rattle.refusal.specs.Named.{named, judged}
use Rattle.refusal.specs.NamedLaws.{passed, stopped}
use Rattle.settings.specs.declared.Settings.{Settings}
use Rattle.reporting.specs.declared.Counted.{Counted}
use Rattle.reporting.specs.Limited.{limited_up_to, limited_early, DoesWithin}
use Rattle.reporting.specs.Outputs.{Outputs, LentOutputs, places_of}
use Rattle.reporting.specs.Reports.{ReportOut, Does}
use Rattle.surface.specs.Points.{Point, PointColumns, point_lengths, points_of, rows_of_points, surface_sums}
use Rattle.surface.specs.Refusals.{surface_report_refusal}
use Rattle.surface.specs.RefusalLaws.{surface_report_room}
use Rattle.surface.specs.Surfaces.{last_tried, SurfaceReportIs}
use Rattle.surface.specs.TriedLaws.{surface_choice_is}
use Rattle.surface.specs.Limited.{surface_within_past, surface_within_on, SurfaceWithinIs}
use Rattle.surface.specs.LimitedLaws.{no_limit}

-- a report of n samples, over the columns and the memory w that it writes
module _ (n : ℕ) (settings : Settings) (limit : ℕ) (columns : PointColumns) (w : Outputs) where
  abbrev points : List Point
  points = points_of n columns

  abbrev refusal : ℕ
  refusal = surface_report_refusal n points (point_lengths columns) settings (places_of w)

  -- r is what 1 to 9 came to
  module _ {r : Result ⊤ Refusal} (p : r ≡ judged refusal) where
    -- one of them holds
    pub within_refused : {e : Refusal} → r ≡ Err e → SurfaceWithinIs n settings limit columns (record { answer = Err e; tests = 0 }) (record { found = w; left = w })
    unfolding surface_within_on
    within_refused h = let s = stopped p h in go refusal s.0 s.1
      where
        go : (k : ℕ) → (k ≡ 0 → ⊥) → {e : Refusal} → e ≡ named k → DoesWithin (settle k (surface_within_past n settings limit (rows_of_points points) (surface_sums points)) (limited_early k)) (record { answer = Err e; tests = 0 }) (record { found = w; left = w })
        go zero h q = absurd (h refl)
        go (suc k) h q = record { does = record { answer = ap (λ d. Err d) q; outputs = refl }; taken = refl }

    -- none of them holds, and the choice up to the last total degree tried is a report's
    pub within_past_lem : {u : ⊤} → r ≡ Ok u → (rows : List Row) → rows ≡ rows_of_points points → (sums : List Float) → sums ≡ surface_sums points → (most last : ℕ)
        → most ≡ max_degree settings.bound n → last ≡ last_tried n most → (a : Counted) (w' : Outputs)
        → DoesWithin (limited_up_to Surface n settings limit last rows sums) a (record { found = w; left = w' })
        → SurfaceWithinIs n settings limit columns a (record { found = w; left = w' })
    unfolding surface_within_on surface_within_past
    within_past_lem h rows same sums summed most last em el a w' d =
        let room = surface_report_room n points (point_lengths columns) settings (places_of w) (passed p h) in
        rw (passed p h, ← same, ← summed, surface_choice_is n settings rows sums room.1.0, ← em, ← el) d

-- within a limit that no report's tests pass
pub unlimited : (n : ℕ) (settings : Settings) (columns : PointColumns) (a : Counted) (w : LentOutputs)
    → SurfaceWithinIs n settings 256 columns a w → SurfaceReportIs n settings columns a.answer w
unlimited n settings columns a w d =
    subst (λ (o : ReportOut). Does o a.answer w) (no_limit n settings (points_of n columns) (point_lengths columns) (places_of w.found)) d.does

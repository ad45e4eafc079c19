-- A report within a limit of pivot tests, past refusals 1 to 9 (document 02, E10), of a curve and of a surface. Definitions only.
use Rattle.std.specs.Prelude.{◌≡◌, cond, List, ℕ, ltb, Float}
use Rattle.basis.specs.declared.Basis.{Basis}
use Rattle.monomial.specs.Rows.{Row}
use Rattle.fit.specs.Chosen.{choice_of, counts_of}
use Rattle.fit.specs.declared.Choice.{Choice}
use Rattle.settings.specs.declared.Settings.{Settings}
use Rattle.reporting.specs.declared.Counted.{Counted}
use Rattle.reporting.specs.Outputs.{LentOutputs}
use Rattle.reporting.specs.Reports.{ReportOut, refused_early, refused_late, report_of, Does}

-- what a report does, and the pivot tests that it takes of those left
pub record Limited : Type 0 where
  pub does : ReportOut
  pub taken : ℕ

-- A report costs its pivot tests, those of all degrees tried: solving the chosen one again and inverting count nothing. With too few left it is refused by
-- 16 and takes none; else it takes them, also at 11 and 12.
unfoldable pub limited_of : Basis → ℕ → Settings → ℕ → List Row → List Float → Choice → Limited
limited_of basis n settings limit rows sums choice =
    cond (ltb limit choice.tests) (record { does = refused_late n 16; taken = 0 })
    (record { does = report_of basis n settings rows sums choice.solved choice.chosen; taken = choice.tests })

-- of the choice among the degrees 0 to the last one
abbrev pub limited_up_to : Basis → ℕ → Settings → ℕ → ℕ → List Row → List Float → Limited
limited_up_to basis n settings limit last rows sums =
    limited_of basis n settings limit rows sums (choice_of settings.criterion sums rows (counts_of basis last))

-- refused by 1 to 9: nothing is written, and nothing is taken
abbrev pub limited_early : ℕ → Limited
limited_early r = record { does = refused_early r; taken = 0 }

-- ---- the promise

-- o is what the call does: its answer, every memory that it may write, and the pivot tests that it takes
pub record DoesWithin (o : Limited) (r : Counted) (w : LentOutputs) : Type 0 where
  pub does : Does o.does r.answer w
  pub taken : r.tests ≡ o.taken

-- What the losses answer fits its field: a degree is at most 15, and a refusal has one of its numbers.
use Rattle.std.specs.Prelude.{◌≡◌, refl, Bool, true, false, cond, List, ℕ, zero, suc, ◌≤◌, ltb, length, take, Float}
use native.Mathlib.Omega.{arith}
use Rattle.basis.specs.declared.Basis.TheVariants.{Curve}
use Rattle.statistics.specs.Degrees.{max_degree}
use Rattle.samples.specs.Columns.{Columns, samples_of, lengths}
use Rattle.monomial.specs.Rows.{Row, rows_of}
use Rattle.refusal.specs.Refusals.{settle}
use Rattle.refusal.specs.NamedLaws.{number_fits}
use Rattle.refusal.specs.Named.{named}
use Rattle.settings.specs.declared.Settings.{Settings}
use Rattle.reporting.specs.ChosenLaws.{of_either}
use Rattle.report.specs.Reports.{report_choice}
use Rattle.report.specs.ChosenLaws.{chosen_solved}
use Rattle.losses.specs.Refusals.{loss_refusal}
use Rattle.losses.specs.RefusalLaws.{loss_room}
use Rattle.losses.specs.Losses.{LossOut, loss_refused, loss_late, losses_by, loss_of, loss_past, loss_on, loss_out}
use Rattle.capi.specs.Packed.{LossFits, loss_into}

module _ (n : ℕ) (settings : Settings) (rows : List Row) (sums : List Float) (most : max_degree settings.bound n ≤ 15) where
  by_fits : (degree : ℕ) → degree ≤ 15 → LossFits (losses_by n settings rows sums degree).answer
  unfolding LossFits losses_by
  by_fits degree h = h

  past_fits : LossFits (loss_past n settings rows sums).answer
  unfolding loss_past loss_of LossFits
  past_fits =
      of_either Curve sums (loss_late n) _ (λ (o : LossOut). LossFits o.answer) (report_choice n settings rows sums).chosen (omega arith, omega arith) (omega arith, omega arith)
      (λ d e. by_fits d.0 (omega (arith, (chosen_solved n settings rows sums d e).0)))

settles : (k : ℕ) (good : LossOut) → (k ≡ 0 → LossFits good.answer) → LossFits (settle k good (loss_refused k)).answer
unfolding LossFits
settles zero good g = g refl
settles (suc k) good g = number_fits (named (suc k))

pub into_fits : (places : ℕ) (o : LossOut) → LossFits o.answer → LossFits (loss_into places o).answer
unfolding loss_into LossFits
into_fits places o h = go (ltb places 2)
  where
    go : (t : Bool) → LossFits (cond t (loss_refused 1) o).answer
    go true = (omega arith, omega arith)
    go false = h

pub told_fits : (n : ℕ) (settings : Settings) (columns : Columns) (sums scratch losses : List Float) → LossFits (loss_out n settings columns sums scratch losses).answer
unfolding loss_on
told_fits n settings columns sums scratch losses =
    let samples = samples_of n columns in
    settles (loss_refusal n settings samples (lengths columns) (length sums) (length scratch) (length losses)) _
    (λ e.
    past_fits n settings (rows_of samples) (take 272 sums) (loss_room n settings samples (lengths columns) (length sums) (length scratch) (length losses) e).2)

pub loss_fits : (n : ℕ) (settings : Settings) (columns : Columns) (sums scratch losses : List Float) (places : ℕ)
    → LossFits (loss_into places (loss_out n settings columns sums scratch losses)).answer
loss_fits n settings columns sums scratch losses places = into_fits places _ (told_fits n settings columns sums scratch losses)

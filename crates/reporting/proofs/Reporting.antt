-- What a report comes to past 1 to 9: refused by 11 or 12, or written.
use Rattle.std.specs.Prelude.{Option, Some}
use mathlib.Core.Path.{◌≡◌, refl, sym, ap, ◌∙◌}
use mathlib.Core.List.{List}
use Prim.Native.Nat.{ℕ}
use lib.Ieee.{Float}
use Rattle.basis.specs.Counts.{count_of}
use Rattle.basis.specs.declared.Basis.{Basis}
use Rattle.basis.specs.declared.Degree.{Degree}
use Rattle.monomial.specs.Rows.{Row}
use Rattle.solve.specs.Solve.{solve}
use Rattle.measure.specs.Measures.{covariance_at}
use Rattle.lent.specs.Written.{over, zeros}
use Rattle.lent.specs.WrittenLaws.{over_within}
use Rattle.loops.specs.Within.{Within}
use Rattle.settings.specs.declared.Settings.{Settings}
use Rattle.reporting.specs.Chosen.{chosen_refusal}
use Rattle.reporting.specs.ChosenLaws.{of_late, of_told}
use Rattle.reporting.specs.Outputs.{Outputs, over_all}
use Rattle.reporting.specs.Reports.{refused_late, written_by, report_of}

module _ (basis : Basis) (n : ℕ) (settings : Settings) (rows : List Row) (sums : List Float) (solved : ℕ) where
  -- a number that is not 0 is what the report is refused by
  pub late_refused : (o : Option Degree) (r : ℕ) → r ≡ chosen_refusal basis o sums → (r ≡ 0 → ⊥) → report_of basis n settings rows sums solved o ≡ refused_late n r
  unfolding report_of
  late_refused = of_late basis sums (refused_late n) _

  pub chosen_whole : (d : Degree) → chosen_refusal basis (Some d) sums ≡ 0
      → report_of basis n settings rows sums solved (Some d) ≡ written_by basis n settings rows d.0 solved (solve sums (count_of basis d.0)).c (covariance_at sums rows (count_of basis d.0))
  unfolding report_of
  chosen_whole = of_told basis sums (refused_late n) (λ d. written_by basis n settings rows d.0 solved (solve sums (count_of basis d.0)).c (covariance_at sums rows (count_of basis d.0)))

-- scratch that the choice has used is written over as scratch that it has not
pub used_scratch : (n : ℕ) (s u : List Float) → Within n s u → (values w : Outputs) → values.scratch ≡ zeros n
    → over_all values (record { scratch = u; coefficients = w.coefficients; errors = w.errors; pruned = w.pruned; lower = w.lower; upper = w.upper; outliers = w.outliers })
    ≡ over_all values (record { scratch = s; coefficients = w.coefficients; errors = w.errors; pruned = w.pruned; lower = w.lower; upper = w.upper; outliers = w.outliers })
used_scratch n s u h values w e =
    let same = ap (λ z. over z u) e ∙ over_within n s u h ∙ ap (λ z. over z s) (sym e) in
    λ i. record {
      scratch = same i;
      coefficients = over values.coefficients w.coefficients;
      errors = over values.errors w.errors;
      pruned = over values.pruned w.pruned;
      lower = over values.lower w.lower;
      upper = over values.upper w.upper;
      outliers = over values.outliers w.outliers;
    }

pub written_scratch : (basis : Basis) (n : ℕ) (settings : Settings) (rows : List Row) (degree solved : ℕ) (c v : List Float)
    → (written_by basis n settings rows degree solved c v).written.scratch ≡ zeros n
unfolding written_by
written_scratch basis n settings rows degree solved c v = refl

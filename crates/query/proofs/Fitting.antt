-- What a validation comes to past 1 to 9: none is chosen, or the single fit at the chosen degree, from scratch that the folds have used.
use Rattle.std.specs.Prelude.{Option, Some, None}
use mathlib.Core.Path.{◌≡◌, refl, sym, ap, ◌∙◌}
use mathlib.Core.List.{List}
use Prim.Native.Nat.{ℕ, ◌≤◌}
use lib.ListN.{length}
use lib.Ieee.{Float}
use Rattle.loops.specs.Within.{Within}
use Rattle.basis.specs.declared.Degree.{Degree}
use Rattle.basis.specs.declared.Basis.TheVariants.{Curve}
use Rattle.samples.specs.Columns.{samples_of, columns_of}
use Rattle.monomial.specs.Rows.{Row, weighted_rows, weighted_rows_at}
use Rattle.monomial.specs.RowLaws.{curve_weighted}
use Rattle.score.specs.declared.Criterion.{Criterion}
use Rattle.folds.specs.Folds.{validated_choice}
use Rattle.lent.specs.Slices.{contents_of}
use Rattle.lent.specs.Written.{over, zeros}
use Rattle.lent.specs.WrittenLaws.{over_within}
use Rattle.refusal.specs.Named.{refused_by}
use Rattle.measure.specs.Fits.{FitAnswer, FitIs, fit_past}
use Rattle.measure.specs.FitLaws.{past_scratch}
use Rattle.query.specs.Fits.{validate_past}

-- the folds' choice over the columns is the definition's over the samples
pub same_choice : (n folds most bound : ℕ) (criterion : Criterion) (xs ys ws : List Float) {o : Option Degree} → n ≤ length ws → most ≡ bound
    → o ≡ validated_choice criterion (weighted_rows_at Curve n xs xs ys ws) folds most → o ≡ validated_choice criterion (weighted_rows (samples_of n (columns_of xs ys ws))) folds bound
same_choice n folds most bound criterion xs ys ws h em e = e ∙ (λ i. validated_choice criterion (curve_weighted n xs xs ys ws h i) folds (em i))

module _ (n : ℕ) (o : Option Degree) (rows : List Row) (sums s c : List Float) where
  pub none_validated : o ≡ None → (s' : List Float) → s' ≡ over (zeros n) s → FitIs (validate_past n o rows sums) (refused_by 11) (contents_of s s') (contents_of c c)
  unfolding validate_past
  none_validated h s' es = rw h (record { answer = refl; scratch = es; coefficients = refl })

  pub one_validated : (d : ℕ) → o ≡ Some (record { 0 = d }) → (r : FitAnswer) (u s' c' : List Float) → Within n s u
      → FitIs (fit_past Curve n d rows sums) r (contents_of u s') (contents_of c c') → FitIs (validate_past n o rows sums) r (contents_of s s') (contents_of c c')
  unfolding validate_past
  one_validated d h r u s' c' w f =
      rw h (record {
        answer = f.answer;
        scratch = f.scratch ∙ ap (λ z. over z u) (past_scratch Curve n d rows sums) ∙ over_within n s u w ∙ ap (λ z. over z s) (sym (past_scratch Curve n d rows sums));
        coefficients = f.coefficients;
      })

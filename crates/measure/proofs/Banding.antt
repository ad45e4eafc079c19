-- What a band comes to: refused by 1 to 9, by 10 or 12, or made.
use mathlib.Core.Path.{◌≡◌, refl}
use mathlib.Core.List.{List}
use Prim.Native.Nat.{ℕ, zero, suc}
use lib.Ieee.{Float}
use Rattle.statistics.specs.Scores.{z_score}
use Rattle.statistics.specs.Variances.{stddev_and_mean}
use Rattle.statistics.specs.declared.Confidence.{Confidence}
use Rattle.statistics.specs.declared.StddevAndMean.{StddevAndMean}
use Rattle.statistics.specs.declared.Tolerance.{Tolerance}
use Rattle.basis.specs.Counts.{count_of}
use Rattle.basis.specs.declared.Basis.{Basis}
use Rattle.monomial.specs.Rows.{Row, ys_in}
use Rattle.monomial.specs.Terms.{terms_at}
use Rattle.solve.specs.Solve.{solve}
use Rattle.covariance.specs.Bands.{band_at}
use Rattle.covariance.specs.declared.Band.{Band}
use Rattle.refusal.specs.Refusals.{settle}
use Rattle.lent.specs.Slices.{contents_of}
use Rattle.lent.specs.Written.{over, zeros}
use Rattle.std.specs.Prelude.{Ok}
use Rattle.refusal.specs.Named.{refused_by}
use Rattle.measure.specs.Measures.{measure_refusal, covariance_at}
use Rattle.measure.specs.Bands.{BandAnswer, BandOut, BandIs, band_refused, band_on, band_past}

-- refused by q, one of 1 to 9
pub band_early : (q : ℕ) (past : BandOut) (s : List Float) {r : BandAnswer} → (q ≡ 0 → ⊥) × (r ≡ refused_by q) → BandIs (settle q past (band_refused q)) r (contents_of s s)
band_early zero past s h = absurd (h.0 refl)
band_early (suc k) past s h = record { answer = h.1; scratch = refl }

module _ (basis : Basis) (n : ℕ) (x z : Float) (degree : ℕ) (confidence : Confidence) (tolerance : Tolerance) (rows : List Row) (sums s s' : List Float)
    (es : s' ≡ over (zeros n) s) where
  -- by 10 or 12
  pub band_late : {r : BandAnswer} → (measure_refusal sums rows (count_of basis degree) ≡ 0 → ⊥) × (r ≡ refused_by (measure_refusal sums rows (count_of basis degree)))
      → BandIs (band_past basis n x z degree confidence tolerance rows sums) r (contents_of s s')
  unfolding band_past
  band_late h = go (measure_refusal sums rows (count_of basis degree)) h
    where
      go : (k : ℕ) {r : BandAnswer} → (k ≡ 0 → ⊥) × (r ≡ refused_by k)
          → BandIs (record { answer = settle k (Ok (band_on basis x z degree confidence tolerance rows sums)) (refused_by k); scratch = zeros n }) r (contents_of s s')
      go zero h = absurd (h.0 refl)
      go (suc k) h = record { answer = h.1; scratch = es }

  -- from coefficients c, their covariance v, the score and the spread of all y's
  pub band_made : 0 ≡ measure_refusal sums rows (count_of basis degree) → (c v : List Float) (score : Float) (w : StddevAndMean) (b : Band)
      → c ≡ (solve sums (count_of basis degree)).c → v ≡ covariance_at sums rows (count_of basis degree) → score ≡ z_score confidence → w ≡ stddev_and_mean (ys_in rows)
      → b ≡ band_at (count_of basis degree) c v tolerance score w.stddev (terms_at basis x z)
      → BandIs (band_past basis n x z degree confidence tolerance rows sums) (Ok b) (contents_of s s')
  unfolding band_past band_on
  band_made e c v score w b ec ev ez ew eb = rw (← e, eb, ec, ev, ez, ew) (record { answer = refl; scratch = es })

-- The band of an asked degree at x and z: what it answers and writes, from rows and sums, of a curve and of a surface. Definitions only.
use Rattle.std.specs.Prelude.{◌≡◌, List, [], ℕ, Float, Result, Ok}
use Rattle.statistics.specs.Scores.{z_score}
use Rattle.statistics.specs.Variances.{stddev_and_mean}
use Rattle.statistics.specs.declared.Confidence.{Confidence}
use Rattle.statistics.specs.declared.Tolerance.{Tolerance}
use Rattle.basis.specs.Counts.{count_of}
use Rattle.basis.specs.declared.Basis.{Basis}
use Rattle.monomial.specs.Rows.{Row, ys_in}
use Rattle.monomial.specs.Terms.{terms_at}
use Rattle.solve.specs.Solve.{solve}
use Rattle.covariance.specs.Bands.{band_at}
use Rattle.covariance.specs.declared.Band.{Band}
use Rattle.refusal.specs.Refusals.{settle}
use Rattle.lent.specs.Slices.{Contents}
use Rattle.lent.specs.Written.{over, zeros}
use Rattle.refusal.specs.declared.refusals.Refusal.{Refusal}
use Rattle.refusal.specs.Named.{refused_by}
use Rattle.measure.specs.Measures.{measure_refusal, covariance_at}

-- what the call answers: the band, or a refusal
abbrev pub BandAnswer : Type 0
BandAnswer = Result Band Refusal

-- the answer, and the values written to scratch
pub record BandOut : Type 0 where
  pub answer : BandAnswer
  pub scratch : List Float

-- refused by r, one of 1 to 9: nothing is written
abbrev pub band_refused : ℕ → BandOut
band_refused r = record { answer = refused_by r; scratch = [] }

-- the band at x and z of the curve or surface of this degree, by the z score and the standard deviation of all y's; a curve reads no z and is given x for it
unfoldable pub band_on : Basis → Float → Float → ℕ → Confidence → Tolerance → List Row → List Float → Band
band_on basis x z degree confidence tolerance rows sums =
    band_at (count_of basis degree) (solve sums (count_of basis degree)).c (covariance_at sums rows (count_of basis degree)) tolerance (z_score confidence)
    (stddev_and_mean (ys_in rows)).stddev (terms_at basis x z)

-- past refusals 1 to 9: 10 if the asked degree is unsolved, 12 if an inverse pivot fails, else the band
unfoldable pub band_past : Basis → ℕ → Float → Float → ℕ → Confidence → Tolerance → List Row → List Float → BandOut
band_past basis n x z degree confidence tolerance rows sums =
    let r = measure_refusal sums rows (count_of basis degree) in
    record { answer = settle r (Ok (band_on basis x z degree confidence tolerance rows sums)) (refused_by r); scratch = zeros n }

-- the promise: the answer is the definition's, and its values are written to scratch s
pub record BandIs (o : BandOut) (r : BandAnswer) (s : Contents Float) : Type 0 where
  pub answer : r ≡ o.answer
  pub scratch : s.left ≡ over o.scratch s.found

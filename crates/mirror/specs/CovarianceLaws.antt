-- The inverse, the covariance and the errors of rows alike but for the sign of y are equal, bit for bit.
use Rattle.std.specs.Prelude.{◌≡◌, List, ℕ, ltb, Float}
use Rattle.std.proofs.Common.{ap}
use Rattle.std.proofs.Math.Path.{ap₂}
use Rattle.monomial.specs.Rows.{Row}
use Rattle.solve.specs.Solve.{Inverted}
use Rattle.covariance.specs.Covariance.{covariance_of, errors_of}
use Rattle.measure.specs.Measures.{inverse_fails, measure_refusal, covariance_at}
use Rattle.mirror.specs.Mirror.{MirrorRows, MirrorSums}
use Rattle.mirror.specs.SolveLaws.{inverse_mirror}
use Rattle.mirror.specs.FitLaws.{solved_mirror, residual_variance_mirror}

module _ {s t : List Float} (h : MirrorSums s t) where
  pub fails_mirror : (k : ℕ) → inverse_fails s k ≡ inverse_fails t k
  fails_mirror k = ap (λ (i : Inverted). ltb i.columns k) (inverse_mirror h k)

  module _ {rs qs : List Row} (p : MirrorRows rs qs) (k : ℕ) where
    -- 10 and 12
    pub measure_mirror : measure_refusal s rs k ≡ measure_refusal t qs k
    unfolding measure_refusal
    measure_mirror = rw (solved_mirror h p k, fails_mirror k)

    pub covariance_mirror : covariance_at s rs k ≡ covariance_at t qs k
    unfolding covariance_at
    covariance_mirror = ap₂ (λ (i : Inverted) (v : Float). covariance_of i.v v) (inverse_mirror h k) (residual_variance_mirror h p k)

    pub errors_mirror : errors_of k (covariance_at s rs k) ≡ errors_of k (covariance_at t qs k)
    errors_mirror = ap (errors_of k) covariance_mirror

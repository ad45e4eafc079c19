-- A degree, of k coefficients, solved and measured: refusals 10 and 12, and the covariance. Definitions only.
use Rattle.std.specs.Prelude.{◌≡◌, Bool, not, List, [], ◌∷◌, ℕ, ltb, Float, Result, Ok, Err, OnErr, ⊤}
use Rattle.loops.specs.Within.{Within}
use Rattle.statistics.specs.Variances.{residual_variance}
use Rattle.monomial.specs.Rows.{Row}
use Rattle.solve.specs.Solve.{solve, inverse}
use Rattle.fit.specs.Residuals.{residuals}
use Rattle.fit.specs.Solved.{is_solved}
use Rattle.covariance.specs.Covariance.{covariance_of}
use Rattle.refusal.specs.Refusals.{Test, by, first_of, settle}
use Rattle.refusal.specs.declared.refusals.Refusal.{Refusal}
use Rattle.refusal.specs.Named.{refused_by}

-- 12: an inverse pivot fails, so that not all k columns are made
abbrev pub inverse_fails : List Float → ℕ → Bool
inverse_fails sums k = ltb (inverse sums k).columns k

-- 10: the degree is unsolved; 12: an inverse pivot fails
abbrev pub measure_tests : List Float → List Row → ℕ → List Test
measure_tests sums rows k = by (not (is_solved sums rows k)) 10 ∷ by (inverse_fails sums k) 12 ∷ []

unfoldable pub measure_refusal : List Float → List Row → ℕ → ℕ
measure_refusal sums rows k = first_of (measure_tests sums rows k)

-- the covariance of its coefficients
unfoldable pub covariance_at : List Float → List Row → ℕ → List Float
covariance_at sums rows k = covariance_of (inverse sums k).v (residual_variance k (residuals k (solve sums k).c rows))

-- the coefficients and their covariance
pub record Measured : Type 0 where
  pub c : List Float
  pub covariance : List Float

-- what measuring gives: the coefficients and their covariance, or the refusal
abbrev pub measured : List Float → List Row → ℕ → Result Measured Refusal
measured sums rows k =
    let r = measure_refusal sums rows k in
    settle r (Ok (record { c = (solve sums k).c; covariance = covariance_at sums rows k })) (refused_by r)

-- what an answer and the two places that are lent give
abbrev pub told : Result ⊤ Refusal → List Float → List Float → Result Measured Refusal
told (Ok a) c v = Ok (record { c = c; covariance = v })
told (Err e) c v = Err e

-- the promise: r and the lent places, c' and v' afterwards, give what was measured; where it is refused, they stand as they were, c and v; and of scratch, s before
-- and t after, only the first n places changed
pub record Measures (sums : List Float) (rows : List Row) (k n : ℕ) (s t c c' v v' : List Float) (r : Result ⊤ Refusal) : Type 0 where
  pub measured_is : told r c' v' ≡ measured sums rows k
  pub kept : OnErr r ((c' ≡ c) × (v' ≡ v))
  pub within : Within n s t

-- Laws of Variances.antt.
use Rattle.std.specs.Prelude.{◌≡◌, ℕ, List, [], ◌∷◌, map, refl, Float}
use Rattle.std.proofs.Common.{ap₂}
use Rattle.std.proofs.lemmas.List.{length-map}
use Rattle.value.specs.Absolute.{abs_f}
use Rattle.value.specs.AbsoluteLaws.{square_abs}
use Rattle.statistics.specs.Variances.{square, residual_variance}

-- the variance of residuals is that of their sizes
pub variance_sizes : (k : ℕ) (rs : List Float) → residual_variance k (map abs_f rs) ≡ residual_variance k rs
unfolding residual_variance
variance_sizes k rs = rw (length-map rs abs_f, squares rs)
  where
    squares : (l : List Float) → map square (map abs_f l) ≡ map square l
    squares [] = refl
    squares (x ∷ xs) = ap₂ (λ (a : Float) (r : List Float). a ∷ r) (square_abs x) (squares xs)

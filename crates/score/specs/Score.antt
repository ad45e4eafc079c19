-- AIC and BIC as in polyfit's `score/basic.rs`, from the total of the losses. Definitions only.
use Rattle.std.specs.Prelude.{ℕ, cond, ◌&&◌, ◌==◌, Float}
use Rattle.std.specs.Float.{nan, binary64}
use Rattle.std.specs.Float.Ieee.{add, sub, mul, div, lt}
use Rattle.value.specs.Logarithm.{ln_f}
use Rattle.value.specs.Maximum.{maximum_f}
use Rattle.value.specs.Numbers.{one_f, two_f, four_f, epsilon, num}
use Rattle.score.specs.declared.Criterion.{Criterion}
use Rattle.score.specs.declared.Criterion.TheVariants.{Aic, Bic}

-- the total of the losses over n, 2⁻⁵² at the least
unfoldable pub likelihood_of : ℕ → Float → Float
likelihood_of n total = maximum_f (div binary64 total (num n)) epsilon

-- n × ln(likelihood) + 2 × k; where n / k < 4 and n > k + 1, plus 2 × k × (k + 1) / (n − k − 1), all from left to right
unfoldable pub aic_of : ℕ → ℕ → Float → Float
aic_of n k total =
    let N = num n in
    let K = num k in
    let a = add binary64 (mul binary64 N (ln_f (likelihood_of n total))) (mul binary64 two_f K) in
    cond (lt (div binary64 N K) four_f && lt (add binary64 K one_f) N)
    (add binary64 a (div binary64 (mul binary64 (mul binary64 two_f K) (add binary64 K one_f)) (sub binary64 (sub binary64 N K) one_f)))
    a

-- n × ln(likelihood) + k × ln(n)
unfoldable pub bic_of : ℕ → ℕ → Float → Float
bic_of n k total = add binary64 (mul binary64 (num n) (ln_f (likelihood_of n total))) (mul binary64 (num k) (ln_f (num n)))

unfoldable pub score_by : Criterion → ℕ → ℕ → Float → Float
score_by Aic n k total = aic_of n k total
score_by Bic n k total = bic_of n k total

-- the score, with the number n of samples scored and k coefficients; of no samples it is NaN, as polyfit has it
unfoldable pub score_of : Criterion → ℕ → ℕ → Float → Float
score_of criterion n k total = cond (n == 0) nan (score_by criterion n k total)

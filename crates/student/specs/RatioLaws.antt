-- Laws of Ratio.antt: with consistent bounds a ratio is not both below and above m/n; and what the tests show.
use Rattle.std.specs.Prelude.{◌≡◌, ℕ, ◌*◌, ◌^◌, ◌≤◌, ◌<◌, T}
use Rattle.std.proofs.Common.{ap, ◌∙◌, mul-le-mul, mul-le-mul_left, lt_of_lt_of_le, lt_irrefl, pow-suc, one-mul, arith, ltb→lt}
use Rattle.std.proofs.Math.Nat.{pow-zero}
use Rattle.student.specs.Ratio.{Fraction, RatioBelow, RatioAbove, Consistent, below, above}

pub two_factors : (x : ℕ) → x ^ 2 ≡ x * x
two_factors x = pow-suc x 1 ∙ ap (λ z. z * x) (pow-suc x 0 ∙ ap (λ z. z * x) (pow-zero x) ∙ one-mul x)

-- a product is the greater the greater its factors
lt_mul : (a b c d : ℕ) → a < b → c < d → a * c < b * d
lt_mul a b c d h k = omega (arith, mul-le-mul h k)

-- the part is at most p/q and at least r/s, the whole at least a/b and at most c/d
crossed : (m n p q r s a b c d : ℕ) → n * (p * b) < m * (a * q) → m * (c * s) < n * (r * d) → r * q ≤ p * s → a * d ≤ c * b → ⊥
crossed m n p q r s a b c d h k e f =
    lt_irrefl _
    (lt_of_lt_of_le (lt_mul (n * (p * b)) (m * (a * q)) (m * (c * s)) (n * (r * d)) h k)
    (omega (arith, mul-le-mul_left (m * n) (mul-le-mul e f))))

-- with consistent bounds a ratio is not both below and above m/n
pub exclusive : (PartAtMost PartAtLeast WholeAtMost WholeAtLeast : Fraction → Type 0) (m n : ℕ) →
    Consistent PartAtLeast PartAtMost → Consistent WholeAtLeast WholeAtMost →
    RatioBelow PartAtMost WholeAtLeast m n → RatioAbove PartAtLeast WholeAtMost m n → ⊥
unfolding RatioBelow RatioAbove Consistent
exclusive PartAtMost PartAtLeast WholeAtMost WholeAtLeast m n cp cw (p, w, hp, hw, lt) (r, v, hr, hv, gt) =
    crossed (m ^ 2) (n ^ 2) p.0 p.1 r.0 r.1 w.0 w.1 v.0 v.1 lt gt (cp r p hr hp) (cw w v hw hv)

-- ---- tests

pub below_holds : (P W : Fraction → Type 0) (p w : Fraction) (m n : ℕ) → P p → W w → T (below p w m n) → RatioBelow P W m n
unfolding below RatioBelow
below_holds P W p w m n hp hw t = (p, w, hp, hw, ltb→lt _ _ t)

pub above_holds : (P W : Fraction → Type 0) (p w : Fraction) (m n : ℕ) → P p → W w → T (above p w m n) → RatioAbove P W m n
unfolding above RatioAbove
above_holds P W p w m n hp hw t = (p, w, hp, hw, ltb→lt _ _ t)

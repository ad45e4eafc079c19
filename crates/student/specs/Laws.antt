-- The bounds by series do not contradict themselves: no bound from below exceeds a bound from above, whatever numbers of terms they are shown with; from t = 1 on also
-- where the one is of the area beyond a point and the other of the area beyond an earlier one. So no probability is both below and above 1/k, of the numbers from 1 on
-- with the same number of places at most one is the rounded quantile of Student's distribution, and of two neighbouring numbers of thousandths at most one is the
-- rounded quantile, and at most one the cut quantile of the normal distribution.
use Rattle.std.specs.Prelude.{◌≡◌, ℕ, zero, suc, ◌+◌, ◌-◌, ◌*◌, ◌^◌, ◌≤◌, ◌<◌}
use Rattle.std.proofs.Common.{sym, subst, subst₂, mul-le-mul, mul-le-mul_left, mul-le-mul_right, le_refl, le_trans, mul-pos, pow-suc, arith}
use Rattle.std.proofs.Math.Nat.{le_of_mul-le-mul_left, le_dest, pow-zero}
use Rattle.student.specs.Ratio.{Fraction, Consistent}
use Rattle.student.specs.RatioLaws.{two_factors, exclusive}
use Rattle.student.specs.Quantile.{TailBelow, TailAbove, Rounded}
use Rattle.student.specs.Series.{product, numerator, AtMost, factors}
use Rattle.student.specs.SeriesLaws.{product_pos}
use Rattle.student.specs.BySeries.{beyond_square, whole_square, BeyondAtMost, BeyondAtLeast, WholeAtMost, WholeAtLeast, by_series}
use Rattle.student.specs.Normal.{inside_square, InsideAtMost, InsideAtLeast, HalfPiAtMost, HalfPiAtLeast, Cut}

-- a/b is at most c/d: so are the squares, with the same factors
squares : (α β a b c d : ℕ) → a * d ≤ c * b → α * a ^ 2 * (β * d ^ 2) ≤ α * c ^ 2 * (β * b ^ 2)
squares α β a b c d h = rw (two_factors a, two_factors b, two_factors c, two_factors d) (omega (arith, mul-le-mul_left (α * β) (mul-le-mul h h)))

beyond_consistent : (ν N : ℕ) → Consistent (BeyondAtLeast ν N) (BeyondAtMost ν N)
unfolding Consistent BeyondAtLeast BeyondAtMost AtMost beyond_square
beyond_consistent ν N a b (n, e) (u, v, h, g) =
    subst₂ (λ (x y : Fraction). x.0 * y.1 ≤ y.0 * x.1) (sym e) (sym g) (squares _ _ _ _ u v (h n))

-- s/i is at most g/h, and t/j at most w/x
both_bounds : (ν s i g h t j w x : ℕ) → s * h ≤ g * i → t * x ≤ w * j → (ν * s * j + t * i) * (h * x) ≤ (ν * g * x + w * h) * (i * j)
both_bounds ν s i g h t j w x p q = omega (arith, mul-le-mul_left (ν * j * x) p, mul-le-mul_left (i * h) q)

whole_consistent : (ν : ℕ) → Consistent (WholeAtLeast ν) (WholeAtMost ν)
unfolding Consistent WholeAtLeast WholeAtMost AtMost whole_square
whole_consistent ν a b (n, e) (g, h, w, x, p, q, f) =
    subst₂ (λ (y z : Fraction). y.0 * z.1 ≤ z.0 * y.1) (sym e) (sym f)
    (squares _ _ _ _ _ (h * x) (both_bounds ν _ _ g h _ _ w x (p n) (q n)))

pub tail_exclusive : (ν k N : ℕ) → TailBelow by_series ν k N → TailAbove by_series ν k N → ⊥
unfolding TailBelow TailAbove
tail_exclusive ν k N b a =
    exclusive (BeyondAtMost ν N) (BeyondAtLeast ν N) (WholeAtMost ν) (WholeAtLeast ν) 1 k (beyond_consistent ν N) (whole_consistent ν) b a

-- e and e + 1 thousandths are not both the rounded quantile
pub one_rounded : (ν k e : ℕ) → Rounded by_series ν k e 1 → Rounded by_series ν k (e + 1) 1 → ⊥
unfolding Rounded
one_rounded ν k e a b =
    let same : 2 * (e + 1) - 1 ≡ 2 * e + 1 = omega arith in
    tail_exclusive ν k _ a.1 (subst (λ N. TailAbove by_series ν k N) same b.0)

-- ---- an earlier point and a later one

-- a series whose denominators are greater is smaller
product_less : (g h : ℕ → ℕ) → ((j : ℕ) → g j ≤ h j) → (n : ℕ) → product g n ≤ product h n
unfolding product
product_less g h l zero = le_refl 1
product_less g h l (suc n) = mul-le-mul (product_less g h l n) (l n)

sum_less : (f g h : ℕ → ℕ) → ((j : ℕ) → g j ≤ h j) → (n : ℕ) → numerator f h n * product g n ≤ numerator f g n * product h n
unfolding numerator product
sum_less f g h l zero = omega arith
sum_less f g h l (suc n) = more (numerator f h n) (product f n) (product g n) (numerator f g n) (product h n) (g n) (h n) (sum_less f g h l n) (product_less g h l n)
  where
    more : (s t G S K x y : ℕ) → s * G ≤ S * K → G ≤ K → (s + t) * y * (G * x) ≤ (S + t) * x * (K * y)
    more s t G S K x y p q = omega (arith, mul-le-mul_left (x * y) p, mul-le-mul_left (x * y * t) q)

-- (q + y)ⁿ⁺¹ is at least qⁿ⁺¹ + (n+1) y qⁿ (Bernoulli)
bernoulli : (q y n : ℕ) → q ^ n * q + (n + 1) * y * q ^ n ≤ (q + y) ^ n * (q + y)
bernoulli q y zero = rw (pow-zero q, pow-zero (q + y)) (omega arith)
bernoulli q y (suc n) = rw (pow-suc q n, pow-suc (q + y) n) (omega (arith, mul-le-mul_right (q + y) (bernoulli q y n)))

-- x/(x+r)ⁿ⁺¹ falls where r is at most n x
falls_from : (x y r n : ℕ) → r ≤ n * x → (x + y) * (x + r) ^ (n + 1) ≤ x * (x + y + r) ^ (n + 1)
falls_from x y r n h =
    let next : (z : ℕ) → z ^ (n + 1) ≡ z ^ n * z = λ z. subst (λ (j : ℕ). z ^ j ≡ z ^ n * z) (omega arith) (pow-suc z n) in
    let e : x + y + r ≡ x + r + y = omega arith in
    rw (e, next (x + r), next (x + r + y))
    (le_trans (omega (arith, mul-le-mul_left ((x + r) ^ n * y) h)) (mul-le-mul_left x (bernoulli (x + r) y n)))

later : (ν N M : ℕ) → 2000 ≤ N → N ≤ M → M ^ 2 * (N ^ 2 + 4000000 * ν) ^ (ν + 1) ≤ N ^ 2 * (M ^ 2 + 4000000 * ν) ^ (ν + 1)
later ν N M h l =
    let d = le_dest (mul-le-mul l l) in
    rw (two_factors M, two_factors N, sym d.1)
    (falls_from (N * N) d.0 (4000000 * ν) ν (omega (arith, mul-le-mul_left ν (mul-le-mul h h))))

-- s/G is at most S/K, and S/K at most u/v
through : (s G S K u v : ℕ) → 0 < K → s * K ≤ S * G → S * v ≤ u * K → s * v ≤ u * G
through s G S K u v p h k = le_of_mul-le-mul_left {k = K} (omega (arith, mul-le-mul_left v h, mul-le-mul_left G k)) p

later_squares : (x y p q R s G u v : ℕ) → s * v ≤ u * G → y * p ≤ x * q → y * R * s ^ 2 * (p * v ^ 2) ≤ x * R * u ^ 2 * (q * G ^ 2)
later_squares x y p q R s G u v h k = rw (two_factors s, two_factors v, two_factors u, two_factors G) (omega (arith, mul-le-mul_left R (mul-le-mul k (mul-le-mul h h))))

factors_pos : (ν N : ℕ) → 0 < ν → (j : ℕ) → 0 < factors (ν + 2) (N ^ 2 + 4000000 * ν) j
unfolding factors
factors_pos ν N hν j = mul-pos (omega arith) (omega arith)

factors_less : (ν N M : ℕ) → N ≤ M → (j : ℕ) → factors (ν + 2) (N ^ 2 + 4000000 * ν) j ≤ factors (ν + 2) (M ^ 2 + 4000000 * ν) j
unfolding factors
factors_less ν N M l j = mul-le-mul_left (ν + 2 + 2 * j) (rw (two_factors N, two_factors M) (omega (arith, mul-le-mul l l)))

pub later_consistent : (ν N M : ℕ) → 0 < ν → 2000 ≤ N → N ≤ M → Consistent (BeyondAtLeast ν M) (BeyondAtMost ν N)
unfolding Consistent BeyondAtLeast BeyondAtMost AtMost beyond_square
later_consistent ν N M hν h l a b (n, e) (u, v, k, g) =
    let f = factors (ν + 1) (4000000 * ν) in
    let x = factors (ν + 2) (N ^ 2 + 4000000 * ν) in
    let y = factors (ν + 2) (M ^ 2 + 4000000 * ν) in
    subst₂ (λ (p q : Fraction). p.0 * q.1 ≤ q.0 * p.1) (sym e) (sym g)
    (later_squares (N ^ 2) (M ^ 2) _ _ _ _ _ u v
    (through _ _ _ _ u v (product_pos x n (λ j l. factors_pos ν N hν j)) (sum_less f x y (factors_less ν N M l) n) (k n))
    (later ν N M h l))

-- e and e' thousandths, from 1 on and a printed place or more apart, are not both the rounded quantile
pub one_rounded_by_series : (ν k e e' h : ℕ) → 0 < ν → 1000 ≤ e → e + h ≤ e' → Rounded by_series ν k e h → Rounded by_series ν k e' h → ⊥
unfolding Rounded TailBelow TailAbove
one_rounded_by_series ν k e e' h hν f l a b =
    exclusive (BeyondAtMost ν (2 * e + h)) (BeyondAtLeast ν (2 * e' - h)) (WholeAtMost ν) (WholeAtLeast ν) 1 k
    (later_consistent ν (2 * e + h) (2 * e' - h) hν (omega arith) (omega arith)) (whole_consistent ν) a.1 b.0

-- ---- the normal distribution

-- a/b is at most c/d, and e/f at most g/h: so is the square of the one over the other
squares_over : (α β a b c d e f g h : ℕ) → a * d ≤ c * b → e * h ≤ g * f → α * a ^ 2 * h * (β * d ^ 2 * e) ≤ α * c ^ 2 * f * (β * b ^ 2 * g)
squares_over α β a b c d e f g h k l =
    rw (two_factors a, two_factors b, two_factors c, two_factors d) (omega (arith, mul-le-mul_left (α * β) (mul-le-mul (mul-le-mul k k) l)))

inside_consistent : (N : ℕ) → Consistent (InsideAtLeast N) (InsideAtMost N)
unfolding Consistent InsideAtLeast InsideAtMost AtMost inside_square
inside_consistent N a b (t, j, n, h, e) (s, i, m, k, g) =
    subst₂ (λ (x y : Fraction). x.0 * y.1 ≤ y.0 * x.1) (sym e) (sym g) (squares_over _ _ _ _ s i _ _ t j (k n) (h m))

half_pi_consistent : Consistent HalfPiAtLeast HalfPiAtMost
unfolding Consistent HalfPiAtLeast HalfPiAtMost AtMost
half_pi_consistent a b (n, e) h = subst (λ (x : Fraction). x.0 * b.1 ≤ b.0 * x.1) (sym e) (h n)

-- N and N + 1 thousandths are not both the cut quantile
pub one_cut : (k N : ℕ) → Cut k N → Cut k (N + 1) → ⊥
unfolding Cut
one_cut k N a b =
    exclusive (InsideAtMost (N + 1)) (InsideAtLeast (N + 1)) HalfPiAtMost HalfPiAtLeast (k - 1) k (inside_consistent (N + 1)) half_pi_consistent b.0 a.1

-- Laws of Series.antt: the sums in one run, and what no partial sum exceeds.
use Rattle.std.specs.Prelude.{◌≡◌, refl, ℕ, zero, suc, ◌+◌, ◌*◌, ◌≤◌, ◌<◌, T, leb}
use Rattle.std.proofs.Common.{ap, ap₂, mul-le-mul_left, mul-le-mul_right, le_of_mul-le-mul_right, mul-pos, le_refl, add_comm, add-suc, add-zero, arith, leb→le}
use Rattle.std.specs.Float.Ieee.Fits.{and_l, and_r}
use Rattle.student.specs.Series.{product, numerator, AtMost, factors, sums, three, falls}

sums_next : (f g : ℕ → ℕ) (n : ℕ) → (sums f g n).1 ≡ product f n
unfolding sums product
sums_next f g zero = refl
sums_next f g (suc n) = ap (λ x. x * f n) (sums_next f g n)

sums_denominator : (f g : ℕ → ℕ) (n : ℕ) → (sums f g n).2 ≡ product g n
unfolding sums product
sums_denominator f g zero = refl
sums_denominator f g (suc n) = ap (λ x. x * g n) (sums_denominator f g n)

sums_numerator : (f g : ℕ → ℕ) (n : ℕ) → (sums f g n).0 ≡ numerator f g n
unfolding sums numerator
sums_numerator f g zero = refl
sums_numerator f g (suc n) = ap₂ (λ s t. (s + t) * g n) (sums_numerator f g n) (sums_next f g n)

pub sums_three : (f g : ℕ → ℕ) (n : ℕ) → sums f g n ≡ three f g n
sums_three f g n = λ i. (sums_numerator f g n i, sums_next f g n i, sums_denominator f g n i)

-- a product of positive factors is positive
pub product_pos : (g : ℕ → ℕ) (n : ℕ) → ((j : ℕ) → j < n → 0 < g j) → 0 < product g n
unfolding product
product_pos g zero h = omega arith
product_pos g (suc n) h = mul-pos (product_pos g n (λ j l. h j (omega (arith, l)))) (h n (omega arith))

-- j terms more make the sum no smaller
numerator_grows : (f g : ℕ → ℕ) (m j : ℕ) → numerator f g m * product g (m + j) ≤ numerator f g (m + j) * product g m
unfolding numerator product
numerator_grows f g m zero = simp add-zero (le_refl _)
numerator_grows f g m (suc j) = simp add-suc (omega (arith, mul-le-mul_right (g (m + j)) (numerator_grows f g m j)))

-- From place n on each term is at most (C-1)/C of the one before it: then what follows the first n terms is at most C times the next.
one_more : (S U D E G C x y : ℕ) → y * C + x ≤ x * C → (S + C * U) * E ≤ G * D → ((S + U) * x + C * (U * y)) * E ≤ G * (D * x)
one_more S U D E G C x y h k = omega (arith, mul-le-mul_left (U * E) h, mul-le-mul_right x k)

rest : (f g : ℕ → ℕ) (C n j : ℕ) → ((i : ℕ) → f (n + i) * C + g (n + i) ≤ g (n + i) * C) →
    (numerator f g (n + j) + C * product f (n + j)) * product g n ≤ (numerator f g n + C * product f n) * product g (n + j)
unfolding numerator product
rest f g C n zero h = simp add-zero (le_refl _)
rest f g C n (suc j) h =
    simp add-suc
    (one_more (numerator f g (n + j)) (product f (n + j)) (product g (n + j)) (product g n) (numerator f g n + C * product f n) C (g (n + j)) (f (n + j))
    (h j) (rest f g C n j h))

-- fractions: s/m is at most t/k, t/k is at most G/e, and G/e is at most u/v
chain : (s m t k G e u v : ℕ) → 0 < k → 0 < e → s * k ≤ t * m → t * e ≤ G * k → G * v ≤ u * e → s * v ≤ u * m
chain s m t k G e u v hk he p q r =
    le_of_mul-le-mul_right {k = k * e}
    (omega (arith, mul-le-mul_right (e * v) p, mul-le-mul_right (m * v) q, mul-le-mul_right (m * k) r))
    (mul-pos hk he)

pub at_most : (f g : ℕ → ℕ) (C n : ℕ) → ((j : ℕ) → 0 < g j) → ((i : ℕ) → f (n + i) * C + g (n + i) ≤ g (n + i) * C) →
    AtMost f g (numerator f g n + C * product f n) (product g n)
unfolding AtMost
at_most f g C n hg h m =
    chain (numerator f g m) (product g m) (numerator f g (n + m)) (product g (n + m)) (numerator f g n + C * product f n) (product g n) _ _
    (product_pos g (n + m) (λ j l. hg j)) (product_pos g n (λ j l. hg j))
    (rw (add_comm n m) (numerator_grows f g m n))
    (omega (arith, rest f g C n m h))
    (le_refl _)

shrinks : (a b y d C n j : ℕ) → y * C + d ≤ d * C → (a + 2 * n) * y * C + (b + 2 * n) * d ≤ (b + 2 * n) * d * C →
    (a + 2 * (n + j)) * y * C + (b + 2 * (n + j)) * d ≤ (b + 2 * (n + j)) * d * C
shrinks a b y d C n j h k = omega (arith, k, mul-le-mul_left (2 * j) h)

pub falls_at_most : (a b y d C n : ℕ) → 0 < b → 0 < d → T (falls a b y d C n) →
    AtMost (factors a y) (factors b d) (numerator (factors a y) (factors b d) n + C * product (factors a y) n) (product (factors b d) n)
unfolding falls factors
falls_at_most a b y d C n hb hd t =
    let fst = leb (y * C + d) (d * C) in
    at_most (factors a y) (factors b d) C n (λ j. mul-pos (omega arith) hd)
    (λ i. shrinks a b y d C n i (leb→le _ _ (and_l fst _ t)) (leb→le _ _ (and_r fst _ t)))

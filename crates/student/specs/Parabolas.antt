-- Laws of the points, pieces and parabolas of `ByArea`: the identities of a point and of a piece's width; the parabola that touches the curve at one point lies
-- under it at every other; and what lies above its tangents lies below its chords.
use Rattle.std.specs.Prelude.{◌≡◌, ℕ, zero, suc, ◌+◌, ◌*◌, ◌^◌, ◌≤◌}
use Rattle.std.proofs.Common.{sym, ap, subst, mul-le-mul_right, le_of_lt, lt_of_not-le, pow-suc, arith}
use Rattle.std.proofs.Math.Nat.{le_dest, pow-zero}
use Rattle.std.proofs.Math.Decide.{dec_le}

-- where P is M² - i², P² + (2 i M)² is (M² + i²)²
pub point : (i M P : ℕ) → P + i * i ≡ M * M → P * P + 4 * (i * i) * (M * M) ≡ (M * M + i * i) * (M * M + i * i)
point i M P h = rw (sym h) (omega arith)

-- where P is M² - i², R is M² - j² and j is i + w, j P is i R plus (M² + i j) w
pub width : (i j w M P R : ℕ) → P + i * i ≡ M * M → R + j * j ≡ M * M → i + w ≡ j → j * P ≡ i * R + (M * M + i * j) * w
width i j w M P R h k e = omega (arith, ap (λ x. j * x) h, ap (λ x. i * x) k, ap (λ x. M * M * x) e, ap (λ x. i * j * x) e)

-- the two cases of `cubes`: y is x + d, and x is y + d
low : (a n x d : ℕ) → (n + 3) * a * x * (x + d) * (x + d) + n * a * x * x * (x + d) ≤ (n + 1) * a * x * x * x + (n + 2) * a * (x + d) * (x + d) * (x + d)
low a n x d = omega arith

high : (a n y d : ℕ) → (n + 3) * a * (y + d) * y * y + n * a * (y + d) * (y + d) * y ≤ (n + 1) * a * (y + d) * (y + d) * (y + d) + (n + 2) * a * y * y * y
high a n y d = omega arith

-- (n+1) x³ + (n+2) y³ is at least (n+3) x y² + n x² y: the difference is (x - y)² ((n+1) x + (n+2) y)
cubes : (a n x y : ℕ) → (n + 3) * a * x * y * y + n * a * x * x * y ≤ (n + 1) * a * x * x * x + (n + 2) * a * y * y * y
cubes a n x y =
    elim (dec_le x y) [
      | yes h ↦ let e = le_dest h in subst (λ z. (n + 3) * a * x * z * z + n * a * x * x * z ≤ (n + 1) * a * x * x * x + (n + 2) * a * z * z * z) e.1 (low a n x e.0)
      | no h ↦ let e = le_dest (le_of_lt (lt_of_not-le h)) in subst (λ z. (n + 3) * a * z * y * y + n * a * z * z * y ≤ (n + 1) * a * z * z * z + (n + 2) * a * y * y * y) e.1 (high a n y e.0)
    ]

more : (a b n x y : ℕ) → (n + 2) * a * (y * y) ≤ n * a * (x * x) + 2 * b * (y * y) → (n + 3) * (a * x) * (y * y) ≤ (n + 1) * (a * x) * (x * x) + 2 * (b * y) * (y * y)
more a b n x y h = omega (arith, mul-le-mul_right y h, cubes a n x y)

-- (n+2) xⁿ y² ≤ n xⁿ⁺² + 2 yⁿ⁺²
pub touch : (n x y : ℕ) → (n + 2) * x ^ n * (y * y) ≤ n * x ^ n * (x * x) + 2 * y ^ n * (y * y)
touch zero x y = rw (pow-zero x, pow-zero y) (omega arith)
touch (suc n) x y = rw (pow-suc x n, pow-suc y n) (omega (arith, more (x ^ n) (y ^ n) n x y (touch n x y)))

-- At a point where 1 + y² is (Q/P)² the curve is (P/Q)ⁿ, n = ν + 1; at p it is (P'/Q')ⁿ. The parabola that touches it at p is the height at p times
-- 1 + n/2 (1 - (1 + y²)/(1 + yₚ²)), and lies under it: (P/Q)ⁿ ≥ (P'/Q')ⁿ (1 + n/2 - n/2 (Q P' / (P Q'))²), here multiplied by 2 (Q P')ⁿ (P Q')² (Q'/P')ⁿ.
pub under : (n P Q P' Q' : ℕ) → (n + 2) * (Q * P') ^ n * (P * Q' * (P * Q')) ≤ n * (Q * P') ^ n * (Q * P' * (Q * P')) + 2 * (P * Q') ^ n * (P * Q' * (P * Q'))
under n P Q P' Q' = touch n (Q * P') (P * Q')

-- What lies above its tangents lies below its chords: with the slope -s at the point between, c before it and d after it
pub over : (f g h s c d : ℕ) → g + s * c ≤ f → g ≤ h + s * d → g * (c + d) ≤ f * d + h * c
over f g h s c d p q = omega (arith, mul-le-mul_right d p, mul-le-mul_right c q)

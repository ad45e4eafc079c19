-- Laws of Tangent.antt: the parabola lies below every height that is at least the curve's, whatever the point is that the height belongs to, and below 1/y² (`line`).
use Rattle.std.specs.Prelude.{◌≡◌, ℕ, zero, suc, ◌+◌, ◌*◌, ◌^◌, ◌≤◌, ◌<◌}
use Rattle.std.proofs.Common.{sym, ap, subst, ◌∙◌, mul-le-mul, mul-le-mul_left, le_of_mul-le-mul_right, le_trans, le_of_lt, lt_of_not-le, lt_of_lt_of_le, mul-pos, pow-suc, arith}
use Rattle.std.proofs.Math.Nat.{le_of_mul-le-mul_left, le_dest, pow-zero, pow-le-pow_left, one-le-pow}
use Rattle.std.proofs.Math.Decide.{dec_le}
use Rattle.student.specs.Parabolas.{under}
use Rattle.student.specs.Lines.{Line}
use Rattle.student.specs.Tangent.{Tall, top, fall}

product_power : (a b n : ℕ) → (a * b) ^ n ≡ a ^ n * b ^ n
product_power a b zero = rw (pow-zero (a * b), pow-zero a, pow-zero b)
product_power a b (suc n) = rw (pow-suc (a * b) n, pow-suc a n, pow-suc b n, product_power a b n) (omega arith)

one_power : (n : ℕ) → 1 ^ n ≡ 1
one_power zero = pow-zero 1
one_power (suc n) = rw (pow-suc 1 n, one_power n)

-- h is at most the curve's height at the point of P' and Q', in units of 1/U, and v/c at least that at the point of P and Q
between : (s t u a b p q h U c v : ℕ) → 0 < a → 0 < q → s * (a * b) ≤ t * (a * b) + 2 * (p * q) * u → h * q ≤ U * b → c * (U * p) ≤ v * a → c * h * s ≤ c * h * t + 2 * v * u
between s t u a b p q h U c v ha hq k l m =
    elim (dec_le s t) [
      | yes r ↦ omega (arith, mul-le-mul_left (c * h) r)
      | no r ↦
          let d = le_dest (le_of_lt (lt_of_not-le r)) in
          let e : d.0 * (a * b) ≤ 2 * (p * q) * u = omega (arith, k, ap (λ z. z * (a * b)) d.1) in
          let f : c * h * d.0 * (a * q) ≤ c * d.0 * a * (U * b) = omega (arith, mul-le-mul_left (c * d.0 * a) l) in
          let g : c * d.0 * a * (U * b) ≤ c * U * (2 * (p * q) * u) = omega (arith, mul-le-mul_left (c * U) e) in
          let i : c * U * (2 * (p * q) * u) ≤ 2 * v * u * (a * q) = omega (arith, mul-le-mul_left (2 * q * u) m) in
          let j : c * h * d.0 ≤ 2 * v * u = le_of_mul-le-mul_right {k = a * q} (le_trans f (le_trans g i)) (mul-pos ha hq) in
          omega (arith, j, ap (λ z. c * h * z) d.1)
    ]

touches : (n h U P Q P' Q' v c : ℕ) → 0 < Q → 0 < Q' → h * Q' ^ n ≤ U * P' ^ n → c * (U * P ^ n) ≤ v * Q ^ n →
    c * h * ((n + 2) * (P * Q' * (P * Q'))) ≤ c * h * (n * (Q * P' * (Q * P'))) + 2 * v * (P * Q' * (P * Q'))
touches n h U P Q P' Q' v c hQ hQ' k l =
    let t = rw (product_power Q P' n, product_power P Q' n) at (under n P Q P' Q') in
    between ((n + 2) * (P * Q' * (P * Q'))) (n * (Q * P' * (Q * P'))) (P * Q' * (P * Q')) (Q ^ n) (P' ^ n) (P ^ n) (Q' ^ n) h U c v
    (one-le-pow n Q hQ) (one-le-pow n Q' hQ')
    (omega (arith, t))
    k l

-- ---- the line

-- squares: p, q, s of the point where the line touches; P, Q, S of the other point; d of D, x of x
below_at : (n e h f p q s P Q S d x H : ℕ) → p + s ≡ q → P + S ≡ Q → x * P ≡ S * d → 2 * q * d * e ≡ H →
    H * h * ((n + 2) * (P * q)) ≤ H * h * (n * (Q * p)) + 2 * f * (P * q) → 2 * q * P * (e * d * h * (2 * q + n * s)) ≤ 2 * q * P * (f + e * h * n * p * x)
below_at n e h f p q s P Q S d x H a b c m t =
    let u : H * h * P * (2 * q + n * s) ≤ H * h * n * p * S + 2 * f * (P * q) = omega (arith, t, ap (λ z. H * h * n * P * z) a, ap (λ z. H * h * n * p * z) b) in
    let v : 2 * q * P * (e * d * h * (2 * q + n * s)) ≡ H * h * P * (2 * q + n * s) = rw (sym m) (omega arith) in
    let w : 2 * q * P * (e * h * n * p * x) ≡ H * h * n * p * S = rw (sym m) (omega (arith, ap (λ z. 2 * q * e * h * n * p * z) c)) in
    omega (arith, u, v, w)

root_pos : (P Q s : ℕ) → 0 < P → P * P + s ≡ Q * Q → 0 < Q
root_pos P zero s h e = absurd (omega (arith, mul-pos h h, e))
root_pos P (suc Q) s h e = omega arith

line_below : (n U D H e h P Q S x f : ℕ) → 0 < P → P * P + S * S ≡ Q * Q → 2 * (Q * Q) * (D * D) * e ≡ H → h * Q ^ n ≤ U * P ^ n → Tall n U D H x f →
    top n D e h Q S ≤ f + fall n e h P * (x * x)
unfolding Tall
line_below n U D H e h P Q S x f hP s m k (P', Q', S', hP', ex, s', t) =
    let hQ = root_pos P Q (S * S) hP s in
    let c = touches n h U P' Q' P Q f H (root_pos P' Q' (S' * S') hP' s') hQ k t in
    le_of_mul-le-mul_left {k = 2 * (Q * Q) * (P' * P')}
    (below_at n e h f (P * P) (Q * Q) (S * S) (P' * P') (Q' * Q') (S' * S') (D * D) (x * x) H s s' (omega (arith, ap (λ z. z * z) ex)) m (omega (arith, c)))
    (mul-pos (mul-pos (omega arith) (mul-pos hQ hQ)) (mul-pos hP' hP'))

-- where y = m/d is at least 1, 1/yⁿ is at most 1/y²
far_power : (n U d m : ℕ) → d ≤ m → m * m * (U * d ^ (n + 2)) ≤ U * (d * d) * m ^ (n + 2)
far_power n U d m h =
    let two : (z : ℕ) → z ^ (n + 2) ≡ z ^ n * z * z = λ z. subst (λ (j : ℕ). z ^ j ≡ z ^ n * z * z) (omega arith) (pow-suc z (suc n) ∙ ap (λ t. t * z) (pow-suc z n)) in
    rw (two d, two m) (omega (arith, mul-le-mul_left (U * (m * m) * (d * d)) (pow-le-pow_left h n)))

far_at : (n U e h p q s d m : ℕ) → p + s ≡ q → m * h * ((n + 2) * (4 * d * q)) ≤ m * h * (n * (m * p)) + 2 * (U * (4 * d)) * (4 * d * q) →
    4 * (e * d * h * (2 * q + n * s)) * m ≤ 16 * (U * (2 * q * d * e) * d) + e * h * n * p * (m * m)
far_at n U e h p q s d m a t =
    let c : 2 * q + n * s ≤ (n + 2) * q = omega (arith, ap (λ z. n * z) a) in
    let u : 4 * (e * d * h * (2 * q + n * s)) * m ≤ e * (m * h * ((n + 2) * (4 * d * q))) = omega (arith, mul-le-mul_left (4 * e * d * h * m) c) in
    let v : e * (m * h * (n * (m * p)) + 2 * (U * (4 * d)) * (4 * d * q)) ≡ 16 * (U * (2 * q * d * e) * d) + e * h * n * p * (m * m) = omega arith in
    subst (λ (z : ℕ). 4 * (e * d * h * (2 * q + n * s)) * m ≤ z) v (le_trans u (mul-le-mul_left e t))

near_at : (n U e h p q s d m : ℕ) → p + s ≡ q → h * ((n + 2) * q) ≤ h * (n * p) + 2 * U * q → m ≤ 4 * d →
    4 * (e * d * h * (2 * q + n * s)) * m ≤ 16 * (U * (2 * q * d * e) * d) + e * h * n * p * (m * m)
near_at n U e h p q s d m a t b =
    let c : h * (2 * q + n * s) ≤ 2 * U * q = omega (arith, t, ap (λ z. h * n * z) a) in
    let v : 4 * e * d * m * (h * (2 * q + n * s)) ≤ 4 * e * d * m * (2 * U * q) = mul-le-mul_left (4 * e * d * m) c in
    omega (arith, v, mul-le-mul_left (8 * e * d * U * q) b)

line_hyperbola : (k U D H e h P Q S m : ℕ) → 0 < D → 0 < P → P * P + S * S ≡ Q * Q → 2 * (Q * Q) * (D * D) * e ≡ H → h * Q ^ (k + 2) ≤ U * P ^ (k + 2) →
    4 * top (k + 2) D e h Q S * (m * m) ≤ 16 * (U * H * (D * D)) + fall (k + 2) e h P * (m * m * (m * m))
line_hyperbola k U D H e h P Q S m hD hP s g b =
    let hQ = root_pos P Q (S * S) hP s in
    rw (sym g)
    (elim (dec_le (2 * D) m) [
      | yes r ↦
          let t = touches (k + 2) h U (2 * D) m P Q (U * (2 * D * (2 * D))) (m * m) (lt_of_lt_of_le (omega arith) r) hQ b (far_power k U (2 * D) m r) in
          far_at (k + 2) U e h (P * P) (Q * Q) (S * S) (D * D) (m * m) s (omega (arith, t))
      | no r ↦
          let o : 1 * (U * 1 ^ (k + 2)) ≤ U * 1 ^ (k + 2) = omega arith in
          let t = touches (k + 2) h U 1 1 P Q U 1 (omega arith) hQ b o in
          let l = le_of_lt (lt_of_not-le r) in
          near_at (k + 2) U e h (P * P) (Q * Q) (S * S) (D * D) (m * m) s (omega (arith, t)) (omega (arith, mul-le-mul l l))
    ])

-- the line lies where `Lines` asks
pub line : (k U D H e h P Q S : ℕ) → 0 < D → 0 < P → P * P + S * S ≡ Q * Q → 2 * (Q * Q) * (D * D) * e ≡ H → h * Q ^ (k + 2) ≤ U * P ^ (k + 2) →
    Line (U * H * (D * D)) (Tall (k + 2) U D H) (top (k + 2) D e h Q S) (fall (k + 2) e h P)
unfolding Line
line k U D H e h P Q S hD hP s g b =
    ((λ x f. line_below (k + 2) U D H e h P Q S x f hP s g b), (λ m. line_hyperbola k U D H e h P Q S m hD hP s g b))

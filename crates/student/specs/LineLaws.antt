-- Laws of Lines.antt: where each piece under the curve is a line in y² that lies below the ends of the pieces over it, what lies under never sums to more than what
-- lies over (`no_more`). A piece under the curve is cut where one over it ends.
use Rattle.std.specs.Prelude.{◌≡◌, List, [], ◌∷◌, ℕ, ◌+◌, ◌*◌, ◌≤◌, ◌<◌}
use Rattle.std.proofs.Common.{sym, ap, subst, inl, inr, mul-le-mul_left, le_refl, le_trans, le_of_lt, lt_of_not-le, eq-or-lt_of_le, lt_of_lt_of_le, mul-pos, arith}
use Rattle.std.proofs.Math.Nat.{le_of_mul-le-mul_left, le_dest}
use Rattle.std.proofs.Math.Decide.{dec_le}
use Rattle.student.specs.Lines.{Under, Over, under_sum, over_sum, Line, Lower, Upper}

-- ---- one line and one piece over the curve

-- at the squares X and X + D of the ends of the piece over the curve; σ is a² + a b + b², three times the mean of y² from a to b
mean : (A B f g X D σ t u : ℕ) → σ ≡ 3 * X + t → t + u ≡ 3 * D → A ≤ f + B * X → A ≤ g + B * (X + D) →
    3 * A * D + f * σ + 3 * g * X ≤ 3 * f * (X + D) + g * σ + D * B * σ
mean A B f g X D σ t u s e h k =
    rw s
    (omega (arith, mul-le-mul_left u h, mul-le-mul_left t k, ap (λ z. A * z) e, ap (λ z. f * z) e, ap (λ z. B * X * z) e))

wide : (A B f g X Y D σ a w c : ℕ) → 3 * A * D + f * σ + 3 * g * X ≤ 3 * f * Y + g * σ + D * B * σ →
    D * (3 * A * (a + w) + B * c) + (f * (c + w * σ) + 3 * g * X * (a + w)) + (3 * f * Y * a + g * c)
    ≤ 3 * f * Y * (a + w) + g * (c + w * σ) + (f * c + 3 * g * X * a) + D * (3 * A * a + B * (c + w * σ))
wide A B f g X Y D σ a w c h = omega (arith, mul-le-mul_left w h)

pub cube : (a w b : ℕ) → a + w ≡ b → b * b * b ≡ a * a * a + w * (a * a + a * b + b * b)
cube a w b e = rw (sym e) (omega arith)

-- the two parts of σ: over the start x of the piece, and below its end
above_start : (x d a w b : ℕ) → x + d ≡ a → a + w ≡ b → a * a + a * b + b * b ≡ 3 * (x * x) + (6 * x * d + 3 * d * d + 3 * a * w + w * w)
above_start x d a w b e f = rw (sym f, sym e) (omega arith)

below_end : (x d a w b r y D : ℕ) → x + d ≡ a → a + w ≡ b → b + r ≡ y → x * x + D ≡ y * y →
    6 * x * d + 3 * d * d + 3 * a * w + w * w + (3 * a * w + 2 * w * w + 6 * b * r + 3 * r * r) ≡ 3 * D
below_end x d a w b r y D e f g h = rw (sym f, sym e) (omega (arith, rw (sym g, sym f, sym e) at h))

-- The line (A, B) lies below f at x and below g at y: from a to b, between them, it has no more area than the line through f and g.
cut : (A B f g x a b y D : ℕ) → x ≤ a → a ≤ b → b ≤ y → x * x + D ≡ y * y → A ≤ f + B * (x * x) → A ≤ g + B * (y * y) →
    D * (3 * A * b + B * (a * a * a)) + (f * (b * b * b) + 3 * g * (x * x) * b) + (3 * f * (y * y) * a + g * (a * a * a))
    ≤ 3 * f * (y * y) * b + g * (b * b * b) + (f * (a * a * a) + 3 * g * (x * x) * a) + D * (3 * A * a + B * (b * b * b))
cut A B f g x a b y D p q r h k l =
    let d = le_dest p in
    let w = le_dest q in
    let z = le_dest r in
    let m = mean A B f g (x * x) D _ _ _ (above_start x d.0 a w.0 b d.1 w.1) (below_end x d.0 a w.0 b z.0 y D d.1 w.1 z.1 h) k (rw (sym h) at l) in
    rw (cube a w.0 b w.1)
    (subst (λ (v : ℕ). D * (3 * A * v + B * (a * a * a)) + (f * (a * a * a + w.0 * (a * a + a * b + b * b)) + 3 * g * (x * x) * v) + (3 * f * (y * y) * a + g * (a * a * a)) ≤ 3 * f * (y * y) * v + g * (a * a * a + w.0 * (a * a + a * b + b * b)) + (f * (a * a * a) + 3 * g * (x * x) * a) + D * (3 * A * a + B * (a * a * a + w.0 * (a * a + a * b + b * b)))) w.1
    (wide A B f g (x * x) (y * y) D _ a w.0 (a * a * a) (rw h at m)))

-- ---- a line below K/y²

-- m = a + b: the mean of y² is at least m²/4, and a b at most that
tangent : (A B K c q σ w : ℕ) → 4 * c + w * w ≡ q → 4 * σ ≡ 3 * q + w * w → 4 * A * q ≤ 16 * K + B * (q * q) → 3 * A * c ≤ 3 * K + c * B * σ
tangent A B K c q σ w e f h =
    elim (dec_le (4 * A) (B * q)) [
      | yes k ↦ omega (arith, mul-le-mul_left (3 * c) k, ap (λ z. c * B * z) f)
      | no k ↦ let d = le_dest (le_of_lt (lt_of_not-le k)) in
          let i : d.0 * q ≤ 16 * K = omega (arith, ap (λ z. z * q) d.1, h) in
          let j : 4 * c * d.0 ≤ d.0 * q = omega (arith, ap (λ z. z * d.0) e) in
          omega (arith, i, j, ap (λ z. c * z) d.1, ap (λ z. c * B * z) f)
    ]

sides : (a w b : ℕ) → a + w ≡ b → 4 * (a * b) + w * w ≡ (a + b) * (a + b)
sides a w b e = rw (sym e) (omega arith)

means : (a w b : ℕ) → a + w ≡ b → 4 * (a * a + a * b + b * b) ≡ 3 * ((a + b) * (a + b)) + w * w
means a w b e = rw (sym e) (omega arith)

scaled : (A B K a w b σ c : ℕ) → a + w ≡ b → 3 * A * (a * b) ≤ 3 * K + a * b * B * σ →
    a * b * (3 * A * b + B * c) ≤ 3 * K * w + a * b * (3 * A * a + B * (c + w * σ))
scaled A B K a w b σ c e h = omega (arith, mul-le-mul_left w h, ap (λ z. a * b * A * z) e)

-- from a to b the line has no more area than K/y², which has K (b - a)/(a b)
hyperbola : (A B K a w b : ℕ) → a + w ≡ b → 4 * A * ((a + b) * (a + b)) ≤ 16 * K + B * ((a + b) * (a + b) * ((a + b) * (a + b))) →
    a * b * (3 * A * b + B * (a * a * a)) ≤ 3 * K * w + a * b * (3 * A * a + B * (b * b * b))
hyperbola A B K a w b e h =
    rw (cube a w b e)
    (scaled A B K a w b _ (a * a * a) e (tangent A B K (a * b) ((a + b) * (a + b)) _ w (sides a w b e) (means a w b e) h))

-- ---- pieces under the curve, the first of them cut at a

-- three times the area that is left beyond a, as a difference
gains : ℕ → ℕ → List Under → ℕ
gains W a [] = 0
gains W a (p ∷ ps) = 3 * p.top * p.end + p.fall * (a * a * a) + W * under_sum ps

losses : ℕ → List Under → ℕ
losses a [] = 0
losses a (p ∷ ps) = 3 * p.top * a + p.fall * (p.end * p.end * p.end)

Cut : ℕ → ℕ → (ℕ → ℕ → Type 0) → ℕ → List Under → Type 0
Cut W K Tall a [] = Unit
Cut W K Tall a (p ∷ ps) = (a ≤ p.end) × Line K Tall p.top p.fall × Lower W K Tall p.end ps

uncut : (W K : ℕ) (Tall : ℕ → ℕ → Type 0) (a : ℕ) (ps : List Under) → Lower W K Tall a ps → Cut W K Tall a ps
unfolding Lower Cut
uncut W K Tall a [] h = tt
uncut W K Tall a (p ∷ ps) h = (h.0, h.1, h.3)

-- where the first is whole, all areas are in it
whole : (W K : ℕ) (Tall : ℕ → ℕ → Type 0) (a : ℕ) (ps : List Under) → Lower W K Tall a ps → W * under_sum ps + losses a ps ≤ gains W a ps
unfolding Lower gains losses under_sum
whole W K Tall a [] h = omega arith
whole W K Tall a (p ∷ ps) h = omega (arith, h.2)

-- beyond a there is no more area under the line and the pieces after it than under K/y²
joined : (K W a w b G L t R S : ℕ) → a + w ≡ b → 0 < b → a * b * G ≤ 3 * K * w + a * b * L → b * S ≤ 3 * K + b * R → W * t + R ≤ S →
    a * (G + W * t) ≤ 3 * K + a * L
joined K W a w b G L t R S e p h k l =
    le_of_mul-le-mul_left {k = b}
    (omega (arith, h, mul-le-mul_left a k, mul-le-mul_left (a * b) l, ap (λ z. 3 * K * z) e))
    p

tail : (W K : ℕ) (Tall : ℕ → ℕ → Type 0) (a : ℕ) (ps : List Under) → 0 < a → Cut W K Tall a ps → a * gains W a ps ≤ 3 * K + a * losses a ps
unfolding Cut gains losses Line
tail W K Tall a [] q h = omega arith
tail W K Tall a (p ∷ ps) q h =
    let w = le_dest h.0 in
    let z = lt_of_lt_of_le q h.0 in
    joined K W a w.0 p.end _ _ (under_sum ps) _ _ w.1 z
    (hyperbola p.top p.fall K a w.0 p.end w.1 (h.1.1 (a + p.end)))
    (tail W K Tall p.end ps z (uncut W K Tall p.end ps h.2))
    (whole W K Tall p.end ps h.2)

-- Beyond a there is at most R, where a is in the piece over the curve from x to y, with the heights f and g, and D = y² - x²; all multiplied by D.
Rest : ℕ → ℕ → ℕ → List Under → Type 0
Rest W R a ps = gains W a ps ≤ R + losses a ps

-- the parts of the cut that belong to the piece over the curve, at its end v
up : ℕ → ℕ → ℕ → ℕ → ℕ
up f g Y v = 3 * f * Y * v + g * (v * v * v)

down : ℕ → ℕ → ℕ → ℕ → ℕ
down f g X v = f * (v * v * v) + 3 * g * X * v

ends_inside : (D W t G L g₁ g₂ g₃ u₁ u₂ u₃ R S Q : ℕ) → D * G + g₂ + u₁ ≤ u₂ + g₁ + D * L → D * S + g₃ + u₂ ≤ u₃ + g₂ + D * R + D * Q → W * t + Q ≤ S →
    D * (G + W * t) + g₃ + u₁ ≤ u₃ + g₁ + D * R + D * L
ends_inside D W t G L g₁ g₂ g₃ u₁ u₂ u₃ R S Q h k l = omega (arith, h, k, mul-le-mul_left D l)

ends_outside : (D G L g₁ g₃ u₁ u₃ R S Q : ℕ) → D * G + g₃ + u₁ ≤ u₃ + g₁ + D * L → S + L ≤ R + G + Q → D * S + g₃ + u₁ ≤ u₃ + g₁ + D * R + D * Q
ends_outside D G L g₁ g₃ u₁ u₃ R S Q h k = omega (arith, h, mul-le-mul_left D k)

inner : (W K R f g x y D : ℕ) (Tall : ℕ → ℕ → Type 0) → Tall x f → Tall y g → x * x + D ≡ y * y →
    ((ps : List Under) → Cut W K Tall y ps → Rest W R y ps) → (a : ℕ) (ps : List Under) → x ≤ a → a ≤ y → Cut W K Tall a ps →
    D * gains W a ps + down f g (x * x) y + up f g (y * y) a ≤ up f g (y * y) y + down f g (x * x) a + D * R + D * losses a ps
unfolding Cut gains losses Line up down Rest
inner W K R f g x y D Tall t u e go a [] p q h = omega (arith, cut 0 0 f g x a y y D p q (le_refl y) e (omega arith) (omega arith))
inner W K R f g x y D Tall t u e go a (l ∷ ps) p q h =
    elim (dec_le l.end y) [
      | yes k ↦
          ends_inside D W (under_sum ps) (3 * l.top * l.end + l.fall * (a * a * a)) (3 * l.top * a + l.fall * (l.end * l.end * l.end))
          (down f g (x * x) a) (down f g (x * x) l.end) (down f g (x * x) y) (up f g (y * y) a) (up f g (y * y) l.end) (up f g (y * y) y) R _ _
          (cut l.top l.fall f g x a l.end y D p h.0 k e (h.1.0 x f t) (h.1.0 y g u))
          (inner W K R f g x y D Tall t u e go l.end ps (le_trans p h.0) k (uncut W K Tall l.end ps h.2))
          (whole W K Tall l.end ps h.2)
      | no k ↦
          let j = le_of_lt (lt_of_not-le k) in
          ends_outside D (3 * l.top * y + l.fall * (a * a * a)) (3 * l.top * a + l.fall * (y * y * y))
          (down f g (x * x) a) (down f g (x * x) y) (up f g (y * y) a) (up f g (y * y) y) R _ _
          (cut l.top l.fall f g x a y y D p q (le_refl y) e (h.1.0 x f t) (h.1.0 y g u))
          (omega (arith, go (l ∷ ps) (j, h.1, h.2)))
    ]

-- ---- all pieces over the curve

tall : (W K T x f : ℕ) (Tall : ℕ → ℕ → Type 0) (os : List Over) → Upper W K T Tall x f os → Tall x f
unfolding Upper
tall W K T x f Tall [] h = h.1
tall W K T x f Tall (o ∷ os) h = h.1

square_gap : (x w y : ℕ) → x + w ≡ y → x * x + w * (x + y) ≡ y * y
square_gap x w y e = rw (sym e) (omega arith)

box_at : (f g x w r : ℕ) → w * (f * (2 * (x + w) + x) + g * (x + w + 2 * x)) ≤ (x + (x + w)) * r →
    3 * f * ((x + w) * (x + w)) * (x + w) + g * ((x + w) * (x + w) * (x + w)) + (f * (x * x * x) + 3 * g * (x * x) * x)
    ≤ w * (x + (x + w)) * r + (f * ((x + w) * (x + w) * (x + w)) + 3 * g * (x * x) * (x + w)) + (3 * f * ((x + w) * (x + w)) * x + g * (x * x * x))
box_at f g x w r h = omega (arith, mul-le-mul_left w h)

box : (f g x w y r : ℕ) → x + w ≡ y → w * (f * (2 * y + x) + g * (y + 2 * x)) ≤ (x + y) * r →
    up f g (y * y) y + down f g (x * x) x ≤ w * (x + y) * r + down f g (x * x) y + up f g (y * y) x
unfolding up down
box f g x w y r e h = rw (sym e) (box_at f g x w r (rw (sym e) at h))

divided : (D G L R r u₁ u₃ g₁ g₃ : ℕ) → 0 < D → D * G + g₃ + u₁ ≤ u₃ + g₁ + D * R + D * L → u₃ + g₁ ≤ D * r + g₃ + u₁ → G ≤ r + R + L
divided D G L R r u₁ u₃ g₁ g₃ p h k = le_of_mul-le-mul_left {k = D} (omega (arith, h, k)) p

outer : (W K T : ℕ) (Tall : ℕ → ℕ → Type 0) (os : List Over) (x f : ℕ) (ps : List Under) → Upper W K T Tall x f os → Cut W K Tall x ps → Rest W (W * (over_sum os + T)) x ps
unfolding Upper Rest over_sum
outer W K T Tall [] x f ps u h =
    le_of_mul-le-mul_left {k = x} (omega (arith, tail W K Tall x ps u.0 h, u.2)) u.0
outer W K T Tall (o ∷ os) x f ps u h =
    let go : (qs : List Under) → Cut W K Tall o.end qs → Rest W (W * (over_sum os + T)) o.end qs = λ qs c. outer W K T Tall os o.end o.height qs u.3 c in
    elim (eq-or-lt_of_le u.0) [
      | inl e ↦ omega (arith, subst (λ (a : ℕ). Cut W K Tall a ps → Rest W (W * (over_sum os + T)) a ps) (sym e) (go ps) h)
      | inr l ↦
          let w = le_dest u.0 in
          let d = w.0 * (x + o.end) in
          omega (
            arith,
            divided d _ _ (W * (over_sum os + T)) (W * o.area) _ _ _ _ (mul-pos (omega (arith, w.1, l)) (omega (arith, l)))
                (inner W K (W * (over_sum os + T)) f o.height x o.end d Tall u.1 (tall W K T _ _ Tall os u.3) (square_gap x w.0 o.end w.1) go x ps (le_refl x) u.0 h)
                (box f o.height x w.0 o.end (W * o.area) w.1 (u.2 w.0 w.1)),
          )
    ]

-- what lies under the curve is no more than what lies over it and its tail
pub no_more : (W K T : ℕ) (Tall : ℕ → ℕ → Type 0) (x f : ℕ) (ps : List Under) (os : List Over) → 0 < W → Lower W K Tall x ps → Upper W K T Tall x f os → under_sum ps ≤ over_sum os + T
unfolding Rest
no_more W K T Tall x f ps os p l u =
    le_of_mul-le-mul_left {k = W} (omega (arith, whole W K Tall x ps l, outer W K T Tall os x f ps u (uncut W K Tall x ps l))) p

-- Laws of Strips.antt: the partitions of `ByArea` as pieces under and over the curve (`Lines`), all in one unit. Whatever two partitions are taken, what the one has
-- under the curve is no more than what the other has over it and its tail (`strips`).
use Rattle.std.specs.Prelude.{◌≡◌, refl, List, [], ◌∷◌, ◌++◌, ℕ, zero, suc, ◌+◌, ◌-◌, ◌*◌, ◌/◌, ◌^◌, ◌≤◌, ◌<◌, get_or}
use Rattle.std.proofs.Common.{sym, ap, ap₂, subst, ◌∙◌, inl, inr, mul-le-mul, mul-le-mul_left, le_refl, le_trans, le_of_lt, lt_of_not-le, lt_of_le_of_lt, mul-pos, div-mul-le_self, sub-eq-zero_of_le, add_left_cancel, eq-zero-or-pos, mul-add, add_assoc, mul_comm, mul_assoc, eq-or-lt_of_le, le_of_suc-le-suc, arith}
use Rattle.std.proofs.Math.Nat.{le_dest, lt-mul-div-succ, zero-div, mul-div_cancel_left, le_intro, one-le-pow}
use Rattle.std.proofs.Math.Decide.{dec_le}
use Rattle.student.specs.RatioLaws.{two_factors}
use Rattle.student.specs.Series.{product}
use Rattle.student.specs.SeriesLaws.{product_pos}
use Rattle.student.specs.ByArea.{height, piece, piece_of, piece_at, Node, start, add_pieces, nodes_from, nodes, node, last_node, tail_bound}
use Rattle.student.specs.Parabolas.{point, width}
use Rattle.student.specs.Lines.{Under, Over, under_sum, over_sum, Line, Lower, Upper}
use Rattle.student.specs.LineLaws.{cube, no_more}
use Rattle.student.specs.Tangent.{Tall, top, fall}
use Rattle.student.specs.TangentLaws.{line}
use Rattle.student.specs.Strips.{step, run}

-- ---- a partition, piece by piece

abbrev unit : ℕ
unit = 100000000000000000000

again : ℕ → ℕ → List ℕ → List ℕ
again zero g gs = gs
again (suc n) g gs = g ∷ again n g gs

flat : List (ℕ × ℕ) → List ℕ
flat [] = []
flat (s ∷ ss) = again s.1 s.0 (flat ss)

run_again : (ν M g n : ℕ) (m : Node) (gs : List ℕ) → run ν M m (again n g gs) ≡ run ν M (add_pieces ν M g n m.0 m.1 m.2) gs
unfolding run again add_pieces
run_again ν M g zero m gs = refl
run_again ν M g (suc n) m gs = run_again ν M g n (step ν M m g) gs

run_flat : (ν M : ℕ) (m : Node) (ss : List (ℕ × ℕ)) → run ν M m (flat ss) ≡ last_node m (nodes_from ν M m ss)
unfolding flat nodes_from last_node run
run_flat ν M m [] = refl
run_flat ν M m (s ∷ ss) = run_again ν M s.0 s.1 m (flat ss) ∙ run_flat ν M (add_pieces ν M s.0 s.1 m.0 m.1 m.2) ss

run_join : (ν M : ℕ) (m : Node) (hs gs : List ℕ) → run ν M m (hs ++ gs) ≡ run ν M (run ν M m hs) gs
unfolding run
run_join ν M m [] gs = refl
run_join ν M m (h ∷ hs) gs = run_join ν M (step ν M m h) hs gs

-- pieces lead from each node to the last
to_last : (ν M : ℕ) (d m : Node) (ss : List (ℕ × ℕ)) (n : ℕ) (hs : List ℕ) → run ν M d hs ≡ m →
    (gs : List ℕ) × (run ν M (get_or (nodes_from ν M m ss) n d) gs ≡ last_node m (nodes_from ν M m ss))
unfolding nodes_from last_node run
to_last ν M d m [] n hs e = (hs, e)
to_last ν M d m (s ∷ ss) zero hs e = (flat ss, run_flat ν M (add_pieces ν M s.0 s.1 m.0 m.1 m.2) ss)
to_last ν M d m (s ∷ ss) (suc n) hs e =
    to_last ν M d (add_pieces ν M s.0 s.1 m.0 m.1 m.2) ss n (hs ++ again s.1 s.0 [])
    (run_join ν M d hs (again s.1 s.0 []) ∙ ap (λ (x : Node). run ν M x (again s.1 s.0 [])) e ∙ run_again ν M s.0 s.1 m [])

pub from_node : (ν M : ℕ) (partition : List (ℕ × ℕ)) (n : ℕ) → (gs : List ℕ) × (run ν M (node (nodes ν M partition) n) gs ≡ last_node start (nodes ν M partition))
unfolding node nodes run
from_node ν M partition n = to_last ν M start start partition n [] refl

pub from_start : (ν M : ℕ) (partition : List (ℕ × ℕ)) → (gs : List ℕ) × (run ν M start gs ≡ last_node start (nodes ν M partition))
unfolding nodes
from_start ν M partition = (flat partition, run_flat ν M start partition)

rises : (ν M : ℕ) (m : Node) (gs : List ℕ) → m.0 ≤ (run ν M m gs).0
unfolding run
rises ν M m [] = le_refl _
rises ν M m (g ∷ gs) = le_trans (omega arith) (rises ν M (step ν M m g) gs)

-- ---- points

abbrev gap : ℕ → ℕ → ℕ
gap M i = M ^ 2 - i ^ 2

abbrev hull : ℕ → ℕ → ℕ
hull M i = M ^ 2 + i ^ 2

gap_sum : (M i : ℕ) → i ≤ M → gap M i + i * i ≡ M * M
gap_sum M i h = rw (two_factors M, two_factors i) (omega (arith, mul-le-mul h h))

gap_pos : (M i : ℕ) → i < M → 0 < gap M i
gap_pos M i h = rw (two_factors M, two_factors i) (omega (arith, mul-le-mul h h))

hull_is : (M i : ℕ) → hull M i ≡ M * M + i * i
hull_is M i = rw (two_factors M, two_factors i)

hull_pos : (M i : ℕ) → i < M → 0 < hull M i
hull_pos M i h = rw (hull_is M i) (omega (arith, mul-le-mul h h))

circle : (M i : ℕ) → i ≤ M → gap M i * gap M i + 2 * i * M * (2 * i * M) ≡ hull M i * hull M i
circle M i h = rw (hull_is M i) (omega (arith, point i M (gap M i) (gap_sum M i h)))

height_below : (ν P Q : ℕ) → height ν P Q * Q ^ (ν + 1) ≤ unit * P ^ (ν + 1)
unfolding height
height_below ν P Q = div-mul-le_self _ _

height_above : (ν P Q : ℕ) → 0 < Q ^ (ν + 1) → unit * P ^ (ν + 1) ≤ Q ^ (ν + 1) * (height ν P Q + 1)
unfolding height
height_above ν P Q h = le_of_lt (lt-mul-div-succ _ h)

-- ---- the two areas of a piece, as they are rounded

abbrev highest : ℕ → ℕ → ℕ → ℕ → ℕ
highest n q s v = (6 * q + n * 3 * s) * (v * v)

abbrev fallen : ℕ → ℕ → ℕ → ℕ → ℕ → ℕ
fallen n p m a b = n * p * (m * m) * (a * a + a * b + b * b)

under_of : (ν M i p j P P' P'' Q Q' Q'' a b : ℕ) → (piece_of ν M i p j P P' P'' Q Q' Q'' a b).0 * (6 * (Q' * Q') * (P * P'' * (P * P'')) * (P * P'')) ≤
    height ν P' Q' * (highest (ν + 1) (Q' * Q') (2 * p * M * (2 * p * M)) (P * P'') - fallen (ν + 1) (P' * P') (2 * M) a b) * (2 * M * (M * M + i * j) * (j - i))
unfolding piece_of piece
under_of ν M i p j P P' P'' Q Q' Q'' a b = simp two_factors (div-mul-le_self _ _)

under_none : (ν M i p j P P' P'' Q Q' Q'' a b : ℕ) → highest (ν + 1) (Q' * Q') (2 * p * M * (2 * p * M)) (P * P'') - fallen (ν + 1) (P' * P') (2 * M) a b ≡ 0 →
    (piece_of ν M i p j P P' P'' Q Q' Q'' a b).0 ≡ 0
unfolding piece_of piece
under_none ν M i p j P P' P'' Q Q' Q'' a b e =
    simp two_factors (ap (λ (z : ℕ). height ν P' Q' * z * (2 * M * (M * M + i * j) * (j - i)) / (6 * (Q' * Q') * (P * P'' * (P * P'')) * (P * P''))) e ∙ ap (λ (z : ℕ). z / (6 * (Q' * Q') * (P * P'' * (P * P'')) * (P * P''))) (omega arith) ∙ zero-div _)

over_of : (ν M i p j P P' P'' Q Q' Q'' a b : ℕ) → 0 < 3 * (a + b) * (P * P'') →
    ((height ν P Q + 1) * (a + 2 * b) + (height ν P'' Q'' + 1) * (2 * a + b)) * (2 * M * (M * M + i * j) * (j - i)) ≤ 3 * (a + b) * (P * P'') * (piece_of ν M i p j P P' P'' Q Q' Q'' a b).1
unfolding piece_of piece
over_of ν M i p j P P' P'' Q Q' Q'' a b h = simp two_factors (le_of_lt (lt-mul-div-succ _ h))

-- ---- points in one unit: the y of point i is x/D, with D = D₀ D₀, where the gap at each point divides D₀

abbrev at : ℕ → ℕ → ℕ → ℕ
at M D₀ i = 2 * i * M * (D₀ / gap M i) * D₀

-- the gap at each point below M divides D₀
Parted : ℕ → ℕ → Type 0
Parted M D₀ = (i : ℕ) → i < M → gap M i * (D₀ / gap M i) ≡ D₀

start_of : (i M d d'' P'' D₀ : ℕ) → P'' * d'' ≡ D₀ → 2 * i * M * d * D₀ ≡ d * d'' * (2 * M) * (i * P'')
start_of i M d d'' P'' D₀ e = rw (sym e) (omega arith)

end_of : (j M d d'' P D₀ : ℕ) → P * d ≡ D₀ → 2 * j * M * d'' * D₀ ≡ d * d'' * (2 * M) * (j * P)
end_of j M d d'' P D₀ e = rw (sym e) (omega arith)

both : (P P'' d d'' D₀ : ℕ) → P * d ≡ D₀ → P'' * d'' ≡ D₀ → P * P'' * (d * d'') ≡ D₀ * D₀
both P P'' d d'' D₀ e f =
    let z : P * d * (P'' * d'') ≡ D₀ * D₀ = ap₂ (λ (x y : ℕ). x * y) e f in
    omega (arith, z)

apart : (i j w M P R δ : ℕ) → i + w ≡ j → P + i * i ≡ M * M → R + j * j ≡ M * M → δ * (2 * M) * (i * R) + δ * (2 * M * (M * M + i * j) * w) ≡ δ * (2 * M) * (j * P)
apart i j w M P R δ e h k = omega (arith, ap (λ z. δ * (2 * M) * z) (width i j w M P R h k e))

-- ---- a piece under the curve

under_core : (u h q p s n v δ e m τ w H D : ℕ) → v * δ ≡ D → 2 * q * (D * D) * e ≡ H →
    u * (6 * q * (v * v) * v) + h * w * (n * p * (m * m) * τ) ≤ h * w * ((6 * q + n * 3 * s) * (v * v)) →
    3 * H * D * u + e * h * n * p * (δ * w * (δ * m * (δ * m) * τ)) ≤ 3 * (e * (D * D) * h * (2 * q + n * s)) * (δ * w)
under_core u h q p s n v δ e m τ w H D a b k =
    let f : 3 * (2 * q * (v * δ * (v * δ)) * e) * (v * δ) * u ≡ δ * δ * δ * e * (u * (6 * q * (v * v) * v)) = omega arith in
    let g : e * h * n * p * (δ * w * (δ * m * (δ * m) * τ)) ≡ δ * δ * δ * e * (h * w * (n * p * (m * m) * τ)) = omega arith in
    let i : δ * δ * δ * e * (h * w * ((6 * q + n * 3 * s) * (v * v))) ≡ 3 * (e * (v * δ * (v * δ)) * h * (2 * q + n * s)) * (δ * w) = omega arith in
    rw (sym b, sym a, f, g, ← i, ← mul-add) (mul-le-mul_left (δ * δ * δ * e) k)

mean_of_lem : (c a b : ℕ) → c * a * (c * a) + c * a * (c * b) + c * b * (c * b) ≡ c * c * (a * a + a * b + b * b)
mean_of_lem c a b = omega arith

fits : (W u A B x y w σ c : ℕ) → W * u + B * (w * σ) ≤ 3 * A * w → x + w ≡ y → W * u + B * (c + w * σ) + 3 * A * x ≤ 3 * A * y + B * c
fits W u A B x y w σ c h e = omega (arith, h, ap (λ z. 3 * A * z) e)

under_fits : (u h q p s n v δ e m a b w H D x y : ℕ) → v * δ ≡ D → 2 * q * (D * D) * e ≡ H → x ≡ δ * m * a → y ≡ δ * m * b → x + δ * w ≡ y →
    u * (6 * q * (v * v) * v) + h * w * (n * p * (m * m) * (a * a + a * b + b * b)) ≤ h * w * ((6 * q + n * 3 * s) * (v * v)) →
    3 * H * D * u + e * h * n * p * (y * y * y) + 3 * (e * (D * D) * h * (2 * q + n * s)) * x ≤ 3 * (e * (D * D) * h * (2 * q + n * s)) * y + e * h * n * p * (x * x * x)
under_fits u h q p s n v δ e m a b w H D x y j k l r f t =
    let σ : x * x + x * y + y * y ≡ δ * m * (δ * m) * (a * a + a * b + b * b) = rw (l, r) (mean_of_lem (δ * m) a b) in
    rw (cube x (δ * w) y f)
    (fits (3 * H * D) u _ (e * h * n * p) x y (δ * w) _ (x * x * x) (rw σ (under_core u h q p s n v δ e m _ w H D j k t)) f)

less : (u c h w Z Y : ℕ) → Y ≤ Z → u * c ≤ h * (Z - Y) * w → u * c + h * w * Y ≤ h * w * Z
less u c h w Z Y r t =
    let d = le_dest r in
    let k : Z - Y ≡ d.0 = omega (arith, d.1) in
    omega (arith, rw k at t, ap (λ z. h * w * z) d.1)

-- the tangent, where its mean is not below 0, and else the line 0
whole_line : (ν D H e h P Q S : ℕ) → 0 < ν → 0 < D → 0 < P → P * P + S * S ≡ Q * Q → 2 * (Q * Q) * (D * D) * e ≡ H → h * Q ^ (ν + 1) ≤ unit * P ^ (ν + 1) →
    Line (unit * H * (D * D)) (Tall (ν + 1) unit D H) (top (ν + 1) D e h Q S) (fall (ν + 1) e h P)
whole_line ν D H e h P Q S hν hD hP s g =
    subst (λ (n : ℕ). h * Q ^ n ≤ unit * P ^ n → Line (unit * H * (D * D)) (Tall n unit D H) (top n D e h Q S) (fall n e h P)) (omega arith)
    (line (ν - 1) unit D H e h P Q S hD hP s g)

no_line : (n K D H : ℕ) → Line K (Tall n unit D H) 0 0
unfolding Line
no_line n K D H = ((λ x f t. omega arith), (λ m. omega arith))

under_piece : (ν M D₀ H e i g : ℕ) → 0 < ν → 0 < D₀ → i + 2 * g < M → Parted M D₀ → 2 * (hull M (i + g) * hull M (i + g)) * (D₀ * D₀ * (D₀ * D₀)) * e ≡ H →
    (A : ℕ) × (B : ℕ) × Line (unit * H * (D₀ * D₀ * (D₀ * D₀))) (Tall (ν + 1) unit (D₀ * D₀) H) A B
    × (3 * H * (D₀ * D₀) * (piece_at ν M g i).0 + B * (at M D₀ (i + 2 * g) * at M D₀ (i + 2 * g) * at M D₀ (i + 2 * g)) + 3 * A * at M D₀ i
    ≤ 3 * A * at M D₀ (i + 2 * g) + B * (at M D₀ i * at M D₀ i * at M D₀ i))
unfolding piece_at Parted
under_piece ν M D₀ H e i g hν hD hj parted eH =
    let j = i + 2 * g in
    let p = i + g in
    let P = gap M i in
    let P' = gap M p in
    let P'' = gap M j in
    let Q' = hull M p in
    let S' = 2 * p * M in
    let d = D₀ / gap M i in
    let d'' = D₀ / gap M j in
    let di = parted i (omega arith) in
    let dj = parted j hj in
    let h = height ν P' Q' in
    let Z = highest (ν + 1) (Q' * Q') (S' * S') (P * P'') in
    let Y = fallen (ν + 1) (P' * P') (2 * M) (i * P'') (j * P) in
    let x = start_of i M d d'' P'' D₀ dj in
    let y = end_of j M d d'' P D₀ di in
    let w = apart i j (j - i) M P P'' (d * d'') (omega arith) (gap_sum M i (omega arith)) (gap_sum M j (omega arith)) in
    let u = under_of ν M i p j P P' P'' (hull M i) Q' (hull M j) (i * P'') (j * P) in
    elim (dec_le Y Z) [
      | yes r ↦ (
        top (ν + 1) (D₀ * D₀) e h Q' S',
        fall (ν + 1) e h P',
        whole_line ν (D₀ * D₀) H e h P' Q' S' hν (mul-pos hD hD) (gap_pos M p (omega arith)) (circle M p (omega arith)) eH (height_below ν P' Q'),
        under_fits _ h (Q' * Q') (P' * P') (S' * S') (ν + 1) (P * P'') (d * d'') e (2 * M) (i * P'') (j * P) (2 * M * (M * M + i * j) * (j - i)) H (D₀ * D₀) _ _
            (both P P'' d d'' D₀ di dj) eH x y (rw (x, y) w)
            (less _ _ h _ Z Y r u),
      )
      | no r ↦
          let z = under_none ν M i p j P P' P'' (hull M i) Q' (hull M j) (i * P'') (j * P) (sub-eq-zero_of_le (le_of_lt (lt_of_not-le r))) in
          (0, 0, no_line (ν + 1) _ (D₀ * D₀) H, rw z (omega arith))
    ]

-- ---- a piece over the curve

over_core : (s t H δ m a b v w o D : ℕ) → v * δ ≡ D → (s * (a + 2 * b) + t * (2 * a + b)) * w ≤ 3 * (a + b) * v * o →
    δ * w * (H * s * (2 * (δ * m * b) + δ * m * a) + H * t * (δ * m * b + 2 * (δ * m * a))) ≤ (δ * m * a + δ * m * b) * (3 * H * D * o)
over_core s t H δ m a b v w o D e k =
    let f : δ * w * (H * s * (2 * (δ * m * b) + δ * m * a) + H * t * (δ * m * b + 2 * (δ * m * a))) ≡ δ * δ * m * H * ((s * (a + 2 * b) + t * (2 * a + b)) * w) = omega arith in
    let g : δ * δ * m * H * (3 * (a + b) * v * o) ≡ (δ * m * a + δ * m * b) * (3 * H * (v * δ) * o) = omega arith in
    rw (sym e, f, ← g) (mul-le-mul_left (δ * δ * m * H) k)

-- where both ends are 0 the width is 0
over_none : (s t H x y z D o : ℕ) → x ≡ 0 → y ≡ 0 → x + z ≡ y → z * (H * s * (2 * y + x) + H * t * (y + 2 * x)) ≤ (x + y) * (3 * H * D * o)
over_none s t H x y z D o e f g =
    let k : z ≡ 0 = omega arith in
    rw k (omega arith)

over_fits : (s t H δ m a b v w o D x y z : ℕ) → 0 < v → v * δ ≡ D → x ≡ δ * m * a → y ≡ δ * m * b → x + δ * w ≡ y → x + z ≡ y →
    (0 < 3 * (a + b) * v → (s * (a + 2 * b) + t * (2 * a + b)) * w ≤ 3 * (a + b) * v * o) →
    z * (H * s * (2 * y + x) + H * t * (y + 2 * x)) ≤ (x + y) * (3 * H * D * o)
over_fits s t H δ m a b v w o D x y z hv e l r f g k =
    elim (eq-zero-or-pos (a + b)) [
      | inl n ↦
          let ea : a ≡ 0 = omega arith in
          let eb : b ≡ 0 = omega arith in
          over_none s t H x y z D o (l ∙ rw ea (omega arith)) (r ∙ rw eb (omega arith)) g
      | inr n ↦
          rw (add_left_cancel x (g ∙ sym f), l, r) (over_core s t H δ m a b v w o D e (k (mul-pos (mul-pos (omega arith) n) hv)))
    ]

over_piece : (ν M D₀ H i g z : ℕ) → i + 2 * g < M → Parted M D₀ → at M D₀ i + z ≡ at M D₀ (i + 2 * g) →
    z * (H * (height ν (gap M i) (hull M i) + 1) * (2 * at M D₀ (i + 2 * g) + at M D₀ i) + H * (height ν (gap M (i + 2 * g)) (hull M (i + 2 * g)) + 1) * (at M D₀ (i + 2 * g) + 2 * at M D₀ i))
    ≤ (at M D₀ i + at M D₀ (i + 2 * g)) * (3 * H * (D₀ * D₀) * (piece_at ν M g i).1)
unfolding piece_at Parted
over_piece ν M D₀ H i g z hj parted ez =
    let j = i + 2 * g in
    let P = gap M i in
    let P'' = gap M j in
    let d = D₀ / gap M i in
    let d'' = D₀ / gap M j in
    let di = parted i (omega arith) in
    let dj = parted j hj in
    let x = start_of i M d d'' P'' D₀ dj in
    let y = end_of j M d d'' P D₀ di in
    let w = apart i j (j - i) M P P'' (d * d'') (omega arith) (gap_sum M i (omega arith)) (gap_sum M j (omega arith)) in
    over_fits (height ν P (hull M i) + 1) (height ν P'' (hull M j) + 1) H (d * d'') (2 * M) (i * P'') (j * P) (P * P'') (2 * M * (M * M + i * j) * (j - i)) _ (D₀ * D₀) _ _ z
    (mul-pos (gap_pos M i (omega arith)) (gap_pos M j hj)) (both P P'' d d'' D₀ di dj) x y (rw (x, y) w) ez
    (over_of ν M i (i + g) j P (gap M (i + g)) P'' (hull M i) (hull M (i + g)) (hull M j) (i * P'') (j * P))

-- ---- all pieces

tall_at : (ν M D₀ H i : ℕ) → i < M → Parted M D₀ → Tall (ν + 1) unit (D₀ * D₀) H (at M D₀ i) (H * (height ν (gap M i) (hull M i) + 1))
unfolding Tall Parted
tall_at ν M D₀ H i h parted = (
  gap M i,
  hull M i,
  2 * i * M,
  gap_pos M i h,
  on_grid (2 * i * M) (D₀ / gap M i) (gap M i) D₀ (parted i h),
  circle M i (le_of_lt h),
  over_height H _ _ _ (height_above ν (gap M i) (hull M i) (one-le-pow (ν + 1) (hull M i) (hull_pos M i h))),
)
  where
    on_grid : (s d P D : ℕ) → P * d ≡ D → s * d * D * P ≡ s * (D * D)
    on_grid s d P D e = omega (arith, ap (λ z. s * D * z) e)

    over_height : (H u Q h : ℕ) → u ≤ Q * h → H * u ≤ H * h * Q
    over_height H u Q h k = omega (arith, mul-le-mul_left H k)

at_rises : (M D₀ i g : ℕ) → i + 2 * g < M → Parted M D₀ → at M D₀ i ≤ at M D₀ (i + 2 * g)
unfolding Parted
at_rises M D₀ i g hj parted =
    let j = i + 2 * g in
    let di = parted i (omega arith) in
    let dj = parted j hj in
    let w = apart i j (j - i) M (gap M i) (gap M j) (D₀ / gap M i * (D₀ / gap M j)) (omega arith) (gap_sum M i (omega arith)) (gap_sum M j (omega arith)) in
    rw (start_of i M (D₀ / gap M i) (D₀ / gap M j) (gap M j) D₀ dj, end_of j M (D₀ / gap M i) (D₀ / gap M j) (gap M i) D₀ di) (le_intro _ _ w)

-- the tail
tail_core : (U H P d s T D₀ : ℕ) → P * d ≡ D₀ → U * P ≤ s * T → 3 * (U * H * (D₀ * D₀ * (D₀ * D₀))) ≤ 3 * H * (D₀ * D₀) * T * (s * d * D₀)
tail_core U H P d s T D₀ e h =
    let f : 3 * H * (D₀ * D₀) * d * D₀ * (U * P) ≡ 3 * (U * H * (D₀ * D₀ * (D₀ * D₀))) = omega (arith, ap (λ z. 3 * H * (D₀ * D₀) * D₀ * U * z) e) in
    let g : 3 * H * (D₀ * D₀) * d * D₀ * (s * T) ≡ 3 * H * (D₀ * D₀) * T * (s * d * D₀) = omega arith in
    rw (← f, ← g) (mul-le-mul_left (3 * H * (D₀ * D₀) * d * D₀) h)

tail_fits : (M D₀ H z : ℕ) → 0 < z → z < M → Parted M D₀ → 3 * (unit * H * (D₀ * D₀ * (D₀ * D₀))) ≤ 3 * H * (D₀ * D₀) * tail_bound M z * at M D₀ z
unfolding tail_bound Parted
tail_fits M D₀ H z h k parted =
    tail_core unit H (gap M z) (D₀ / gap M z) (2 * z * M) _ D₀ (parted z k)
    (le_of_lt (lt-mul-div-succ _ (mul-pos (mul-pos (omega arith) h) (lt_of_le_of_lt (omega arith) k))))

factor_pos : (P d D : ℕ) → 0 < D → P * d ≡ D → 0 < d
factor_pos P zero D h e = absurd (omega (arith, h, e))
factor_pos P (suc d) D h e = omega arith

at_pos : (M D₀ z : ℕ) → 0 < D₀ → 0 < z → z < M → Parted M D₀ → 0 < at M D₀ z
unfolding Parted
at_pos M D₀ z hD h k parted =
    mul-pos (mul-pos (mul-pos (mul-pos (omega arith) h) (lt_of_le_of_lt (omega arith) k)) (factor_pos (gap M z) _ D₀ hD (parted z k))) hD

-- twice the square of the hull at each point below M divides H, beside the fourth power of D₀
Cleared : ℕ → ℕ → ℕ → Type 0
Cleared M D₀ H = (p : ℕ) → p < M → (e : ℕ) × (2 * (hull M p * hull M p) * (D₀ * D₀ * (D₀ * D₀)) * e ≡ H)

lower_run : (ν M D₀ H : ℕ) → 0 < ν → 0 < D₀ → Parted M D₀ → Cleared M D₀ H → (m : Node) (gs : List ℕ) → (run ν M m gs).0 < M →
    (ps : List Under) × Lower (3 * H * (D₀ * D₀)) (unit * H * (D₀ * D₀ * (D₀ * D₀))) (Tall (ν + 1) unit (D₀ * D₀) H) (at M D₀ m.0) ps
    × (m.1 + under_sum ps ≡ (run ν M m gs).1)
unfolding run Lower under_sum Cleared
lower_run ν M D₀ H hν hD parted cleared m [] k = ([], tt, omega arith)
lower_run ν M D₀ H hν hD parted cleared m (g ∷ gs) k =
    let j : m.0 + 2 * g < M = lt_of_le_of_lt (rises ν M (step ν M m g) gs) k in
    let e = cleared (m.0 + g) (omega arith) in
    let a = under_piece ν M D₀ H e.0 m.0 g hν hD j parted e.1 in
    let r = lower_run ν M D₀ H hν hD parted cleared (step ν M m g) gs k in (
      record { end = at M D₀ (m.0 + 2 * g); top = a.0; fall = a.1; area = (piece_at ν M g m.0).0 } ∷ r.0,
      (at_rises M D₀ m.0 g j parted, a.2, a.3, r.1),
      sym (add_assoc _ _ _) ∙ r.2,
    )

upper_run : (ν M D₀ H : ℕ) → 0 < D₀ → Parted M D₀ → (m : Node) (gs : List ℕ) → 0 < (run ν M m gs).0 → (run ν M m gs).0 < M →
    (os : List Over)
    × Upper (3 * H * (D₀ * D₀)) (unit * H * (D₀ * D₀ * (D₀ * D₀))) (tail_bound M (run ν M m gs).0) (Tall (ν + 1) unit (D₀ * D₀) H)
    (at M D₀ m.0) (H * (height ν (gap M m.0) (hull M m.0) + 1)) os
    × (m.2 + over_sum os ≡ (run ν M m gs).2)
unfolding run Upper over_sum
upper_run ν M D₀ H hD parted m [] h k =
    ([], (at_pos M D₀ m.0 hD h k parted, tall_at ν M D₀ H m.0 k parted, tail_fits M D₀ H m.0 h k parted), omega arith)
upper_run ν M D₀ H hD parted m (g ∷ gs) h k =
    let j : m.0 + 2 * g < M = lt_of_le_of_lt (rises ν M (step ν M m g) gs) k in
    let r = upper_run ν M D₀ H hD parted (step ν M m g) gs h k in (
      record { end = at M D₀ (m.0 + 2 * g); height = H * (height ν (gap M (m.0 + 2 * g)) (hull M (m.0 + 2 * g)) + 1); area = (piece_at ν M g m.0).1 } ∷ r.0,
      (at_rises M D₀ m.0 g j parted, tall_at ν M D₀ H m.0 (lt_of_le_of_lt (omega arith) j) parted, (λ z e. over_piece ν M D₀ H m.0 g z j parted e), r.1),
      sym (add_assoc _ _ _) ∙ r.2,
    )

-- ---- one unit for two partitions

divides : (f : ℕ → ℕ) (n i : ℕ) → i < n → (c : ℕ) × (f i * c ≡ product f n)
unfolding product
divides f zero i h = absurd (omega (arith, h))
divides f (suc n) i h =
    elim (eq-or-lt_of_le (le_of_suc-le-suc h)) [
      | inl e ↦ (product f n, rw e (mul_comm (f n) (product f n)))
      | inr l ↦ let c = divides f n i l in (c.0 * f n, sym (mul_assoc _ _ _) ∙ ap (λ (z : ℕ). z * f n) c.1)
    ]

exact : (P c D : ℕ) → 0 < P → P * c ≡ D → P * (D / P) ≡ D
exact P c D h e = subst (λ (z : ℕ). P * (z / P) ≡ z) e (ap (λ (z : ℕ). P * z) (mul-div_cancel_left c h))

gaps : ℕ → ℕ
gaps M = product (gap M) M

gaps_pos : (M : ℕ) → 0 < gaps M
unfolding gaps
gaps_pos M = product_pos (gap M) M (gap_pos M)

parted_left : (M D : ℕ) → Parted M (gaps M * D)
unfolding Parted gaps
parted_left M D i h =
    let c = divides (gap M) M i h in
    exact (gap M i) (c.0 * D) _ (gap_pos M i h) (sym (mul_assoc _ _ _) ∙ ap (λ (z : ℕ). z * D) c.1)

parted_right : (M D : ℕ) → Parted M (D * gaps M)
parted_right M D = subst (λ (z : ℕ). Parted M z) (mul_comm (gaps M) D) (parted_left M D)

hulls : ℕ → ℕ
hulls M = product (λ i. hull M i * hull M i) M

hulls_pos : (M : ℕ) → 0 < hulls M
unfolding hulls
hulls_pos M = product_pos (λ i. hull M i * hull M i) M (λ i h. let k = hull_pos M i h in mul-pos k k)

cleared_by : (M D₀ : ℕ) → Cleared M D₀ (2 * hulls M * (D₀ * D₀ * (D₀ * D₀)))
unfolding Cleared hulls
cleared_by M D₀ p h =
    let c = divides (λ i. hull M i * hull M i) M p h in
    (c.0, moved (hull M p * hull M p) (D₀ * D₀ * (D₀ * D₀)) c.0 _ c.1)
  where
    moved : (q d e P : ℕ) → q * e ≡ P → 2 * q * d * e ≡ 2 * P * d
    moved q d e P k = omega (arith, ap (λ z. 2 * d * z) k)

-- point i of M is at or before point j of N
in_order : (s t P Q d e D₀ : ℕ) → P * d ≡ D₀ → Q * e ≡ D₀ → s * Q ≤ t * P → s * d * D₀ ≤ t * e * D₀
in_order s t P Q d e D₀ k l h =
    let f : d * e * (s * Q) ≡ s * d * D₀ = omega (arith, ap (λ z. s * d * z) l) in
    let g : d * e * (t * P) ≡ t * e * D₀ = omega (arith, ap (λ z. t * e * z) k) in
    rw (← f, ← g) (mul-le-mul_left (d * e) h)

at_order : (M N D₀ i j : ℕ) → i < M → j < N → Parted M D₀ → Parted N D₀ → 2 * i * M * gap N j ≤ 2 * j * N * gap M i → at M D₀ i ≤ at N D₀ j
unfolding Parted
at_order M N D₀ i j h k p q l = in_order (2 * i * M) (2 * j * N) (gap M i) (gap N j) _ _ D₀ (p i h) (q j k) l

-- nothing lies under the line 0
skipped : (W K x y n D H : ℕ) (ps : List Under) → x ≤ y → Lower W K (Tall n unit D H) y ps → Lower W K (Tall n unit D H) x (record { end = y; top = 0; fall = 0; area = 0 } ∷ ps)
unfolding Lower
skipped W K x y n D H ps h l = (h, no_line n K D H, omega arith, l)

-- Two partitions, N's from the node m' on and M's from m on, which is no earlier: what M's has under the curve is no more than what N's has over it and its tail.
pub strips : (ν M N : ℕ) (m m' : Node) (gs hs : List ℕ) → 0 < ν → (run ν M m gs).0 < M → 0 < (run ν N m' hs).0 → (run ν N m' hs).0 < N →
    2 * m'.0 * N * (M ^ 2 - m.0 ^ 2) ≤ 2 * m.0 * M * (N ^ 2 - m'.0 ^ 2) →
    (run ν M m gs).1 - m.1 ≤ (run ν N m' hs).2 - m'.2 + tail_bound N (run ν N m' hs).0
unfolding under_sum
strips ν M N m m' gs hs hν kM zN kN order =
    let D₀ = gaps M * gaps N in
    let H = 2 * hulls M * (D₀ * D₀ * (D₀ * D₀)) in
    let hD = mul-pos (gaps_pos M) (gaps_pos N) in
    let p = parted_left M (gaps N) in
    let q = parted_right N (gaps M) in
    let l = lower_run ν M D₀ H hν hD p (cleared_by M D₀) m gs kM in
    let u = upper_run ν N D₀ H hD q m' hs zN kN in
    let i = lt_of_le_of_lt (rises ν M m gs) kM in
    let j = lt_of_le_of_lt (rises ν N m' hs) kN in
    let hH = mul-pos (mul-pos {m = 2} (omega arith) (hulls_pos M)) (mul-pos (mul-pos hD hD) (mul-pos hD hD)) in
    let n = no_more _ _ _ _ _ _ _ u.0 (mul-pos (mul-pos {m = 3} (omega arith) hH) (mul-pos hD hD))
    (skipped _ _ (at N D₀ m'.0) (at M D₀ m.0) (ν + 1) (D₀ * D₀) H l.0 (at_order N M D₀ m'.0 m.0 j i q p order) l.1) u.1 in
    omega (arith, n, l.2, u.2)

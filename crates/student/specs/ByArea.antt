-- The areas under Student's density, by parabolas under and over the curve: whole numbers only, no series and no π. Definitions only.
--
-- What a reader must believe, step by step, and what is proved of it (in `Parabolas`, where only a name is given).
-- 1. The density of T is, up to a constant factor, (1 + x²/ν)^(−(ν+1)/2). With y = x/√ν it is f(y) = (1 + y²)^(−(ν+1)/2); all areas change by the one factor √ν.
-- 2. Points. Point i, for i from 0 to M − 1, is y = 2 i M / P with P = M² − i². With Q = M² + i² there is no root: 1 + y² = (Q/P)², and so f(y) = (P/Q)^(ν+1).
--    Proved: P² + (2 i M)² = Q² (`point`).
-- 3. Pieces. A piece goes from point i over p to j, in two steps of g points. It is b − a = 2 M (M² + i j) (j − i) / (P P'') wide, where P, P', P'' belong to i, p, j.
--    Proved: j P − i P'' = (M² + i j) (j − i) (`width`).
-- 4. Under. The parabola f(p) (1 − (ν+1)/2 (y² − yₚ²)/(1 + yₚ²)) touches the curve at p and lies under it. Proved at every point (`under`).
-- 5. Over. The parabola in y² through the curve's points i and j lies over the curve between them. Proved: what lies above its tangents lies below its chords
--    (`over`). That it is applied to f as a function of y², whose tangents are the parabolas of step 4, is left to the reader.
-- 6. Means. From y = a to y = b the mean of y² is (a² + a b + b²)/3 (Archimedes). So the mean of the first parabola is
--    f(p) (1 + (ν+1)/2 (yₚ² − (a² + a b + b²)/3)/(1 + yₚ²)), and that of the second is (f(i) (a + 2 b) + f(j) (2 a + b))/(3 (a + b)). Not proved.
-- 7. Tail. As ν is at least 1, the curve lies under 1/y² at every y above 0, and beyond y there lies 1/y under that. Not proved as an area; proved: the parabolas of
--    step 4 lie under 1/y² too (`TangentLaws`).
-- 8. Sums. Areas are in units of 10^−20. What lies under the curve is rounded down, and what lies over it is rounded up; a mean below 0 counts as 0. An area is at
--    least the sum of what lies under the curve, and at most the sum of what lies over it and of the tail.
-- Proved besides: no bound from below exceeds a bound from above, whatever partitions they are shown with (`AreaLaws` in proofs/); each of the 180 entries passes (`AreaCheck`),
-- and no other number with as many places does (`Only` in proofs/).
--
-- Looked for: what else could show a bound that is none. In this logic n / 0 is 0, a difference below 0 is 0, and what stands past the end of a list is its default.
-- - The last point is 0, as in the empty partition: `tail_bound` divides by 0. Ruled out by `Tailed`.
-- - A point at M or past it: P is 0, and the piece that ends there is divided by 0. Ruled out by z < M, as points only rise; and so is M = 0.
-- - ν = 0: the curve does not lie under 1/y². Ruled out by `Tailed`. No bound from below divides by ν.
-- - A step g = 0, or a pair of no pieces: a piece of no width has 0 under it and 1 over it. 3 (a + b) is 0 only there, at the point 0.
-- - Heights: Q is not 0 where M is not. The mean of the parabola below 0 counts as 0, which bounds an area from below.
-- - A node past the end of the list is the start, which lies before every N/2000, and after it only where N is 0: then the area is the whole.
-- - Differences of sums: sums only rise, so that no node has more than the last.
use Rattle.std.specs.Prelude.{◌≡◌, List, [], ◌∷◌, ℕ, zero, suc, ◌+◌, ◌-◌, ◌*◌, ◌/◌, ◌^◌, ◌≤◌, ◌<◌, get_or}
use Rattle.student.specs.Ratio.{Fraction}
use Rattle.student.specs.Quantile.{Measure}

-- the height of the curve, in units of 10^-20, rounded down
unfoldable pub height : ℕ → ℕ → ℕ → ℕ
height ν P Q = 100000000000000000000 * P ^ (ν + 1) / Q ^ (ν + 1)

-- what lies under the curve, and what lies over it: from the heights at i, p and j, the width w/v, the ends' y as a and b in one unit,
-- and the first parabola's mean as the part F/E of the height at p
unfoldable pub piece : ℕ → ℕ → ℕ → ℕ → ℕ → ℕ → ℕ → ℕ → ℕ → ℕ × ℕ
piece hi hp hj w v a b F E = (hp * F * w / (E * v), ((hi + 1) * (a + 2 * b) + (hj + 1) * (2 * a + b)) * w / (3 * (a + b) * v) + 1)

-- with P, P', P'' and Q, Q', Q'' at i, p, j, and a = i P'', b = j P, in units of 2 M / (P P'')
unfoldable pub piece_of : ℕ → ℕ → ℕ → ℕ → ℕ → ℕ → ℕ → ℕ → ℕ → ℕ → ℕ → ℕ → ℕ → ℕ × ℕ
piece_of ν M i p j P P' P'' Q Q' Q'' a b =
    piece (height ν P Q) (height ν P' Q') (height ν P'' Q'')
    (2 * M * (M ^ 2 + i * j) * (j - i)) (P * P'') a b
    ((6 * Q' ^ 2 + (ν + 1) * 3 * (2 * p * M) ^ 2) * (P * P'') ^ 2 - (ν + 1) * P' ^ 2 * (2 * M) ^ 2 * (a ^ 2 + a * b + b ^ 2))
    (6 * Q' ^ 2 * (P * P'') ^ 2)

unfoldable pub piece_at : ℕ → ℕ → ℕ → ℕ → ℕ × ℕ
piece_at ν M g i =
    piece_of ν M i (i + g) (i + 2 * g)
    (M ^ 2 - i ^ 2) (M ^ 2 - (i + g) ^ 2) (M ^ 2 - (i + 2 * g) ^ 2)
    (M ^ 2 + i ^ 2) (M ^ 2 + (i + g) ^ 2) (M ^ 2 + (i + 2 * g) ^ 2)
    (i * (M ^ 2 - (i + 2 * g) ^ 2)) ((i + 2 * g) * (M ^ 2 - i ^ 2))

-- a point, and what lies under the curve and over it from 0 to there
abbrev pub Node : Type 0
Node = ℕ × ℕ × ℕ

abbrev pub start : Node
start = (0, 0, 0)

-- n pieces more
unfoldable pub add_pieces : ℕ → ℕ → ℕ → ℕ → ℕ → ℕ → ℕ → Node
add_pieces ν M g zero i a b = (i, a, b)
add_pieces ν M g (suc n) i a b = let c = piece_at ν M g i in add_pieces ν M g n (i + 2 * g) (a + c.0) (b + c.1)

-- a partition is a list of pairs, a step g and a number of pieces; these are the nodes after each pair
unfoldable pub nodes_from : ℕ → ℕ → Node → List (ℕ × ℕ) → List Node
nodes_from ν M m [] = []
nodes_from ν M m (s ∷ ss) = let x = add_pieces ν M s.0 s.1 m.0 m.1 m.2 in x ∷ nodes_from ν M x ss

unfoldable pub nodes : ℕ → ℕ → List (ℕ × ℕ) → List Node
nodes ν M partition = nodes_from ν M start partition

unfoldable pub node : List Node → ℕ → Node
node l n = get_or l n start

-- the last node
unfoldable pub last_node : Node → List Node → Node
last_node m [] = m
last_node m (x ∷ xs) = last_node x xs

-- at least what lies beyond the point z, where z is not 0 and ν is not 0
unfoldable pub tail_bound : ℕ → ℕ → ℕ
tail_bound M z = 100000000000000000000 * (M ^ 2 - z ^ 2) / (2 * z * M) + 1

-- the point i is at or after N/2000, and at or before it
unfoldable pub After : ℕ → ℕ → ℕ → ℕ → Type 0
After ν N M i = (N * (M ^ 2 - i ^ 2)) ^ 2 ≤ 4000000 * ν * (2 * i * M) ^ 2

unfoldable pub Before : ℕ → ℕ → ℕ → ℕ → Type 0
Before ν N M i = 4000000 * ν * (2 * i * M) ^ 2 ≤ (N * (M ^ 2 - i ^ 2)) ^ 2

-- The last point z is below M, and so are all points, as they rise. For a bound from above it is not 0 either, nor is ν: else `tail_bound` bounds nothing.
unfoldable pub Inside : ℕ → ℕ → Type 0
Inside M z = z < M

unfoldable pub Tailed : ℕ → ℕ → ℕ → Type 0
Tailed ν M z = (0 < ν) × (0 < z) × (z < M)

-- Squares of bounds, from nodes l: beyond the node h what lies over the curve to the last node, and all that lies further; or what lies under it to the last node.
unfoldable pub over_beyond : ℕ → List Node → Node → Fraction
over_beyond M l h = (((last_node start l).2 - h.2 + tail_bound M (last_node start l).0) ^ 2, 1)

unfoldable pub under_beyond : List Node → Node → Fraction
under_beyond l h = (((last_node start l).1 - h.1) ^ 2, 1)

-- Some partition shows the bound. Beyond N/2000 there lies no more than beyond a node at or before it,
unfoldable pub BeyondAtMost : ℕ → ℕ → Fraction → Type 0
BeyondAtMost ν N p =
    (M : ℕ) × (partition : List (ℕ × ℕ)) × (n : ℕ)
    × Tailed ν M (last_node start (nodes ν M partition)).0
    × Before ν N M (node (nodes ν M partition) n).0
    × (p ≡ over_beyond M (nodes ν M partition) (node (nodes ν M partition) n))

-- and no less than beyond a node at or after it.
unfoldable pub BeyondAtLeast : ℕ → ℕ → Fraction → Type 0
BeyondAtLeast ν N p =
    (M : ℕ) × (partition : List (ℕ × ℕ)) × (n : ℕ)
    × Inside M (last_node start (nodes ν M partition)).0
    × After ν N M (node (nodes ν M partition) n).0
    × (p ≡ under_beyond (nodes ν M partition) (node (nodes ν M partition) n))

-- The whole is what lies beyond the start.
unfoldable pub WholeAtMost : ℕ → Fraction → Type 0
WholeAtMost ν p =
    (M : ℕ) × (partition : List (ℕ × ℕ))
    × Tailed ν M (last_node start (nodes ν M partition)).0
    × (p ≡ over_beyond M (nodes ν M partition) start)

unfoldable pub WholeAtLeast : ℕ → Fraction → Type 0
WholeAtLeast ν p =
    (M : ℕ) × (partition : List (ℕ × ℕ))
    × Inside M (last_node start (nodes ν M partition)).0
    × (p ≡ under_beyond (nodes ν M partition) start)

abbrev pub by_area : Measure
by_area =
    record { beyond_at_most = BeyondAtMost; beyond_at_least = BeyondAtLeast; whole_at_most = WholeAtMost; whole_at_least = WholeAtLeast }

-- The bounds by area do not contradict themselves: no bound from below exceeds a bound from above, whatever partitions they are shown with, also where the one is
-- of the area beyond a point and the other of the area beyond an earlier one. So no probability is both below and above 1/k, and of the numbers with the same
-- number of places at most one is the rounded quantile.
use Rattle.std.proofs.Common.{sym, subst₂, mul-le-mul, mul-le-mul_right, le_trans, lt_of_not-le, arith}
use Rattle.std.specs.Prelude.{[], ℕ, ◌+◌, ◌-◌, ◌*◌, ◌^◌, ◌≤◌, ◌<◌}
use Rattle.std.proofs.Math.Nat.{le_of_mul-le-mul_left, pow-le-pow_left}
use Rattle.std.proofs.Math.Decide.{dec_le}
use Rattle.student.specs.Ratio.{Fraction, Consistent}
use Rattle.student.specs.RatioLaws.{two_factors, exclusive}
use Rattle.student.specs.Quantile.{TailBelow, TailAbove, Rounded}
use Rattle.student.specs.ByArea.{start, nodes, nodes_from, node, last_node, After, Before, Inside, Tailed, over_beyond, under_beyond, BeyondAtMost, BeyondAtLeast, WholeAtMost, WholeAtLeast, by_area}
use Rattle.student.specs.StripLaws.{from_node, from_start, strips}

-- The empty partition bounds nothing from above, as its last point is 0; nor does one that ends at the point M, which lies at infinity.
pub empty_bounds_nothing : (ν M : ℕ) → Tailed ν M (last_node start (nodes ν M [])).0 → ⊥
unfolding Tailed nodes nodes_from last_node
empty_bounds_nothing ν M h = omega (arith, h)

pub infinity_bounds_nothing : (ν M : ℕ) → Tailed ν M M → ⊥
unfolding Tailed
infinity_bounds_nothing ν M h = omega (arith, h)

asked : (ν M z : ℕ) → Tailed ν M z → (0 < ν) × (0 < z) × (z < M)
unfolding Tailed
asked ν M z h = omega (arith, h)

asked_inside : (M z : ℕ) → Inside M z → z < M
unfolding Inside
asked_inside M z h = omega (arith, h)

-- ---- no bound from below exceeds a bound from above

root_le : (x y : ℕ) → x * x ≤ y * y → x ≤ y
root_le x y h =
    elim (dec_le x y) [
      | yes k ↦ k
      | no k ↦ let l = lt_of_not-le k in absurd (omega (arith, h, mul-le-mul l l))
    ]

-- s/P is at or before A, and A, which is no later than B, at or before t/Q
crossing : (c s t P Q A B : ℕ) → 0 < c → A ≤ B → c * (s * s) ≤ A * P * (A * P) → B * Q * (B * Q) ≤ c * (t * t) → s * Q ≤ t * P
crossing c s t P Q A B h l j k =
    let d : c * (s * Q * (s * Q)) ≤ A * P * (A * P) * (Q * Q) = omega (arith, mul-le-mul_right (Q * Q) j) in
    let e : A * P * (A * P) * (Q * Q) ≤ B * Q * (B * Q) * (P * P) = omega (arith, mul-le-mul_right (P * P * (Q * Q)) (mul-le-mul l l)) in
    let f : B * Q * (B * Q) * (P * P) ≤ c * (t * P * (t * P)) = omega (arith, mul-le-mul_right (P * P) k) in
    root_le (s * Q) (t * P) (le_of_mul-le-mul_left {k = c} (le_trans d (le_trans e f)) h)

ordered : (ν N N' M M' i j : ℕ) → 0 < ν → N ≤ N' → Before ν N M' j → After ν N' M i → 2 * j * M' * (M ^ 2 - i ^ 2) ≤ 2 * i * M * (M' ^ 2 - j ^ 2)
unfolding Before After
ordered ν N N' M M' i j h l b a =
    crossing (4000000 * ν) (2 * j * M') (2 * i * M) (M' ^ 2 - j ^ 2) (M ^ 2 - i ^ 2) N N' (omega arith) l
    (rw (two_factors (2 * j * M'), two_factors (N * (M' ^ 2 - j ^ 2))) at b)
    (rw (two_factors (N' * (M ^ 2 - i ^ 2)), two_factors (2 * i * M)) at a)

squares : (x y : ℕ) → x ≤ y → x ^ 2 * 1 ≤ y ^ 2 * 1
squares x y h = mul-le-mul_right 1 (pow-le-pow_left h 2)

pub beyond_consistent : (ν N N' : ℕ) → N ≤ N' → Consistent (BeyondAtLeast ν N') (BeyondAtMost ν N)
unfolding Consistent BeyondAtLeast BeyondAtMost under_beyond over_beyond
beyond_consistent ν N N' h a b (M, part, n, inside, after, e) (M', part', n', tailed, before, e') =
    let k = asked_inside M _ inside in
    let t = asked ν M' _ tailed in
    let l = from_node ν M part n in
    let u = from_node ν M' part' n' in
    subst₂ (λ (x y : Fraction). x.0 * y.1 ≤ y.0 * x.1) (sym e) (sym e')
    (squares _ _
    (rw (l.1, u.1) at
    (strips ν M M' (node (nodes ν M part) n) (node (nodes ν M' part') n') l.0 u.0 t.0 (rw l.1 k) (rw u.1 t.1) (rw u.1 t.2)
    (ordered ν N N' M M' _ _ t.0 h before after))))

from_zero : (M M' i P Q : ℕ) → 2 * 0 * M' * P ≤ 2 * i * M * Q
from_zero M M' i P Q = omega arith

pub whole_consistent : (ν : ℕ) → Consistent (WholeAtLeast ν) (WholeAtMost ν)
unfolding Consistent WholeAtLeast WholeAtMost under_beyond over_beyond
whole_consistent ν a b (M, part, inside, e) (M', part', tailed, e') =
    let k = asked_inside M _ inside in
    let t = asked ν M' _ tailed in
    let l = from_start ν M part in
    let u = from_start ν M' part' in
    subst₂ (λ (x y : Fraction). x.0 * y.1 ≤ y.0 * x.1) (sym e) (sym e')
    (squares _ _
    (rw (l.1, u.1) at
    (strips ν M M' start start l.0 u.0 t.0 (rw l.1 k) (rw u.1 t.1) (rw u.1 t.2) (from_zero M M' 0 _ _))))

-- ---- so the quantile is one

pub tail_exclusive_by_area : (ν k N N' : ℕ) → N ≤ N' → TailBelow by_area ν k N → TailAbove by_area ν k N' → ⊥
unfolding TailBelow TailAbove
tail_exclusive_by_area ν k N N' h b a =
    exclusive (BeyondAtMost ν N) (BeyondAtLeast ν N') (WholeAtMost ν) (WholeAtLeast ν) 1 k (beyond_consistent ν N N' h) (whole_consistent ν) b a

-- e and e' thousandths, a printed place or more apart, are not both the rounded quantile
pub one_rounded_by_area : (ν k e e' h : ℕ) → e + h ≤ e' → Rounded by_area ν k e h → Rounded by_area ν k e' h → ⊥
unfolding Rounded
one_rounded_by_area ν k e e' h l a b = tail_exclusive_by_area ν k _ _ (omega (arith, l)) a.1 b.0

-- The six z scores that the crate `statistics` reads are the normal quantiles, cut to thousandths (`every_z_cut`, at the end): one test that antt computes.
use Rattle.std.specs.Prelude.{refl, Bool, ◌&&◌, ℕ, ◌+◌, ◌-◌, ◌*◌, ◌^◌, ◌≤◌, ◌<◌, T, leb, get_or}
use Rattle.std.proofs.Math.Path.{subst₃}
use Rattle.std.proofs.Common.{arith, leb→le}
use Rattle.std.specs.Float.Ieee.Fits.{and_l, and_r}
use Rattle.statistics.specs.Table.{z_thousandths, all_below}
use Rattle.statistics.specs.TableLaws.{all_below_lem}
use Rattle.student.specs.Ratio.{RatioBelow, RatioAbove, below, above}
use Rattle.student.specs.RatioLaws.{below_holds, above_holds}
use Rattle.student.specs.Quantile.{one_in}
use Rattle.student.specs.Series.{product, numerator, AtMost, factors, sums, falls}
use Rattle.student.specs.SeriesLaws.{sums_three, at_most, falls_at_most}
use Rattle.student.specs.Normal.{z_square, inside_factors, exp_factors, inside_square, InsideAtMost, InsideAtLeast, HalfPiAtMost, HalfPiAtLeast, Cut}

-- from term n on each is at most half of the one before
inside_at_most : (N n : ℕ) → 2 * N ^ 2 ≤ (2 * n + 3) * 1000000 → AtMost (z_square N) inside_factors (numerator (z_square N) inside_factors n + 2 * product (z_square N) n) (product inside_factors n)
unfolding z_square inside_factors
inside_at_most N n h = at_most (z_square N) inside_factors 2 n (λ j. omega arith) (λ i. omega arith)

exp_at_most : (N n : ℕ) → 2 * N ^ 2 ≤ (n + 1) * 1000000 → AtMost (z_square N) exp_factors (numerator (z_square N) exp_factors n + 2 * product (z_square N) n) (product exp_factors n)
unfolding z_square exp_factors
exp_at_most N n h = at_most (z_square N) exp_factors 2 n (λ j. omega arith) (λ i. omega arith)

-- the last comparisons, with the sums in hand: of 1 + z²/3 + .., exp(z²) and π/2
below_by : ℕ → ℕ → (ℕ × ℕ × ℕ) → (ℕ × ℕ × ℕ) → (ℕ × ℕ × ℕ) → Bool
below_by k N p E H = below (inside_square N (p.0 + 2 * p.1) p.2 E.0 E.2) (H.0, H.2) (k - 1) k

above_by : ℕ → ℕ → (ℕ × ℕ × ℕ) → (ℕ × ℕ × ℕ) → (ℕ × ℕ × ℕ) → Bool
above_by k N p E H = above (inside_square N p.0 p.2 (E.0 + 2 * E.1) E.2) (H.0 + 3 * H.1, H.2) (k - 1) k

-- n terms of each
inside_below : ℕ → ℕ → ℕ → Bool
inside_below k N n =
    leb (2 * N ^ 2) ((2 * n + 3) * 1000000)
    && below_by k N (sums (z_square N) inside_factors n) (sums (z_square N) exp_factors n) (sums (factors 2 1) (factors 3 2) n)

inside_below_lem : (k N n : ℕ) → T (inside_below k N n) → RatioBelow (InsideAtMost N) HalfPiAtLeast (k - 1) k
unfolding inside_below below_by InsideAtMost HalfPiAtLeast
inside_below_lem k N n t =
    let f = leb (2 * N ^ 2) ((2 * n + 3) * 1000000) in
    below_holds (InsideAtMost N) HalfPiAtLeast _ _ (k - 1) k
    (_, _, n, inside_at_most N n (leb→le _ _ (and_l f _ t)), refl)
    (n, refl)
    (subst₃ (λ p E H. T (below_by k N p E H)) (sums_three _ _ n) (sums_three _ _ n) (sums_three _ _ n) (and_r f _ t))

inside_above : ℕ → ℕ → ℕ → Bool
inside_above k N n =
    leb (2 * N ^ 2) ((n + 1) * 1000000)
    && (falls 2 3 1 2 3 n && above_by k N (sums (z_square N) inside_factors n) (sums (z_square N) exp_factors n) (sums (factors 2 1) (factors 3 2) n))

inside_above_lem : (k N n : ℕ) → T (inside_above k N n) → RatioAbove (InsideAtLeast N) HalfPiAtMost (k - 1) k
unfolding inside_above above_by InsideAtLeast HalfPiAtMost
inside_above_lem k N n t =
    let f = leb (2 * N ^ 2) ((n + 1) * 1000000) in
    let g = falls 2 3 1 2 3 n in
    let r = and_r f _ t in
    above_holds (InsideAtLeast N) HalfPiAtMost _ _ (k - 1) k
    (_, _, n, exp_at_most N n (leb→le _ _ (and_l f _ t)), refl)
    (falls_at_most 2 3 1 2 3 n (omega arith) (omega arith) (and_l g _ r))
    (subst₃ (λ p E H. T (above_by k N p E H)) (sums_three _ _ n) (sums_three _ _ n) (sums_three _ _ n) (and_r g _ r))

cut : ℕ → ℕ → Bool
cut k N = inside_below k N 50 && inside_above k (N + 1) 50

-- the computation
six : T (all_below (λ col. cut (one_in col) (get_or z_thousandths col 0)) 6)
unfolding all_below cut inside_below inside_above below_by above_by below above inside_square falls sums z_square inside_factors exp_factors factors one_in z_thousandths
six = tt

-- the theorem
pub every_z_cut : (col : ℕ) → col < 6 → Cut (one_in col) (get_or z_thousandths col 0)
unfolding Cut cut
every_z_cut col h =
    let t = all_below_lem (λ c. cut (one_in c) (get_or z_thousandths c 0)) 6 six col h in
    let b = inside_below (one_in col) (get_or z_thousandths col 0) 50 in
    (inside_below_lem (one_in col) _ 50 (and_l b _ t), inside_above_lem (one_in col) _ 50 (and_r b _ t))

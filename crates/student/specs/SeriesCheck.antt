-- Each of the 180 entries is the quantile, rounded at its printed places, by series (`every_entry_by_series`, at the end): one test that antt computes over whole
-- numbers, and the law that a test which passes shows what `Quantile` asks.
use Rattle.std.specs.Prelude.{refl, Bool, ◌&&◌, ℕ, ◌+◌, ◌-◌, ◌*◌, ◌/◌, ◌^◌, ◌<◌, T}
use Rattle.std.proofs.Math.Path.{subst₃}
use Rattle.std.proofs.Common.{arith}
use Rattle.std.specs.Float.Ieee.Fits.{and_l, and_r}
use Rattle.statistics.specs.Table.{thousandths, table_entry, all_below}
use Rattle.statistics.specs.TableLaws.{all_cells}
use Rattle.student.specs.Ratio.{below, above}
use Rattle.student.specs.RatioLaws.{below_holds, above_holds}
use Rattle.student.specs.Quantile.{TailBelow, TailAbove, Rounded, one_in, half_place, IsQuantile, EveryEntry}
use Rattle.student.specs.Series.{factors, sums, falls}
use Rattle.student.specs.SeriesLaws.{sums_three, falls_at_most}
use Rattle.student.specs.BySeries.{beyond_square, whole_square, BeyondAtMost, BeyondAtLeast, WholeAtMost, WholeAtLeast, by_series}

-- the last comparison, with the sums in hand: what follows the terms that are summed is at most C times the next
below_by : ℕ → ℕ → ℕ → ℕ → (ℕ × ℕ × ℕ) → (ℕ × ℕ × ℕ) → (ℕ × ℕ × ℕ) → Bool
below_by ν k N C p A B = below (beyond_square ν N (p.0 + C * p.1) p.2) (whole_square ν A.0 A.2 B.0 B.2) 1 k

above_by : ℕ → ℕ → ℕ → ℕ → (ℕ × ℕ × ℕ) → (ℕ × ℕ × ℕ) → (ℕ × ℕ × ℕ) → Bool
above_by ν k N C p A B = above (beyond_square ν N p.0 p.2) (whole_square ν (A.0 + C * A.1) A.2 (B.0 + C * B.1) B.2) 1 k

-- n terms of the series at r/d and m terms of those at 1/2
tail_below : ℕ → ℕ → ℕ → ℕ → ℕ → ℕ → Bool
tail_below ν k N C n m =
    falls (ν + 1) (ν + 2) (4000000 * ν) (N ^ 2 + 4000000 * ν) C n
    && below_by ν k N C (sums (factors (ν + 1) (4000000 * ν)) (factors (ν + 2) (N ^ 2 + 4000000 * ν)) n)
    (sums (factors (ν + 1) 1) (factors 3 2) m) (sums (factors (ν + 1) 1) (factors (ν + 2) 2) m)

tail_below_lem : (ν k N C n m : ℕ) → 0 < ν → T (tail_below ν k N C n m) → TailBelow by_series ν k N
unfolding tail_below below_by TailBelow BeyondAtMost WholeAtLeast
tail_below_lem ν k N C n m hν t =
    let f = falls (ν + 1) (ν + 2) (4000000 * ν) (N ^ 2 + 4000000 * ν) C n in
    let g =
    subst₃ (λ p A B. T (below_by ν k N C p A B)) (sums_three _ _ n) (sums_three _ _ m) (sums_three _ _ m)
    (and_r f _ t) in
    below_holds (BeyondAtMost ν N) (WholeAtLeast ν) _ _ 1 k
    (_, _, falls_at_most (ν + 1) (ν + 2) (4000000 * ν) (N ^ 2 + 4000000 * ν) C n (omega arith) (omega arith) (and_l f _ t), refl)
    (m, refl)
    g

tail_above : ℕ → ℕ → ℕ → ℕ → ℕ → ℕ → Bool
tail_above ν k N C n m =
    falls (ν + 1) 3 1 2 C m
    && (falls (ν + 1) (ν + 2) 1 2 C m
    && above_by ν k N C (sums (factors (ν + 1) (4000000 * ν)) (factors (ν + 2) (N ^ 2 + 4000000 * ν)) n)
    (sums (factors (ν + 1) 1) (factors 3 2) m) (sums (factors (ν + 1) 1) (factors (ν + 2) 2) m))

tail_above_lem : (ν k N C n m : ℕ) → T (tail_above ν k N C n m) → TailAbove by_series ν k N
unfolding tail_above above_by TailAbove BeyondAtLeast WholeAtMost
tail_above_lem ν k N C n m t =
    let f = falls (ν + 1) 3 1 2 C m in
    let f' = falls (ν + 1) (ν + 2) 1 2 C m in
    let e = and_r f _ t in
    let g =
    subst₃ (λ p A B. T (above_by ν k N C p A B)) (sums_three _ _ n) (sums_three _ _ m) (sums_three _ _ m)
    (and_r f' _ e) in
    above_holds (BeyondAtLeast ν N) (WholeAtMost ν) _ _ 1 k
    (n, refl)
    (_, _, _, _, falls_at_most (ν + 1) 3 1 2 C m (omega arith) (omega arith) (and_l f _ t), falls_at_most (ν + 1) (ν + 2) 1 2 C m (omega arith) (omega arith) (and_l f' _ e), refl)
    g

-- At r/d, where d = q + r, the terms fall nearly as rⁿ/dⁿ: what follows n terms is at most d/q + 1 times the next, and 20 times as many terms are enough.
-- At 1/2 the numbers are 3 and 60.
rest_factor : ℕ → ℕ → ℕ
rest_factor ν N = (N ^ 2 + 4000000 * ν) / N ^ 2 + 1

rounded : ℕ → ℕ → ℕ → ℕ → Bool
rounded ν k e h =
    tail_above ν k (2 * e - h) 3 (20 * rest_factor ν (2 * e - h)) 60
    && tail_below ν k (2 * e + h) (rest_factor ν (2 * e + h)) (20 * rest_factor ν (2 * e + h)) 60

rounded_holds : (ν k e h : ℕ) → 0 < ν → T (rounded ν k e h) → Rounded by_series ν k e h
unfolding rounded Rounded
rounded_holds ν k e h hν t =
    let a = tail_above ν k (2 * e - h) 3 (20 * rest_factor ν (2 * e - h)) 60 in
    (tail_above_lem ν k _ _ _ _ (and_l a _ t), tail_below_lem ν k _ _ _ _ hν (and_r a _ t))

entry : ℕ → ℕ → Bool
entry row col = rounded (row + 1) (one_in col) (table_entry row col) (half_place row col)

-- the computation
rows : T (all_below (λ row. all_below (entry row) 6) 30)
unfolding all_below entry rounded tail_below tail_above below_by above_by below above beyond_square whole_square falls rest_factor sums factors one_in half_place table_entry thousandths
rows = tt

-- the theorem
pub every_entry_by_series : EveryEntry by_series
unfolding EveryEntry IsQuantile entry
every_entry_by_series row col hr hc = rounded_holds (row + 1) (one_in col) _ _ (omega arith) (all_cells entry 30 6 rows row col hr hc)

-- Each of the 180 entries is the quantile, rounded at its printed places, by the area under the density (`every_entry_by_area`, at the end): a test for each row
-- that antt computes on the partitions of `AreaPartitions`, and the law that a test which passes shows what `Quantile` asks.
use Rattle.std.specs.Prelude.{refl, Bool, ◌&&◌, List, [], ℕ, zero, suc, ◌+◌, ◌-◌, ◌*◌, ◌^◌, ◌<◌, T, leb, ltb, get_or}
use Rattle.std.proofs.Common.{add-zero, add-suc, arith, leb→le, ltb→lt}
use Rattle.std.specs.Float.Ieee.Fits.{and_i, and_l, and_r}
use Rattle.statistics.specs.Table.{thousandths, table_entry, all_below}
use Rattle.statistics.specs.TableLaws.{all_below_lem}
use Rattle.student.specs.Ratio.{below, above}
use Rattle.student.specs.RatioLaws.{below_holds, above_holds}
use Rattle.student.specs.Quantile.{TailBelow, TailAbove, Rounded, one_in, half_place, IsQuantile, EveryEntry}
use Rattle.student.specs.ByArea.{height, piece, piece_of, piece_at, Node, start, add_pieces, nodes_from, nodes, node, last_node, tail_bound, After, Before, Inside, Tailed, over_beyond, under_beyond, BeyondAtMost, BeyondAtLeast, WholeAtMost, WholeAtLeast, by_area}
use Rattle.student.specs.AreaPartitions.{partitions}

abbrev after : ℕ → ℕ → ℕ → ℕ → Bool
after ν N M i = leb ((N * (M ^ 2 - i ^ 2)) ^ 2) (4000000 * ν * (2 * i * M) ^ 2)

abbrev before : ℕ → ℕ → ℕ → ℕ → Bool
before ν N M i = leb (4000000 * ν * (2 * i * M) ^ 2) ((N * (M ^ 2 - i ^ 2)) ^ 2)

-- the nodes l, at h
abbrev tail_above : ℕ → ℕ → ℕ → ℕ → List Node → Node → Bool
tail_above ν k N M l h = after ν N M h.0 && above (under_beyond l h) (over_beyond M l start) 1 k

abbrev tail_below : ℕ → ℕ → ℕ → ℕ → List Node → Node → Bool
tail_below ν k N M l h = before ν N M h.0 && below (over_beyond M l h) (under_beyond l start) 1 k

tail_above_lem : (ν k N M : ℕ) (partition : List (ℕ × ℕ)) (n : ℕ) → 0 < ν → 0 < (last_node start (nodes ν M partition)).0 → (last_node start (nodes ν M partition)).0 < M →
    T (tail_above ν k N M (nodes ν M partition) (node (nodes ν M partition) n)) → TailAbove by_area ν k N
unfolding TailAbove BeyondAtLeast WholeAtMost After Inside Tailed
tail_above_lem ν k N M partition n hν hz g t =
    let a = after ν N M (node (nodes ν M partition) n).0 in
    above_holds (BeyondAtLeast ν N) (WholeAtMost ν) _ _ 1 k
    (M, partition, n, g, leb→le _ _ (and_l a _ t), refl)
    (M, partition, omega (arith, hν, hz, g), refl)
    (and_r a _ t)

tail_below_lem : (ν k N M : ℕ) (partition : List (ℕ × ℕ)) (n : ℕ) → 0 < ν → 0 < (last_node start (nodes ν M partition)).0 → (last_node start (nodes ν M partition)).0 < M →
    T (tail_below ν k N M (nodes ν M partition) (node (nodes ν M partition) n)) → TailBelow by_area ν k N
unfolding TailBelow BeyondAtMost WholeAtLeast Before Inside Tailed
tail_below_lem ν k N M partition n hν hz g t =
    let b = before ν N M (node (nodes ν M partition) n).0 in
    below_holds (BeyondAtMost ν N) (WholeAtLeast ν) _ _ 1 k
    (M, partition, n, omega (arith, hν, hz, g), leb→le _ _ (and_l b _ t), refl)
    (M, partition, g, refl)
    (and_r b _ t)

-- an entry, at the nodes m and n
abbrev rounded : ℕ → ℕ → ℕ → ℕ → ℕ → List Node → ℕ → ℕ → Bool
rounded ν k e h M l m n =
    (ltb 0 (last_node start l).0 && ltb (last_node start l).0 M)
    && (tail_above ν k (2 * e - h) M l (node l m) && tail_below ν k (2 * e + h) M l (node l n))

rounded_holds : (ν k e h M : ℕ) (partition : List (ℕ × ℕ)) (m n : ℕ) → 0 < ν → T (rounded ν k e h M (nodes ν M partition) m n) → Rounded by_area ν k e h
unfolding Rounded
rounded_holds ν k e h M partition m n hν t =
    let l = nodes ν M partition in
    let z = ltb 0 (last_node start l).0 in
    let i = ltb (last_node start l).0 M in
    let a = tail_above ν k (2 * e - h) M l (node l m) in
    let q = and_l (z && i) _ t in
    let hz = ltb→lt _ _ (and_l z _ q) in
    let g = ltb→lt _ _ (and_r z _ q) in
    let r = and_r (z && i) _ t in
    (tail_above_lem ν k _ M partition m hν hz g (and_l a _ r), tail_below_lem ν k _ M partition n hν hz g (and_r a _ r))

-- the partition of each row has a node half a place below each entry and one half a place above it
abbrev entry : ℕ → List Node → ℕ → Bool
entry row l col = rounded (row + 1) (one_in col) (table_entry row col) (half_place row col) 1000000000000 l (3 * col + 1) (3 * col + 2)

abbrev cols : ℕ → List Node → Bool
cols row l = all_below (entry row l) 6

abbrev partition_of : ℕ → List (ℕ × ℕ)
partition_of row = get_or partitions row []

abbrev row_test : ℕ → Bool
row_test row = cols row (nodes (row + 1) 1000000000000 (partition_of row))

-- The computation, in parts: the prover bounds the steps of each.
abbrev part : ℕ → ℕ → Bool
part a n = all_below (λ i. row_test (a + i)) n

join : (a n : ℕ) → T (all_below row_test a) → T (part a n) → T (all_below row_test (a + n))
unfolding all_below
join a zero p q = rw add-zero p
join a (suc n) p q = rw add-suc (and_i (row_test (a + n)) _ (and_l (row_test (a + n)) _ q) (join a n p (and_r (row_test (a + n)) _ q)))

rows_0 : T (all_below row_test 1)
unfolding all_below below above over_beyond under_beyond tail_bound partitions nodes nodes_from add_pieces node last_node piece_at piece_of piece height one_in half_place table_entry thousandths
rows_0 = tt

rows_1 : T (part 1 3)
unfolding all_below below above over_beyond under_beyond tail_bound partitions nodes nodes_from add_pieces node last_node piece_at piece_of piece height one_in half_place table_entry thousandths
rows_1 = tt

rows_4 : T (part 4 5)
unfolding all_below below above over_beyond under_beyond tail_bound partitions nodes nodes_from add_pieces node last_node piece_at piece_of piece height one_in half_place table_entry thousandths
rows_4 = tt

rows_9 : T (part 9 6)
unfolding all_below below above over_beyond under_beyond tail_bound partitions nodes nodes_from add_pieces node last_node piece_at piece_of piece height one_in half_place table_entry thousandths
rows_9 = tt

rows_15 : T (part 15 5)
unfolding all_below below above over_beyond under_beyond tail_bound partitions nodes nodes_from add_pieces node last_node piece_at piece_of piece height one_in half_place table_entry thousandths
rows_15 = tt

rows_20 : T (part 20 5)
unfolding all_below below above over_beyond under_beyond tail_bound partitions nodes nodes_from add_pieces node last_node piece_at piece_of piece height one_in half_place table_entry thousandths
rows_20 = tt

rows_25 : T (part 25 3)
unfolding all_below below above over_beyond under_beyond tail_bound partitions nodes nodes_from add_pieces node last_node piece_at piece_of piece height one_in half_place table_entry thousandths
rows_25 = tt

rows_28 : T (part 28 2)
unfolding all_below below above over_beyond under_beyond tail_bound partitions nodes nodes_from add_pieces node last_node piece_at piece_of piece height one_in half_place table_entry thousandths
rows_28 = tt

rows : T (all_below row_test 30)
rows = join 28 2 (join 25 3 (join 20 5 (join 15 5 (join 9 6 (join 4 5 (join 1 3 rows_0 rows_1) rows_4) rows_9) rows_15) rows_20) rows_25) rows_28

-- the theorem
pub every_entry_by_area : EveryEntry by_area
unfolding EveryEntry IsQuantile
every_entry_by_area row col hr hc =
    rounded_holds (row + 1) (one_in col) _ _ 1000000000000 (partition_of row) (3 * col + 1) (3 * col + 2) (omega arith)
    (all_below_lem (entry row (nodes (row + 1) 1000000000000 (partition_of row))) 6 (all_below_lem row_test 30 rows row hr) col hc)

-- The sums over the rows before a fold grow from fold to fold, and those from its end on are added to a copy of them: both in the corner of k rows
-- and columns.
use Rattle.std.proofs.Common.{◌≡◌, ℕ, ◌+◌, ◌<◌, ◌≤◌, List, length, take, drop, replicate, arith}
use lib.Ieee.{Float}
use Rattle.loops.specs.Fold.{fold}
use Rattle.value.specs.Numbers.{zero_f}
use Rattle.monomial.specs.Rows.{WeightedRow}
use Rattle.monomial.specs.ReadingLaws.{parts_joined}
use Rattle.monomial.specs.Sums.{add_rows, sums_of}
use Rattle.monomial.specs.Corner.{SameCorner}
use Rattle.monomial.specs.CornerLaws.{corner_itself, corner_append}
use Rattle.folds.specs.Folds.{start_of, end_of, others_of}
use Rattle.folds.specs.FoldLaws.{first_start, next_start, start_end}

module _ (k : ℕ) (fits : k ≤ 16) (rows : List WeightedRow) (s t : List Float) (long : 272 ≤ length s) where
  module _ (n folds f start end : ℕ) (inside : f < folds) (begins : start ≡ start_of n folds f) (w : SameCorner k s (sums_of (take (start_of n folds f) rows))) where
    from_start : SameCorner k s (sums_of (take start rows))
    from_start = rw begins w

    -- those from end on, behind those before start
    pub others_same : SameCorner k t (add_rows s (drop end rows)) → SameCorner k t (sums_of (others_of start end rows))
    unfolding others_of
    others_same m = corner_append k fits s t (take start rows) (drop end rows) long from_start m

    -- the fold's own
    pub passed_same : end ≡ end_of n folds f → SameCorner k t (add_rows s (drop start (take end rows))) → SameCorner k t (sums_of (take (end_of n folds f) rows))
    passed_same ends m =
        rw (← ends, ← parts_joined start end rows (omega (arith, begins, ends, start_end n folds f inside)))
        (corner_append k fits s t (take start rows) (drop start (take end rows)) long from_start m)

-- none before the first fold
pub begun : (k n folds : ℕ) (rows : List WeightedRow) → SameCorner k (replicate 272 zero_f) (sums_of (take (start_of n folds 0) rows))
unfolding sums_of fold
begun k n folds rows = rw (first_start n folds) (corner_itself k (replicate 272 zero_f))

-- where a fold ends the next begins
pub next_begun : (k n folds f : ℕ) (rows : List WeightedRow) (s : List Float) → SameCorner k s (sums_of (take (end_of n folds f) rows)) → f + 1 < folds
    → SameCorner k s (sums_of (take (start_of n folds (f + 1)) rows))
next_begun k n folds f rows s w h = rw (next_start n folds f h) w

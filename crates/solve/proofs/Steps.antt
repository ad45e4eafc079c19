-- The definitions of the solution and of the inverse, opened at what an elimination left.
use Rattle.std.proofs.Common.{◌≡◌, ap, ◌∙◌, List, ◌++◌, ℕ, ◌+◌, ◌-◌, ◌≤◌, ◌<◌, leb, take, drop, replicate, append-nil, arith}
use Rattle.std.specs.Float.{Float}
use Rattle.loops.specs.Loop.{from, Stopped}
use Rattle.loops.specs.LoopLaws.{again}
use Rattle.value.specs.Numbers.{zero_f}
use Rattle.solve.specs.Solve.{System, eliminate, back_row, back, matrix_of, ridge, unit, unit_column, column_holds, put_column, inverse_column, inverse_columns, inverse}

-- back substitution takes row r - 1 next
pub back_again : (k r : ℕ) (m b : List Float) → 0 < r → r ≤ k
    → from (λ i. back_row k m (k - 1 - i)) (k - (r - 1)) k (back_row k m (r - 1) b) ≡ from (λ i. back_row k m (k - 1 - i)) (k - r) k b
back_again k r m b h l =
    let next : k - (r - 1) ≡ k - r + 1 = omega arith in
    let row : r - 1 ≡ k - 1 - (k - r) = omega arith in
    rw next (ap (λ q. from (λ i. back_row k m (k - 1 - i)) (k - r + 1) k (back_row k m q b)) row ∙ again (λ i. back_row k m (k - 1 - i)) (k - r) k b (omega arith))

-- a is the matrix of the sums as the code copies it, and m the same with 2⁻⁵² added
pub ridged : (sums : List Float) (k : ℕ) (a m : List Float) → a ≡ take 256 sums ++ drop 256 (replicate 256 zero_f) → m ≡ ridge k a → m ≡ ridge k (matrix_of sums)
ridged sums k a m o p = p ∙ ap (ridge k) (o ∙ append-nil (take 256 sums))

-- the answer of columns that were made up to where they stopped
pub answered : (sums : List Float) (k : ℕ) (t : Stopped (List Float)) → t ≡ inverse_columns k (ridge k (matrix_of sums)) → record { columns = t.at; v = t.state } ≡ inverse sums k
unfolding inverse
answered sums k t e = rw e

module _ (k : ℕ) (m : List Float) (j : ℕ) (v : List Float) (t : Stopped System) (e : t ≡ eliminate m k (record { m = m; b = unit j })) where
  pub column_is : put_column k j (back k t.state.m t.state.b) v ≡ inverse_column k m j v
  unfolding inverse_column unit_column
  column_is = rw e

  pub holds_is : column_holds k m j v ≡ leb k t.at
  unfolding column_holds unit_column
  holds_is = rw e

-- Laws of the solution and the inverse: when the inverse is whole, and which places the solution fills.
use Rattle.std.specs.Prelude.{◌≡◌, refl, Bool, true, false, cond, List, ℕ, ◌+◌, ◌-◌, ◌*◌, ◌≤◌, ◌<◌, ltb, leb, length, get_or, replicate, Float}
use Rattle.std.proofs.Math.Path.{ap}
use Rattle.std.proofs.Common.{◌∙◌, arith, length-set}
use borrow.Author.Tests.{le-leb, lt-leb}
use Rattle.std.specs.Float.{nan}
use Rattle.loops.specs.Loop.{Stopped}
use Rattle.loops.specs.LoopLaws.{from_related, from_keeps, while_related, while_keeps, while_all, while_fails}
use Rattle.loops.specs.PlaceLaws.{each_rest, length_each}
use Rattle.loops.specs.Within.{Within}
use Rattle.loops.specs.WithinLaws.{within_itself, within_then, within_set}
use Rattle.value.specs.Numbers.{zero_f}
use Rattle.solve.specs.Solve.{System, pivot_holds, clear_row, clear_below, eliminate, back_row, back, matrix_of, right_of, solved, solve, ridge_cell, ridge, unit, unit_column, column_holds, inverse_column, inverse_columns, inverse}
use Rattle.solve.specs.Corner.{ridge_held}

-- ---- the inverse is whole exactly when no pivot fails

-- b is no part of what decides a pivot
SameM : System → System → Type 0
SameM s t = s.m ≡ t.m

row_without_b : (k p r : ℕ) (s t : System) → SameM s t → SameM (clear_row k p r s) (clear_row k p r t)
unfolding clear_row SameM
row_without_b k p r s t e = rw e

pivot_without_b : (start : List Float) (k p : ℕ) (s t : System) → SameM s t → (pivot_holds start p s ≡ pivot_holds start p t) × SameM (clear_below k p s) (clear_below k p t)
unfolding pivot_holds clear_below SameM
pivot_without_b start k p s t e = (rw e, from_related SameM (clear_row k p) (clear_row k p) (p + 1) k s t (λ r u v i l o. row_without_b k p r u v o) e)

pub held_without_b : (start : List Float) (k : ℕ) (m b b' : List Float) → (eliminate start k (record { m = m; b = b })).at ≡ (eliminate start k (record { m = m; b = b' })).at
unfolding eliminate SameM
held_without_b start k m b b' =
    (while_related SameM (pivot_holds start) (pivot_holds start) (clear_below k) (clear_below k) 0 k (record { m = m; b = b }) (record { m = m; b = b' })
    (λ p s t i l e. pivot_without_b start k p s t e) refl).stop

module _ (sums : List Float) (k : ℕ) (b : List Float) where
  column_test : (j : ℕ) (v : List Float) → column_holds k (ridge k (matrix_of sums)) j v ≡ leb k (ridge_held sums k b)
  unfolding column_holds unit_column
  column_test j v = ap (leb k) (held_without_b (ridge k (matrix_of sums)) k (ridge k (matrix_of sums)) (unit j) b)

  pub inverse_whole : ridge_held sums k b ≡ k → (inverse sums k).columns ≡ k
  unfolding inverse inverse_columns
  inverse_whole e =
      while_all (column_holds k (ridge k (matrix_of sums))) (inverse_column k (ridge k (matrix_of sums))) 0 k (replicate 256 zero_f) (omega arith)
      (λ j v i l. column_test j v ∙ le-leb k (ridge_held sums k b) (omega (arith, e)))

  pub inverse_none : ridge_held sums k b < k → (inverse sums k).columns ≡ 0
  unfolding inverse inverse_columns
  inverse_none e =
      ap (λ (u : Stopped (List Float)). u.at)
      (while_fails (column_holds k (ridge k (matrix_of sums))) (inverse_column k (ridge k (matrix_of sums))) 0 k (replicate 256 zero_f) (omega (arith, e)) (column_test 0 (replicate 256 zero_f) ∙ lt-leb k (ridge_held sums k b) e))

-- the corner with 2⁻⁵² added is as long
pub length_ridge : (k : ℕ) (m : List Float) → length (ridge k m) ≡ length m
unfolding ridge
length_ridge k m = from_keeps (λ t. length t ≡ length m) ridge_cell 0 k m (λ i t a b e. length-set t (16 * i + i) _ ∙ e) refl

-- ---- the solution has 16 places, +0 from k on

module _ (k : ℕ) (h : k ≤ 16) (b : List Float) where
  back_within : (m u : List Float) → Within k b u → Within k b (back k m u)
  unfolding back back_row
  back_within m u w = from_keeps (Within k b) (λ i. back_row k m (k - 1 - i)) 0 k u (λ i v a l o. within_then o (within_set k v (k - 1 - i) _ (omega arith))) w

  row_within : (p r : ℕ) (s : System) → r < k → Within k b s.b → Within k b (clear_row k p r s).b
  unfolding clear_row
  row_within p r s l w = within_then w (within_set k s.b r _ l)

  below_within : (p : ℕ) (s : System) → Within k b s.b → Within k b (clear_below k p s).b
  unfolding clear_below
  below_within p s w = from_keeps (λ (u : System). Within k b u.b) (clear_row k p) (p + 1) k s (λ r u i l o. row_within p r u l o) w

  pub eliminate_within : (start : List Float) (s : System) → Within k b s.b → Within k b (eliminate start k s).state.b
  unfolding eliminate
  eliminate_within start s w = while_keeps (λ (u : System). Within k b u.b) (pivot_holds start) (clear_below k) 0 k s (λ p u i l o. below_within p u o) w

pub solve_within : (sums : List Float) (k : ℕ) → k ≤ 16 → Within k (replicate 16 zero_f) (solve sums k).c
unfolding solve solved right_of
solve_within sums k h = by_test (ltb t.at k)
  where
    t : Stopped System
    t = eliminate (matrix_of sums) k (record { m = matrix_of sums; b = right_of sums k })

    z : List Float
    z = replicate 16 zero_f

    by_test : (f : Bool) → Within k z (cond f z (back k t.state.m t.state.b))
    by_test true = within_itself k z
    by_test false =
        back_within k h z t.state.m t.state.b
        (eliminate_within k h z (matrix_of sums) (record { m = matrix_of sums; b = right_of sums k })
        (record { long = length_each (λ i _. get_or sums (256 + i) nan) k z; rest = each_rest (λ i _. get_or sums (256 + i) nan) k z }))

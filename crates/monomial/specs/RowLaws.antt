-- Laws of Rows.antt.
use Rattle.std.specs.Prelude.{◌≡◌, List, [], ◌∷◌, ◌++◌, map, ℕ, ◌+◌, ◌-◌, ◌≤◌, length, take, drop, Float}
use Rattle.std.proofs.Math.Path.{sym}
use Rattle.std.proofs.Common.{ap, ◌∙◌, arith, take-append-drop, get_or-drop}
use Rattle.std.specs.Float.{nan}
use Rattle.loops.specs.Places.{each, table}
use Rattle.loops.specs.PlaceLaws.{table_again, take_table, length_table, map_table, table_same, drop_table, table_take, each_write, get_d_within}
use Rattle.value.specs.Numbers.{one_f}
use Rattle.basis.specs.declared.Basis.{Basis}
use Rattle.basis.specs.declared.Basis.TheVariants.{Curve}
use Rattle.samples.specs.Columns.{sample_at, samples_of, columns_of}
use Rattle.samples.specs.ColumnLaws.{map_samples}
use Rattle.monomial.specs.Terms.{terms_at}
use Rattle.monomial.specs.Rows.{Row, row_at, rows_at, row_of, rows_of, ys_in, WeightedRow, weighted_at, weighted_rows_at, weighted_of, weighted_rows, rows_in}

module _ (basis : Basis) (xs zs ys : List Float) where
  pub length_rows_at : (n : ℕ) → length (rows_at basis n xs zs ys) ≡ n
  unfolding rows_at
  length_rows_at n = length_table (row_at basis xs zs ys) n

  -- one place more is one row more at the end
  pub rows_at_again : (n : ℕ) → rows_at basis (n + 1) xs zs ys ≡ rows_at basis n xs zs ys ++ (row_at basis xs zs ys n ∷ [])
  unfolding rows_at
  rows_at_again n = table_again (row_at basis xs zs ys) n

  -- the first m of n rows
  pub rows_at_take : (m n : ℕ) → m ≤ n → take m (rows_at basis n xs zs ys) ≡ rows_at basis m xs zs ys
  unfolding rows_at
  rows_at_take m n h = take_table (row_at basis xs zs ys) m n h

  -- what g makes of each row
  pub map_rows_at : {B : Type 0} (g : Row → B) (n : ℕ) → table (λ t. g (row_at basis xs zs ys t)) n ≡ map g (rows_at basis n xs zs ys)
  unfolding rows_at
  map_rows_at g n = map_table g (row_at basis xs zs ys) n

  -- n places are written with it
  pub each_rows_at : {B : Type 0} (g : Row → B) (n : ℕ) (s : List B) → n ≤ length s
      → each (λ t _. g (row_at basis xs zs ys t)) n s ≡ map g (rows_at basis n xs zs ys) ++ drop n s
  each_rows_at g n s h = each_write (λ t. g (row_at basis xs zs ys t)) n s h ∙ ap (λ l. l ++ drop n s) (map_rows_at g n)

-- the rows of the columns from place b on
pub rows_at_drop : (basis : Basis) (b n : ℕ) (xs zs ys : List Float) → b ≤ n
    → rows_at basis (n - b) (drop b xs) (drop b zs) (drop b ys) ≡ drop b (rows_at basis n xs zs ys)
unfolding rows_at row_at
rows_at_drop basis b n xs zs ys h =
    table_same (row_at basis (drop b xs) (drop b zs) (drop b ys)) (λ k. row_at basis xs zs ys (b + k)) (n - b)
    (λ k q. rw (get_or-drop b xs k nan, get_or-drop b zs k nan, get_or-drop b ys k nan))
    ∙ sym (drop_table (row_at basis xs zs ys) b n h)

-- a curve's rows are those of the samples, whatever is lent for zs
pub curve_rows : (n : ℕ) (xs zs ys ws : List Float) → rows_at Curve n xs zs ys ≡ rows_of (samples_of n (columns_of xs ys ws))
unfolding rows_at row_at row_of terms_at
curve_rows n xs zs ys ws = map_samples n (columns_of xs ys ws) row_of

-- their y's are the first n places of the column
pub ys_in_rows : (basis : Basis) (n : ℕ) (xs zs ys : List Float) → n ≤ length ys → ys_in (rows_at basis n xs zs ys) ≡ take n ys
unfolding row_at
ys_in_rows basis n xs zs ys h = sym (map_rows_at basis xs zs ys (λ (r : Row). r.y) n) ∙ table_take nan n ys h

-- ---- with weights

module _ (basis : Basis) (xs zs ys ws : List Float) where
  pub length_weighted_at : (n : ℕ) → length (weighted_rows_at basis n xs zs ys ws) ≡ n
  unfolding weighted_rows_at
  length_weighted_at n = length_table (weighted_at basis xs zs ys ws) n

  pub weighted_at_again : (n : ℕ) → weighted_rows_at basis (n + 1) xs zs ys ws ≡ weighted_rows_at basis n xs zs ys ws ++ (weighted_at basis xs zs ys ws n ∷ [])
  unfolding weighted_rows_at
  weighted_at_again n = table_again (weighted_at basis xs zs ys ws) n

  pub weighted_at_take : (m n : ℕ) → m ≤ n → take m (weighted_rows_at basis n xs zs ys ws) ≡ weighted_rows_at basis m xs zs ys ws
  unfolding weighted_rows_at
  weighted_at_take m n h = take_table (weighted_at basis xs zs ys ws) m n h

  -- and those behind them
  pub weighted_at_join : (m n : ℕ) → m ≤ n → weighted_rows_at basis m xs zs ys ws ++ drop m (weighted_rows_at basis n xs zs ys ws) ≡ weighted_rows_at basis n xs zs ys ws
  weighted_at_join m n h =
      ap (λ l. l ++ drop m (weighted_rows_at basis n xs zs ys ws)) (sym (weighted_at_take m n h)) ∙ take-append-drop m (weighted_rows_at basis n xs zs ys ws)

  -- without their weights they are the rows
  pub rows_in_weighted : (n : ℕ) → rows_in (weighted_rows_at basis n xs zs ys ws) ≡ rows_at basis n xs zs ys
  unfolding weighted_rows_at rows_at weighted_at
  rows_in_weighted n = sym (map_table (λ (r : WeightedRow). r.row) (weighted_at basis xs zs ys ws) n)

-- a curve's are those of the samples, where each has a weight
pub curve_weighted : (n : ℕ) (xs zs ys ws : List Float) → n ≤ length ws → weighted_rows_at Curve n xs zs ys ws ≡ weighted_rows (samples_of n (columns_of xs ys ws))
unfolding weighted_rows_at weighted_at row_at row_of terms_at
curve_weighted n xs zs ys ws h =
    table_same (weighted_at Curve xs zs ys ws) (λ t. weighted_of (sample_at (columns_of xs ys ws) t)) n (λ t b. λ i. record { row = row_at Curve xs zs ys t; weight = get_d_within ws t one_f nan (omega arith) i })
    ∙ map_samples n (columns_of xs ys ws) weighted_of

-- Laws of Points.antt.
use Rattle.std.specs.Prelude.{◌≡◌, ℕ, ◌≤◌, length, take, Float}
use Rattle.std.proofs.Math.Path.{sym, ap}
use Rattle.std.proofs.Common.{◌∙◌}
use mathlib.Core.List.{List, [], map}
use Rattle.std.specs.Float.Ieee.{nan}
use Rattle.loops.specs.PlaceLaws.{length_table, map_table, table_take}
use Rattle.basis.specs.declared.Basis.TheVariants.{Surface}
use Rattle.monomial.specs.Rows.{Row, row_at, rows_at, weighted_at, weighted_rows_at}
use Rattle.monomial.specs.Plain.{at_one, plain_sums}
use Rattle.monomial.specs.PlainLaws.{sums_at_one}
use Rattle.monomial.specs.Sums.{sums_of}
use Rattle.surface.specs.Points.{Point, xs_in, zs_in, PointColumns, point_columns, point_at, points_of, row_of_point, rows_of_points, surface_sums}

module _ (n : ℕ) (c : PointColumns) where
  pub length_points : length (points_of n c) ≡ n
  unfolding points_of
  length_points = length_table (point_at c) n

  -- their coordinates are the first n places of the columns
  pub xs_of_points : n ≤ length c.xs → xs_in (points_of n c) ≡ take n c.xs
  unfolding points_of
  xs_of_points h = sym (map_table (λ (p : Point). p.x) (point_at c) n) ∙ table_take nan n c.xs h

  pub zs_of_points : n ≤ length c.zs → zs_in (points_of n c) ≡ take n c.zs
  unfolding points_of
  zs_of_points h = sym (map_table (λ (p : Point). p.z) (point_at c) n) ∙ table_take nan n c.zs h

module _ (n : ℕ) (xs zs ys : List Float) where
  -- the rows read off the columns are those of the samples
  pub rows_of_points_lem : rows_at Surface n xs zs ys ≡ rows_of_points (points_of n (point_columns xs zs ys))
  unfolding rows_at row_at row_of_point points_of
  rows_of_points_lem = map_table row_of_point (point_at (point_columns xs zs ys)) n

  -- the sums of the rows at weight 1 are those of the columns with no weights lent
  pub sums_of_points : sums_of (weighted_rows_at Surface n xs zs ys []) ≡ surface_sums (points_of n (point_columns xs zs ys))
  unfolding surface_sums weighted_rows_at weighted_at rows_at
  sums_of_points = ap sums_of (map_table at_one (row_at Surface xs zs ys) n ∙ ap (λ (rs : List Row). map at_one rs) rows_of_points_lem)

-- and document 01's, of rows without a weight
pub surface_sums_plain : (ps : List Point) → surface_sums ps ≡ plain_sums (rows_of_points ps)
unfolding surface_sums
surface_sums_plain ps = sums_at_one (rows_of_points ps)

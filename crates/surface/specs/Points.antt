-- A surface's samples, the columns that they are read from, and their rows and sums. Definitions only.
use Rattle.std.specs.Prelude.{List, [], ◌∷◌, map, ℕ, length, get_or, Float}
use Rattle.std.specs.Float.{nan}
use Rattle.loops.specs.Places.{table}
use Rattle.basis.specs.declared.Basis.TheVariants.{Surface}
use Rattle.monomial.specs.Terms.{terms_at}
use Rattle.monomial.specs.Rows.{Row}
use Rattle.monomial.specs.Plain.{at_one}
use Rattle.monomial.specs.Sums.{sums_of}
use Rattle.surface.specs.declared.Points.{Points}

-- A surface's sample: two coordinates and y.
pub record Point : Type 0 where
  pub x : Float
  pub z : Float
  pub y : Float

abbrev pub xs_in : List Point → List Float
xs_in ps = map (λ (p : Point). p.x) ps

abbrev pub zs_in : List Point → List Float
zs_in ps = map (λ (p : Point). p.z) ps

-- the lent columns x, z and y
pub record PointColumns : Type 0 where
  pub xs : List Float
  pub zs : List Float
  pub ys : List Float

abbrev pub point_columns : List Float → List Float → List Float → PointColumns
point_columns xs zs ys = record { xs = xs; zs = zs; ys = ys }

-- and of the lent struct
abbrev pub held_points : Points → PointColumns
held_points p = point_columns p.xs.now p.zs.now p.ys.now

abbrev pub point_lengths : PointColumns → List ℕ
point_lengths c = length c.xs ∷ length c.zs ∷ length c.ys ∷ []

-- the sample of place t, and those of the first n places
abbrev pub point_at : PointColumns → ℕ → Point
point_at c t = record { x = get_or c.xs t nan; z = get_or c.zs t nan; y = get_or c.ys t nan }

unfoldable pub points_of : ℕ → PointColumns → List Point
points_of n c = table (point_at c) n

-- a sample's row: the 15 term values at its x and z, and its y
unfoldable pub row_of_point : Point → Row
row_of_point p = record { terms = terms_at Surface p.x p.z; y = p.y }

abbrev pub rows_of_points : List Point → List Row
rows_of_points ps = map row_of_point ps

-- Sums folded from these; samples are unweighted: each has weight 1.
unfoldable pub surface_sums : List Point → List Float
surface_sums ps = sums_of (map at_one (rows_of_points ps))

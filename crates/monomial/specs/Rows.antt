-- Rows of term values read off columns, and the fitted value over one. Definitions only.
use Rattle.std.specs.Prelude.{List, map, ℕ, get_or, Float}
use Rattle.std.specs.Float.{nan, binary64}
use Rattle.std.specs.Float.Ieee.{mul}
use Rattle.basis.specs.Sizes.{max_terms}
use Rattle.loops.specs.Places.{table}
use Rattle.value.specs.Numbers.{one_f}
use Rattle.value.specs.Power.{power_f}
use Rattle.value.specs.Total.{total_f}
use Rattle.basis.specs.declared.Basis.{Basis}
use Rattle.samples.specs.declared.Sample.{Sample}
use Rattle.monomial.specs.Terms.{terms_at}

-- A sample's term values and its y. The solution, the fitted value and the residuals are made from rows alone.
pub record Row : Type 0 where
  pub terms : List Float
  pub y : Float

-- the row of place t of three columns; a curve reads no z and is lent xs for zs
unfoldable pub row_at : Basis → List Float → List Float → List Float → ℕ → Row
row_at basis xs zs ys t = record { terms = terms_at basis (get_or xs t nan) (get_or zs t nan); y = get_or ys t nan }

-- the rows of the first n places
unfoldable pub rows_at : Basis → ℕ → List Float → List Float → List Float → List Row
rows_at basis n xs zs ys = table (row_at basis xs zs ys) n

-- a sample's row for the curve: the powers 0 to 15 of its x, and its y
unfoldable pub row_of : Sample → Row
row_of p = record { terms = table (power_f p.x) max_terms; y = p.y }

abbrev pub rows_of : List Sample → List Row
rows_of ps = map row_of ps

-- the y's of rows
abbrev pub ys_in : List Row → List Float
ys_in rs = map (λ (r : Row). r.y) rs

-- ---- with weights

-- A row and its sample's weight: what the sums are made from, and nothing else.
pub record WeightedRow : Type 0 where
  pub row : Row
  pub weight : Float

abbrev pub weighted_row : List Float → Float → Float → WeightedRow
weighted_row terms y w = record { row = record { terms = terms; y = y }; weight = w }

-- the weight of place t; where no weight is lent, it is 1
abbrev pub weight_at : List Float → ℕ → Float
weight_at ws t = get_or ws t one_f

-- the rows of the first n places, each with its weight
unfoldable pub weighted_at : Basis → List Float → List Float → List Float → List Float → ℕ → WeightedRow
weighted_at basis xs zs ys ws t = record { row = row_at basis xs zs ys t; weight = weight_at ws t }

unfoldable pub weighted_rows_at : Basis → ℕ → List Float → List Float → List Float → List Float → List WeightedRow
weighted_rows_at basis n xs zs ys ws = table (weighted_at basis xs zs ys ws) n

-- a sample's row for the curve with its weight
abbrev pub weighted_of : Sample → WeightedRow
weighted_of p = record { row = row_of p; weight = p.w }

abbrev pub weighted_rows : List Sample → List WeightedRow
weighted_rows ps = map weighted_of ps

-- the rows without their weights
abbrev pub rows_in : List WeightedRow → List Row
rows_in rs = map (λ (r : WeightedRow). r.row) rs

-- The fitted value adds coefficient × term value, ascending, from +0, for the k coefficients.
unfoldable pub fitted : ℕ → List Float → List Float → Float
fitted k c terms = total_f (table (λ j. mul binary64 (get_or c j nan) (get_or terms j nan)) k)

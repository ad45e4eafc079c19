-- Samples of document 01 and the two columns that they stand in. Definitions only.
use Rattle.std.specs.Prelude.{List, [], ◌∷◌, map, ℕ, length, get_or, set, Float}
use Rattle.std.specs.Float.{nan}
use Rattle.basis.specs.Sizes.{max_terms}
use Rattle.loops.specs.Places.{table}
use Rattle.value.specs.Numbers.{one_f}
use Rattle.value.specs.Power.{power_f}
use Rattle.samples.specs.declared.Sample.{Sample}
use Rattle.monomial.specs.Rows.{Row}
use Rattle.two_column.specs.declared.Pair.{Pair}

-- a sample's row for the curve: the powers 0 to 15 of x, and y
abbrev pub pair_row : Pair → Row
pair_row p = record { terms = table (power_f p.x) max_terms; y = p.y }

abbrev pub pair_rows : List Pair → List Row
pair_rows ps = map pair_row ps

-- the same sample in a book with weights: document 02 has it mean weight 1
abbrev pub at_weight_one : Pair → Sample
at_weight_one p = record { x = p.x; y = p.y; w = one_f }

-- and the other way, where the weight is left out
abbrev pub pair_of : Sample → Pair
pair_of p = record { x = p.x; y = p.y }

-- ---- the two columns

pub record Columns : Type 0 where
  pub xs : List Float
  pub ys : List Float

abbrev pub columns : List Float → List Float → Columns
columns xs ys = record { xs = xs; ys = ys }

abbrev pub lengths : Columns → List ℕ
lengths c = length c.xs ∷ length c.ys ∷ []

-- the samples of the first n places
unfoldable pub pairs_of : ℕ → Columns → List Pair
pairs_of n c = table (λ t. record { x = get_or c.xs t nan; y = get_or c.ys t nan }) n

-- the columns with a sample at place n, with a new y at place i
abbrev pub with_pair : ℕ → Pair → Columns → Columns
with_pair n p c = record { xs = set c.xs n p.x; ys = set c.ys n p.y }

abbrev pub with_new_y : ℕ → Float → Columns → Columns
with_new_y i y c = record { xs = c.xs; ys = set c.ys i y }

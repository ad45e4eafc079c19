-- Document 01's sums: what a sample adds at each place, and the 272 places over a list of rows. Definitions only.
use Rattle.std.specs.Prelude.{cond, List, ℕ, ◌-◌, ◌/◌, ◌%◌, ltb, get_or, replicate, Float}
use Rattle.std.specs.Float.{nan, binary64}
use Rattle.std.specs.Float.Ieee.{add, mul}
use Rattle.basis.specs.Sizes.{matrix_places, sum_places}
use Rattle.loops.specs.Fold.{fold}
use Rattle.loops.specs.Places.{each}
use Rattle.value.specs.Numbers.{zero_f}
use Rattle.monomial.specs.Rows.{WeightedRow}

-- Document 01's product at place k of these term values and this y, and nothing else says it: at 16i + j that of term values i and j, then at 256 + i
-- that of term value i and y, i and j from 0 to 15.
unfoldable pub product_of : List Float → Float → ℕ → Float
product_of terms y k = cond (ltb k matrix_places) (mul binary64 (get_or terms (k / 16) nan) (get_or terms (k % 16) nan)) (mul binary64 (get_or terms (k - matrix_places) nan) y)

-- What a sample adds there: (xⁱ × xʲ) × w and (xⁱ × y) × w.
unfoldable pub weighted_product : WeightedRow → ℕ → Float
weighted_product r k = mul binary64 (product_of r.row.terms r.row.y k) r.weight

-- An add adds its products to what stands at the 272 places.
unfoldable pub add_row : List Float → WeightedRow → List Float
add_row s r = each (λ k v. add binary64 v (weighted_product r k)) sum_places s

-- rows are added one after the other
abbrev pub add_rows : List Float → List WeightedRow → List Float
add_rows s rs = fold add_row s rs

-- The sums of a list are always the 272 over the whole list, in index order from +0; this is what "folded afresh" means.
unfoldable pub sums_of : List WeightedRow → List Float
sums_of rs = add_rows (replicate sum_places zero_f) rs

-- Document 01's sums, of rows without a weight. Definitions only.
use Rattle.std.specs.Prelude.{List, replicate, Float}
use Rattle.std.specs.Float.{binary64}
use Rattle.std.specs.Float.Ieee.{add}
use Rattle.basis.specs.Sizes.{sum_places}
use Rattle.loops.specs.Fold.{fold}
use Rattle.loops.specs.Places.{each}
use Rattle.value.specs.Numbers.{one_f, zero_f}
use Rattle.monomial.specs.Rows.{Row, WeightedRow}
use Rattle.monomial.specs.Sums.{product_of}

-- An add adds its products to what stands at the 272 places.
unfoldable pub add_plain : List Float → Row → List Float
add_plain s r = each (λ k v. add binary64 v (product_of r.terms r.y k)) sum_places s

abbrev pub add_plain_rows : List Float → List Row → List Float
add_plain_rows s rs = fold add_plain s rs

-- the 272 over the whole list, in index order from +0
unfoldable pub plain_sums : List Row → List Float
plain_sums rs = add_plain_rows (replicate sum_places zero_f) rs

-- a row at weight 1
abbrev pub at_one : Row → WeightedRow
at_one r = record { row = r; weight = one_f }

-- The two parts of the sums, A and g, by what they are made from. Definitions only.
use Rattle.std.specs.Prelude.{List, map, ℕ, ◌+◌, Float}
use Rattle.value.specs.Numbers.{zero_f}
use Rattle.samples.specs.declared.Sample.{Sample}
use Rattle.monomial.specs.Rows.{WeightedRow, weighted_row}
use Rattle.monomial.specs.Sums.{weighted_product}

-- A is made from the term values and the weights alone, so that rows which differ in y have one A
abbrev pub without_y : WeightedRow → WeightedRow
without_y r = weighted_row r.row.terms zero_f r.weight

-- a sample without its y
abbrev pub y_aside : Sample → Sample
y_aside p = record { x = p.x; y = zero_f; w = p.w }

abbrev pub terms_of : List WeightedRow → List WeightedRow
terms_of rs = map without_y rs

-- g is the last 16 of the 272: what each row adds from place 256 on
abbrev pub right_product : WeightedRow → ℕ → Float
right_product r i = weighted_product r (256 + i)

-- The sums of rows alike but for the sign of y: the 256 places of A are equal, and those of g are opposite.
use Rattle.std.proofs.Common.{sym, ap₂, subst₂}
use Rattle.std.specs.Prelude.{List, ℕ, get_or, Float}
use Rattle.std.specs.Float.{nan, binary64}
use Rattle.std.specs.Float.Ieee.{of_bits, add}
use Rattle.value.specs.Numbers.{zero_f}
use Rattle.value.specs.Total.{total_f}
use Rattle.monomial.specs.Rows.{WeightedRow, weighted_row, rows_in}
use Rattle.monomial.specs.Adding.{add_one, sums}
use Rattle.monomial.specs.Sums.{sums_of}
use Rattle.monomial.specs.SumLaws.{weighted_right, matrix_same, right_is}
use Rattle.monomial.specs.Parts.{without_y, right_product}
use Rattle.signs.specs.Opposite.{Opposite}
use Rattle.signs.specs.OppositeLaws.{opposite_zero}
use Rattle.signs.specs.Steps.{add_opposite, mul_opposite_left, mul_opposite_right}
use Rattle.mirror.specs.Pairs.{Pairs}
use Rattle.mirror.specs.PairLaws.{pairs_map, pairs_equal, pairs_fold, pairs_each, pairs_replicate}
use Rattle.mirror.specs.Mirror.{MirrorRow, MirrorRows, MirrorWeighted, MirrorWeights, Opposites, MirrorSums}

pub zero_opposite : Opposite zero_f zero_f
unfolding of_bits
zero_opposite = opposite_zero

-- sums in index order from +0 over opposite numbers are opposite
pub total_opposite : {l m : List Float} → Opposites l m → Opposite (total_f l) (total_f m)
total_opposite p = pairs_fold Opposite (add binary64) (add binary64) (λ c d a b q r. add_opposite binary64 q r) zero_opposite p

-- n sums at once over elements of which each adds opposite numbers at each place
pub sums_opposite : {A B : Type 0} {R : A → B → Type 0} (f : A → ℕ → Float) (g : B → ℕ → Float) (n : ℕ)
    → ((a : A) (b : B) (k : ℕ) → R a b → Opposite (f a k) (g b k)) → {l : List A} {m : List B} → Pairs R l m → Opposites (sums f n l) (sums g n m)
unfolding sums add_one
sums_opposite f g n h p =
    pairs_fold Opposites (add_one f n) (add_one g n)
    (λ s t a b o r. pairs_each (λ k v. add binary64 v (f a k)) (λ k v. add binary64 v (g b k)) n (λ k v w x. add_opposite binary64 x (h a b k r)) o)
    (pairs_replicate Opposite zero_opposite n) p

-- (xⁱ × y) × w
right_product_lem : (r q : WeightedRow) (i : ℕ) → MirrorWeighted r q → Opposite (right_product r i) (right_product q i)
right_product_lem r q i h =
    subst₂ Opposite (sym (weighted_right r.row.terms r.row.y r.weight i)) (sym (weighted_right q.row.terms q.row.y q.weight i))
    (rw (h.row.terms, h.weight) (mul_opposite_left binary64 (mul_opposite_right binary64 h.row.y (get_or q.row.terms i nan)) q.weight))

module _ {rs qs : List WeightedRow} (p : MirrorWeights rs qs) where
  pub sums_mirror : MirrorSums (sums_of rs) (sums_of qs)
  sums_mirror =
      record {
        matrix = matrix_same rs qs (pairs_equal without_y without_y (λ r q h. ap₂ (λ t w. weighted_row t zero_f w) h.row.terms h.weight) p);
        right = subst₂ Opposites (sym (right_is rs)) (sym (right_is qs)) (sums_opposite right_product right_product 16 right_product_lem p);
      }

  -- the rows without their weights
  pub rows_in_mirror : MirrorRows (rows_in rs) (rows_in qs)
  rows_in_mirror = pairs_map MirrorRow (λ (r : WeightedRow). r.row) (λ (q : WeightedRow). q.row) (λ r q h. h.row) p

-- Laws of the corner: a smaller one lies in a larger, and rows added to sums that agree there leave sums that do.
use Rattle.std.specs.Prelude.{◌≡◌, refl, ℕ, ◌+◌, ◌*◌, ◌≤◌, ◌<◌, length, get_or, Float}
use Rattle.std.proofs.Common.{sym, ap, ◌∙◌, arith}
use mathlib.Core.List.{List, [], ◌∷◌, ◌++◌}
use Rattle.std.specs.Float.{nan, binary64}
use Rattle.std.specs.Float.Ieee.{add}
use Rattle.loops.specs.Fold.{fold}
use Rattle.loops.specs.PlaceLaws.{each_at}
use Rattle.monomial.specs.Rows.{WeightedRow}
use Rattle.monomial.specs.Sums.{weighted_product, add_row, add_rows, sums_of}
use Rattle.monomial.specs.SumLaws.{length_sums, length_add_row, sums_append}
use Rattle.monomial.specs.Corner.{SameCorner}

pub corner_itself : (k : ℕ) (s : List Float) → SameCorner k s s
corner_itself k s = record { matrix = λ i j a b. refl; right = λ i a. refl }

pub corner_then : {k : ℕ} {s t u : List Float} → SameCorner k s t → SameCorner k t u → SameCorner k s u
corner_then p q = record { matrix = λ i j a b. p.matrix i j a b ∙ q.matrix i j a b; right = λ i a. p.right i a ∙ q.right i a }

-- of a larger corner
pub smaller_corner : (j k : ℕ) (s t : List Float) → j ≤ k → SameCorner k s t → SameCorner j s t
smaller_corner j k s t h w = record { matrix = λ i c a b. w.matrix i c (omega arith) (omega arith); right = λ i a. w.right i (omega arith) }

-- a place of the sums after a row
pub add_row_at : (s : List Float) (r : WeightedRow) (p : ℕ) → 272 ≤ length s → p < 272 → get_or (add_row s r) p nan ≡ add binary64 (get_or s p nan) (weighted_product r p)
unfolding add_row
add_row_at s r p h g = each_at (λ k v. add binary64 v (weighted_product r k)) 272 s p nan g (omega arith)

pub length_add_rows : (s : List Float) (rs : List WeightedRow) → length (add_rows s rs) ≡ length s
unfolding fold
length_add_rows s [] = refl
length_add_rows s (r ∷ rs) = length_add_rows (add_row s r) rs ∙ length_add_row s r

module _ (k : ℕ) (fits : k ≤ 16) where
  -- one row more
  pub row_corner : (s t : List Float) (r : WeightedRow) → 272 ≤ length s → 272 ≤ length t → SameCorner k s t → SameCorner k (add_row s r) (add_row t r)
  row_corner s t r h g w = record { matrix = λ i j a b. place (16 * i + j) (omega arith) (w.matrix i j a b); right = λ i a. place (256 + i) (omega arith) (w.right i a) }
    where
      place : (p : ℕ) → p < 272 → get_or s p nan ≡ get_or t p nan → get_or (add_row s r) p nan ≡ get_or (add_row t r) p nan
      place p l e = add_row_at s r p h l ∙ ap (λ v. add binary64 v (weighted_product r p)) e ∙ sym (add_row_at t r p g l)

  -- any number of rows more
  pub rows_corner : (s t : List Float) (rs : List WeightedRow) → 272 ≤ length s → 272 ≤ length t → SameCorner k s t → SameCorner k (add_rows s rs) (add_rows t rs)
  unfolding fold
  rows_corner s t [] h g w = w
  rows_corner s t (r ∷ rs) h g w =
      rows_corner (add_row s r) (add_row t r) rs (omega (arith, length_add_row s r)) (omega (arith, length_add_row t r)) (row_corner s t r h g w)

  -- s has the sums of the rows rs there; with the rows qs added it has those of both
  pub corner_append : (s t : List Float) (rs qs : List WeightedRow) → 272 ≤ length s → SameCorner k s (sums_of rs) → SameCorner k t (add_rows s qs) → SameCorner k t (sums_of (rs ++ qs))
  corner_append s t rs qs long w m = rw (sums_append rs qs) (corner_then m (rows_corner s (sums_of rs) qs long (omega (arith, length_sums rs)) w))
